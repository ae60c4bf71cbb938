use Rattle.std.proofs.Common.{◌∙◌, subst, sym}
use Rattle.bpaf_line.proofs.Places.{none_in_front, none_up_to}
use Rattle.bpaf_line.specs.Inside.{IsSoundAt}
use Rattle.bpaf_line.proofs.state.State.first_in_turn.Goals as goal

pub loop-place-init : goal.loop-place-init
loop-place-init g c = none_in_front _ c.args.self.now c.self.inside.first
    (subst (IsSoundAt c.self.inside) c.self.view_is c.self.invariant).first

pub loop-place-preserved : goal.loop-place-preserved
loop-place-preserved g c = none_up_to _ c.args.self.now c.loop-place.place c.loop-place.invariant
    (sym c.passes_at.ensures ∙ c.if-passes_at.false)
