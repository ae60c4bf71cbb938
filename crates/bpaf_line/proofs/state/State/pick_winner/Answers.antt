use Rattle.std.proofs.Common.{◌∙◌, ap, sym, subst, refl}
use Rattle.bpaf_line.proofs.Marks.{rest_is, apart_as, winner_as}
use Rattle.bpaf_line.specs.{Taking.IsWinner, Marks.undone, Marks.redone, Inside.IsSoundAt}
use Rattle.bpaf_line.proofs.state.State.pick_winner.Goals as goal

pub least_apart-here-requires : goal.least_apart-here-requires
least_apart-here-requires c = assumption
    (apart_as c.self.inside c.args.self.now c.args.mark.now c.args.other.now
    (subst (IsSoundAt c.self.inside) c.self.view_is c.self.invariant) c.requires.reached
    c.requires.steps _ c.as_slice.result.now
    (rest_is c.args.mark.now.taken c.args.self.now.trail c.deref.result.now _ refl
    (c.deref.ensures.value ∙ ap (λ s. s.trail) c.self.view_is))
    (c.as_slice.ensures ∙ ap (λ steps. steps.taken) c.other.view_is)
    c.deref_mut.result.now c.deref_mut.ensures.value)

pub returns-clause-winner : goal.returns-clause-winner
returns-clause-winner c =
    subst (IsWinner c.args.self.now
    (redone c.args.other.now (undone c.args.mark.now c.args.self.now))) (sym c.leftmost.ensures)
    (winner_as c.self.inside c.args.self.now c.args.mark.now c.args.other.now
    (subst (IsSoundAt c.self.inside) c.self.view_is c.self.invariant) c.requires.reached
    c.requires.steps _ c.as_slice.result.now
    (rest_is c.args.mark.now.taken c.args.self.now.trail c.deref.result.now _ refl
    (c.deref.ensures.value ∙ ap (λ s. s.trail) c.self.view_is))
    (c.as_slice.ensures ∙ ap (λ steps. steps.taken) c.other.view_is)
    _ _ c.least_apart-here.ensures.here c.least_apart-here.ensures.there)
