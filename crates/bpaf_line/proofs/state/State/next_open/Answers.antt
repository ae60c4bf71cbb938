use Rattle.std.proofs.Common.{ap, subst, ◌∙◌, get_or}
use Rattle.bpaf_line.proofs.{Sound.open_item_is, Places.items_next}
use Rattle.bpaf_line.specs.Inside.{IsSoundAt}
use Rattle.bpaf_line.proofs.state.State.next_open.Goals as goal

pub returns-clause-next : goal.returns-clause-next
returns-clause-next c = (
  c.in_ok-place.ensures,
  open_item_is c.self.inside c.args.self.now
      (subst (IsSoundAt c.self.inside) c.self.view_is c.self.invariant) c.in_ok-place.place
      c.index.result.now c.in_ok-place.ensures.present (c.index.ensures
      ∙ ap (λ s. get_or s.context.line c.in_ok-place.place c.index.result.now) c.self.view_is),
)

pub returns-clause-items : goal.returns-clause-items
returns-clause-items c = items_next c.args.self.now c.args.from c.in_ok-place.place
    c.index.result.now c.in_ok-place.ensures (returns-clause-next c).1
