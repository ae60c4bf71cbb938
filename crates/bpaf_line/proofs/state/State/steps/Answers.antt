use Rattle.std.proofs.Common.{◌≡◌, ◌∙◌, ap, sym, subst, refl, drop, map, string_bytes, arith}
use Rattle.std.proofs.{lemmas.Grind.common_steps, lemmas.List.drop-map}
use Rattle.bpaf_line.specs.Marks.{undone, steps_since, redone, CanRedo}
use Rattle.bpaf_line.specs.Inside.{places_of, IsSoundAt}
use Rattle.bpaf_line.proofs.Marks.{rest_is, redone_undone, can_redo}
use Rattle.bpaf_line.proofs.state.State.steps.Goals as goal

pub returns-clause-steps : goal.returns-clause-steps
returns-clause-steps c =
    let mark = c.args.mark.now in
    let s = c.self.inside in
    let taken : places_of c.in_ok-from_slice.field-0 ≡ drop mark.taken s.trail.items = rest_is
    mark.taken _ _ _ c.in_ok-from_slice.ensures c.deref.ensures.value in
    let conflicts : c.in_ok-from_slice-2.field-0.items ≡ drop mark.conflicts s.conflicts.items =
    rest_is mark.conflicts _ _ _ c.in_ok-from_slice-2.ensures.items c.deref-2.ensures.value in
    let path : map string_bytes c.in_ok-copy_path.field-0.items ≡ drop mark.depth
    (map string_bytes s.path.items) =
    c.in_ok-copy_path.ensures ∙ (ap (map string_bytes)
    (rest_is mark.depth s.path.items c.deref-3.result.now _ refl c.deref-3.ensures.value)
    ∙ sym (drop-map string_bytes mark.depth s.path.items)) in
    rw (taken, conflicts, path) (ap (steps_since mark) c.self.view_is)

pub returns-clause-fit : goal.returns-clause-fit
returns-clause-fit c =
    let h = subst (IsSoundAt c.self.inside) c.self.view_is c.self.invariant in
    subst (λ steps. CanRedo steps (undone c.args.mark.now c.args.self.now))
    (sym (returns-clause-steps c))
    (can_redo c.args.mark.now _ c.requires h.in_turn h.ordered h.inside)

pub returns-clause-again : goal.returns-clause-again
returns-clause-again c = ap (λ steps. redone steps (undone c.args.mark.now c.args.self.now))
    (returns-clause-steps c) ∙ redone_undone c.args.mark.now c.args.self.now

pub offset_bounds-deref-mark-3 : goal.offset_bounds-deref-mark-3
offset_bounds-deref-mark-3 c = grind (arith, common_steps)

pub slice_bounds-copy_path-count : goal.slice_bounds-copy_path-count
slice_bounds-copy_path-count c = grind (arith, common_steps)

pub slice_bounds-copy_path-start : goal.slice_bounds-copy_path-start
slice_bounds-copy_path-start c = grind (arith, common_steps)
