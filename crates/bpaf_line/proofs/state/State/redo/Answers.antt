use Rattle.std.proofs.Common.{◌∙◌, ◌++◌, ap, sym, subst, map, string_bytes, arith}
use Rattle.std.proofs.{lemmas.Grind.common_steps, lemmas.List.map-append}
use Rattle.bpaf_line.specs.Situation.{with_current, with_scope, PresentInTurn}
use Rattle.bpaf_line.specs.{Inside.situation_of, Inside.changes_of, Marks.redone}
use Rattle.bpaf_line.proofs.{Sound.sound_path, Sound.path_longer, Marks.redone_parts}
use Rattle.bpaf_line.proofs.state.State.redo.Goals as goal

pub invariant_of-self-2 : goal.invariant_of-self-2
invariant_of-self-2 c =
    let path = ap (map string_bytes) c.in_ok-append.ensures.items
    ∙ map-append string_bytes c.self.inside.path.items c.steps.inside.path.items in
    sound_path c.self.inside _ c.self.invariant c.append-2.new.self c.append.new.self
    (rw path (path_longer c.self.inside.name _ _ c.self.invariant.named))

pub put_all-requires : goal.put_all-requires
put_all-requires c =
    let taken = c.as_slice.ensures ∙ ap (λ steps. steps.taken) c.steps.view_is in
    subst (PresentInTurn (situation_of c.self.inside)) (sym taken)
    (subst (λ s. PresentInTurn s c.args.steps.taken) (sym c.self.view_is) c.requires.present)

pub returns-clause-ok : goal.returns-clause-ok
returns-clause-ok c =
    let s = situation_of c.self.inside in
    let steps = changes_of c.steps.inside in
    let path = ap (map string_bytes) c.in_ok-append.ensures.items
    ∙ map-append string_bytes c.self.inside.path.items c.steps.inside.path.items in
    ap (λ t. with_current t steps.current)
    (c.self-2.view_is ∙ (c.set_scope.ensures.scope
    ∙ ap (λ t. with_scope t steps.start steps.end) c.put_all.ensures))
    ∙ (redone_parts s steps c.as_slice.result.now c.append-2.new.self.items
    (map string_bytes c.append.new.self.items) c.as_slice.ensures
    (c.in_ok-append-2.ensures.items ∙ ap (λ xs. xs ++ steps.conflicts) c.reserve.ensures.items) path
    ∙ (ap (λ changes. redone changes s) c.steps.view_is ∙ ap (redone c.args.steps) c.self.view_is))

pub returns-clause-marks : goal.returns-clause-marks
returns-clause-marks c = grind (arith, common_steps)
