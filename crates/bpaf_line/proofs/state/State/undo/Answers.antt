use Rattle.std.proofs.Common.{◌≡◌, ◌∙◌, ap, sym, map, string_bytes, length, arith}
use Rattle.std.proofs.lemmas.List.{take-map}
use Rattle.bpaf_line.specs.{Situation.with_current, Inside.situation_of}
use Rattle.bpaf_line.proofs.{Sound.sound_path, Sound.path_cut, Marks.undone_cut}
use Rattle.bpaf_line.proofs.state.State.undo.Goals as goal

pub invariant_of-self : goal.invariant_of-self
invariant_of-self c =
    let s = c.self-2.inside in
    let name : s.name ≡ c.args.self.now.context.name = ap (λ t. t.context.name)
    (c.self-2.view_is ∙ c.loop-self.invariant.cut) in
    let path = ap (map string_bytes) c.truncate-2.ensures.items
    ∙ sym (take-map string_bytes c.args.mark.depth s.path.items) in
    sound_path s _ c.self-2.invariant c.truncate.new.self c.truncate-2.new.self
    (rw path (path_cut s.name (map string_bytes s.path.items) c.args.mark.depth
    c.self-2.invariant.named (rw name c.requires.named)))

pub returns-clause-undone : goal.returns-clause-undone
returns-clause-undone c =
    let mark = c.args.mark in
    let all : length c.loop-self.self.trail ≡ mark.taken =
    (let e = ap (λ s. length s.trail) c.self.view_is in omega (
      arith,
      e,
      c.len.ensures,
      c.self.inside.trail.ok.0,
      c.loop-self-test.false,
      c.loop-self.invariant.kept,
    )) in
    ap (λ s. with_current s mark.current) (c.self-3.view_is ∙ c.set_scope.ensures.scope)
    ∙ undone_cut mark c.args.self.now (situation_of c.self-2.inside) _ c.truncate.new.self.items _
    (c.self-2.view_is ∙ c.loop-self.invariant.cut) all c.truncate.ensures.items
    (ap (map string_bytes) c.truncate-2.ensures.items
    ∙ sym (take-map string_bytes mark.depth c.self-2.inside.path.items))
