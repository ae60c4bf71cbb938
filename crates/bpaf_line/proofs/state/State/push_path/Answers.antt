use Rattle.std.proofs.Common.{◌∙◌, ◌∷◌, [], ap, map, string_bytes, arith}
use Rattle.std.proofs.{lemmas.Grind.common_steps, lemmas.List.map-append}
use Rattle.bpaf_line.proofs.Sound.{sound_path, path_longer}
use Rattle.bpaf_line.proofs.state.State.push_path.Goals as goal

pub invariant_of-self-2 : goal.invariant_of-self-2
invariant_of-self-2 c =
    let path = ap (map string_bytes) c.in_ok-push.ensures.items
    ∙ map-append string_bytes c.self.inside.path.items (c.in_ok-entry.entry ∷ []) in
    sound_path c.self.inside _ c.self.invariant c.self.inside.conflicts c.push.new.self
    (rw path (path_longer c.self.inside.name _ _ c.self.invariant.named))

pub returns-clause-ok : goal.returns-clause-ok
returns-clause-ok c = grind (arith, common_steps)

pub returns-clause-marks : goal.returns-clause-marks
returns-clause-marks c = grind (arith, common_steps)
