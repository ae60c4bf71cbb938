use Rattle.std.proofs.Common.{◌≡◌, map, take, string_bytes}
use Rattle.bpaf_line.proofs.construct.copy_path.Given as goal

abbrev pub invariant-loop-entry : goal.invariant-loop-entry
invariant-loop-entry l = map string_bytes l.copy.items ≡ map string_bytes
    (take l.entry-index l.path)
