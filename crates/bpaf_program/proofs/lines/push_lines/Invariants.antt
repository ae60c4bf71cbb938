-- The lines of the texts that the loop has passed are appended.
use Rattle.std.proofs.Common.{◌≡◌, ◌++◌, map, drop, string_bytes}
use Rattle.bpaf_program.specs.Ending.{line_each}
use Rattle.bpaf_program.proofs.lines.push_lines.Given as goal

abbrev pub invariant-loop-line : goal.invariant-loop-line
invariant-loop-line l =
    string_bytes l.text ++ line_each l.front (map string_bytes (drop l.line-index l.texts))
    ≡ string_bytes l.fn.text ++ line_each l.front (map string_bytes l.texts)
