use Rattle.std.proofs.Common.{◌≡◌, ◌++◌, length, string_bytes}
use denote.Shadow.{shadow}
use denote.Text.{Utf8}
use Rattle.bpaf_doc.specs.Print.{folded, folded_after}
use Rattle.bpaf_doc.proofs.fold.folded_lines.Given as goal

-- what is printed so far, and the rest folded, are the whole text folded
abbrev pub invariant-loop-line : goal.invariant-loop-line
invariant-loop-line l =
    (string_bytes l.out ++ folded_after l.after_break l.rest ≡ folded l.fn.text)
    × shadow (Utf8 l.rest)

-- the rest grows shorter
abbrev pub decreases-loop-line : goal.decreases-loop-line
decreases-loop-line l = length l.rest
