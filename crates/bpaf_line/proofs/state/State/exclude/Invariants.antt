use Rattle.std.proofs.Common.{◌≡◌, ℕ, List, ◌++◌, take}
use Rattle.bpaf_line.proofs.Marks.{PairsOf}
use Rattle.bpaf_line.proofs.state.State.exclude.Given as goal

abbrev pub invariant-loop-place : goal.invariant-loop-place
invariant-loop-place l = (pairs : List (ℕ × ℕ))
    × (l.conflicts.items ≡ l.fn.conflicts.items ++ pairs)
    × PairsOf l.self l.winner (take l.place-index l.taken) pairs
