use Rattle.std.proofs.Common.{◌≡◌, ℕ, ◌<◌, ◌≤◌, false, Some}
use Rattle.bpaf_line.specs.Situation.{line_item}
use Rattle.bpaf_messages.specs.Leftover.{repeats}
use Rattle.bpaf_messages.proofs.earlier.earlier_key.Given as goal

abbrev pub invariant-loop-later : goal.invariant-loop-later
invariant-loop-later l = record {
  within : l.later ≤ l.place;
  passed : (q : ℕ) → l.later ≤ q → q < l.place
      → repeats (Some l.item) (line_item l.state q) ≡ false;
}

abbrev pub decreases-loop-later : goal.decreases-loop-later
decreases-loop-later l = l.later
