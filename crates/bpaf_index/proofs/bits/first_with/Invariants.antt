use Rattle.std.proofs.Common.{◌≡◌, ℕ, ◌-◌, ◌<◌, ◌≤◌, not}
use Rattle.bpaf_index.specs.Bits.{has_bit}
use Rattle.bpaf_index.proofs.bits.first_with.Given as goal

abbrev pub invariant-loop-place : goal.invariant-loop-place
invariant-loop-place l = record {
  from : l.from ≤ l.place;
  within : l.place ≤ l.end;
  passed : (q : ℕ) → l.from ≤ q → q < l.place → has_bit l.words q ≡ not l.bit;
}

abbrev pub decreases-loop-place : goal.decreases-loop-place
decreases-loop-place l = l.end - l.place
