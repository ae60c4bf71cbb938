use Rattle.std.proofs.Common.{◌≡◌, ◌-◌, ◌≤◌}
use Rattle.bpaf_index.specs.Bits.{count_clear}
use Rattle.bpaf_index.proofs.bits.count_clear.Given as goal

abbrev pub invariant-loop-place : goal.invariant-loop-place
invariant-loop-place l = record {
  counted : l.count ≡ count_clear l.words l.from l.place;
  above : l.from ≤ l.place;
  within : l.place ≤ l.end;
}

abbrev pub decreases-loop-place : goal.decreases-loop-place
decreases-loop-place l = l.end - l.place
