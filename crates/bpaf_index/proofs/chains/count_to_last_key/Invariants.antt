use Rattle.std.proofs.Common.{◌≤◌, length}
use Rattle.bpaf_index.specs.Chained.{HasNoKeyFrom}
use Rattle.bpaf_index.proofs.chains.count_to_last_key.Given as goal

abbrev pub invariant-loop-count : goal.invariant-loop-count
invariant-loop-count l = record {
  within : l.count ≤ length l.items;
  keyless : HasNoKeyFrom l.items l.count;
}

abbrev pub decreases-loop-count : goal.decreases-loop-count
decreases-loop-count l = l.count
