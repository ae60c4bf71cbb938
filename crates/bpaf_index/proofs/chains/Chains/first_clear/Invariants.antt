use Rattle.std.proofs.Common.{◌-◌, length}
use Rattle.bpaf_index.specs.{Bits.has_bit, Chained.HasWalked}
use Rattle.bpaf_index.proofs.chains.Chains.first_clear.Given as goal

abbrev pub invariant-loop-place : goal.invariant-loop-place
invariant-loop-place l = HasWalked l.self.classes (has_bit l.words) l.from l.place

abbrev pub decreases-loop-place : goal.decreases-loop-place
decreases-loop-place l = length l.self.classes - l.place
