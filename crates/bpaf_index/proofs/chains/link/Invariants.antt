use Rattle.bpaf_index.proofs.Chained.{IsLinkedFrom}
use Rattle.bpaf_index.proofs.chains.link.Given as goal

abbrev pub invariant-loop-place : goal.invariant-loop-place
invariant-loop-place l = IsLinkedFrom l.classes l.next l.heads l.place

abbrev pub decreases-loop-place : goal.decreases-loop-place
decreases-loop-place l = l.place
