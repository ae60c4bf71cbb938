-- The places that the loop has passed are taken.
use Rattle.bpaf_laws.specs.Adjacent.{AllTaken}
use Rattle.bpaf_core.proofs.adjacent.first_left.Given as goal

abbrev pub invariant-loop-place : goal.invariant-loop-place
invariant-loop-place l = AllTaken l.state l.from l.place
