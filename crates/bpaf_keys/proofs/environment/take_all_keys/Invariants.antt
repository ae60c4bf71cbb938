-- The keys so far were taken in turn, and the last text is that of those.
use Rattle.std.proofs.Common.{ℕ, List}
use Rattle.bpaf_line.specs.Situation.{open_count}
use Rattle.bpaf_laws.specs.{Leaves.TakesKeysWithTexts, Combinators.EndsIn}
use Rattle.bpaf_keys.proofs.environment.take_all_keys.Given as goal

abbrev pub invariant-loop-last : goal.invariant-loop-last
invariant-loop-last g l =
    (texts : List (List ℕ)) × TakesKeysWithTexts l.argument l.fn.state texts l.state
    × EndsIn texts l.last

abbrev pub decreases-loop-last : goal.decreases-loop-last
decreases-loop-last g l = open_count l.state
