use Rattle.bpaf_line.specs.Taking.{items_left}
use Rattle.bpaf.proofs.LeafLemmas.{HasPassed}
use Rattle.bpaf.proofs.leaves.look.first_match.Given as goal

abbrev pub invariant-loop-place : goal.invariant-loop-place
invariant-loop-place g l = (goal.iterator-loop-place g).can_next l.place-iterator
    × (goal.iterator-loop-place g).is_finite l.place-iterator
    × HasPassed (g.L.Look.looks l.look) l.anywhere l.state (items_left l.place-iterator)
