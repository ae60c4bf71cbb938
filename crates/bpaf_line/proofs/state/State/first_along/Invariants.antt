use Rattle.std.proofs.Common.{◌-◌, not}
use Rattle.bpaf_index.specs.Chained.{HasWalked}
use Rattle.bpaf_line.specs.Taking.{is_match}
use Rattle.bpaf_line.proofs.state.State.first_along.Given as goal

abbrev pub invariant-loop-place : goal.invariant-loop-place
invariant-loop-place g l =
    HasWalked l.chains.classes (λ p. not (is_match (g.T.ItemTest.accepts l.test) l.self p)) l.start
    l.place

abbrev pub decreases-loop-place : goal.decreases-loop-place
decreases-loop-place g l = l.end - l.place
