use Rattle.std.proofs.Common.{◌-◌}
use Rattle.bpaf_line.specs.Taking.{HasNoneBefore}
use Rattle.bpaf_line.proofs.state.State.first_in_turn.Given as goal

abbrev pub invariant-loop-place : goal.invariant-loop-place
invariant-loop-place g l = HasNoneBefore (g.T.ItemTest.accepts l.test) l.self l.place

abbrev pub decreases-loop-place : goal.decreases-loop-place
decreases-loop-place g l = l.end - l.place
