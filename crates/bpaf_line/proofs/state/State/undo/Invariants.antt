use Rattle.std.proofs.Common.{◌≡◌, ◌≤◌, length}
use Rattle.bpaf_line.specs.Situation.{cut_to}
use Rattle.bpaf_line.proofs.state.State.undo.Given as goal

abbrev pub invariant-loop-self : goal.invariant-loop-self
invariant-loop-self l = record {
  cut : l.self ≡ cut_to l.fn.self (length l.self.trail);
  kept : l.mark.taken ≤ length l.self.trail;
}

abbrev pub decreases-loop-self : goal.decreases-loop-self
decreases-loop-self l = length l.self.trail
