use Rattle.std.proofs.Common.{◌≡◌, ℕ, ◌<◌, ◌-◌, true, length}
use Rattle.bpaf_line.specs.Situation.{is_open, is_taken}
use Rattle.bpaf_line.proofs.state.State.adjacent_scope.Given as goal

abbrev pub invariant-loop-place : goal.invariant-loop-place
invariant-loop-place l = (q : ℕ) → q < l.from → is_open l.self q ≡ true → is_taken l.other q ≡ true

abbrev pub decreases-loop-place : goal.decreases-loop-place
decreases-loop-place l = length l.self.context.line - l.from
