use Rattle.std.proofs.Common.{◌-◌, length}
use Rattle.bpaf_base.specs.Items.{is_positional}
use Rattle.bpaf_line.specs.Taking.{HasNoneBefore}
use Rattle.bpaf_line.proofs.state.State.first_word.Given as goal

abbrev pub invariant-loop-place : goal.invariant-loop-place
invariant-loop-place l = HasNoneBefore is_positional l.self l.next

abbrev pub decreases-loop-place : goal.decreases-loop-place
decreases-loop-place l = length l.self.context.line - l.next
