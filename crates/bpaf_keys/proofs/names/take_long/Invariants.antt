-- None of the words that the loop has passed was taken.
use Rattle.std.proofs.Common.{None, take}
use Rattle.bpaf_laws.specs.Command.{TakesOpening}
use Rattle.bpaf_keys.proofs.names.take_long.Given as goal

abbrev pub invariant-loop-word : goal.invariant-loop-word
invariant-loop-word l = TakesOpening (take l.word-index l.words) l.fn.state None l.state
