-- None of the words that the loop has passed was taken.
use Rattle.std.proofs.Common.{None, take, map, encode_utf8}
use Rattle.bpaf_laws.specs.Command.{TakesOpening}
use Rattle.bpaf_keys.proofs.names.take_short.Given as goal

abbrev pub invariant-loop-short : goal.invariant-loop-short
invariant-loop-short l =
    TakesOpening (map encode_utf8 (take l.short-index l.shorts)) l.fn.state None l.state
