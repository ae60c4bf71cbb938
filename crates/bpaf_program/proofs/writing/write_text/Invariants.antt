-- All of the text is written but the rest.
use Rattle.std.proofs.Common.{length}
use Rattle.bpaf_program.proofs.Running.{IsWrittenBut}
use Rattle.bpaf_program.proofs.writing.write_text.Given as goal

abbrev pub invariant-loop-rest : goal.invariant-loop-rest
invariant-loop-rest g l =
    let contents = g.S.Sink.known.contents in
    IsWrittenBut (contents l.fn.out) (contents l.out) l.rest l.text

abbrev pub decreases-loop-rest : goal.decreases-loop-rest
decreases-loop-rest g l = length l.rest
