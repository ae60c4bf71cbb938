-- All is written but what the other pieces print.
use Rattle.std.proofs.Common.{drop}
use Rattle.bpaf_doc.specs.Print.{printed}
use Rattle.bpaf_program.proofs.Running.{IsWrittenBut}
use Rattle.bpaf_program.proofs.writing.write_doc.Given as goal

abbrev pub invariant-loop-piece : goal.invariant-loop-piece
invariant-loop-piece g l =
    let contents = g.S.Sink.known.contents in
    IsWrittenBut (contents l.fn.out) (contents l.out)
    (printed l.full (drop l.piece-index l.piece-items)) (printed l.full l.doc)
