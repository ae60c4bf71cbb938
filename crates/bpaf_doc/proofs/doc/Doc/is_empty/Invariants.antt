use Rattle.std.proofs.Common.{◌≡◌, drop, true}
use Rattle.bpaf_doc.specs.Print.{printed, is_blank}
use Rattle.bpaf_doc.proofs.doc.Doc.is_empty.Given as goal

-- the other pieces print nothing just where all of them do
abbrev pub invariant-loop-piece : goal.invariant-loop-piece
invariant-loop-piece l =
    is_blank (printed true (drop l.piece-index l.piece-items)) ≡ is_blank (printed true l.self)
