use Rattle.std.proofs.Common.{◌≡◌, take}
use Rattle.bpaf_doc.proofs.doc.copy_pieces.Given as goal

-- the copies so far
abbrev pub invariant-loop-piece : goal.invariant-loop-piece
invariant-loop-piece l = l.all.items ≡ take l.piece-index l.pieces
