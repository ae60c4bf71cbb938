use Rattle.std.proofs.Common.{◌≡◌, map, take}
use Rattle.bpaf_doc.specs.Print.{shown_as}
use Rattle.bpaf_doc.proofs.doc.Doc.from_pieces.Given as goal

-- the pieces of the texts so far
abbrev pub invariant-loop-text : goal.invariant-loop-text
invariant-loop-text l =
    l.doc ≡ map (λ piece. shown_as piece.1 piece.0.now) (take l.text-index l.pieces)
