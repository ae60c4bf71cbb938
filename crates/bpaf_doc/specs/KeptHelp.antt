-- What a help is kept as.
use Rattle.std.specs.Prelude.{List}
use Rattle.bpaf_doc.specs.{declared.doc.Piece.Piece, declared.help.Kept.Kept, Print.text_pieces}
use Rattle.bpaf_doc.specs.declared.help.Kept.TheVariants.{Text, Doc}

-- the pieces that are shown, whatever they are kept as
abbrev pub shown_of : Kept → List Piece
shown_of (Text text) = text_pieces text.now
shown_of (Doc doc) = doc
