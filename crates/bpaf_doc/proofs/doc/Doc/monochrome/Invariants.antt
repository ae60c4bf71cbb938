use Rattle.std.proofs.Common.{◌≡◌, ◌++◌, drop, string_bytes}
use Rattle.bpaf_doc.specs.Print.{printed}
use Rattle.bpaf_doc.proofs.doc.Doc.monochrome.Given as goal

-- what was printed so far, and what the other pieces print
abbrev pub invariant-loop-piece : goal.invariant-loop-piece
invariant-loop-piece l =
    string_bytes l.all ++ printed l.full (drop l.piece-index l.piece-items) ≡ printed l.full l.self
