-- Defaults as a help page shows them.
use Rattle.std.specs.Prelude.{◌≡◌, ◌++◌, ℕ, List, Option, Some, None, Result, Ok, String, codes, string_bytes}
use Rattle.std.specs.declared.alloc.{AllocError.AllocError, Global.Global}
use Rattle.bpaf_doc.specs.declared.doc.Piece.{Piece}
use Rattle.bpaf_doc.specs.Print.{text_pieces}

-- the text of a default behind what it stands for
abbrev pub default_text : List ℕ → List ℕ
default_text value = codes "[default: " ++ value ++ codes "]"

-- a document of the default that prints this text; of any, where it isn't known what it prints
abbrev pub IsDefault : Option (List ℕ) → List Piece → Type 0
IsDefault (Some text) doc = doc ≡ text_pieces (default_text text)
IsDefault None doc = (text : List ℕ) × (doc ≡ text_pieces (default_text text))

-- a document of the default as a closure writes it
abbrev pub IsFormatted : {T : Type 0} → (T → Result (String Global) AllocError → Type 0) → T
    → List Piece → Type 0
IsFormatted writes v doc =
    (text : String Global) × writes v (Ok text)
    × (doc ≡ text_pieces (default_text (string_bytes text)))
