-- Texts that words mean, each of which means itself, are the texts of those words.
use Rattle.std.proofs.Common.{arith, ◌≡◌, List, [], ◌∷◌, map, refl, string_bytes, ℕ}
use Rattle.std.specs.List.{AllZip}
use Rattle.bpaf_program.specs.KnownParser.{MeansText, String}

-- the texts of words are those that they are read off
pub texts_are : (texts : List (List ℕ)) (words : List String) → AllZip MeansText texts words
    → map string_bytes words ≡ texts
texts_are [] [] all = refl
texts_are [] (word ∷ words) all = absurd all
texts_are (text ∷ texts) [] all = absurd all
texts_are (text ∷ texts) (word ∷ words) all = grind (arith, texts_are texts words all.1)
