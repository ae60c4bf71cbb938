-- The texts of phrases behind another one, and of more than two documents.
use Rattle.std.proofs.Common.{◌≡◌, ◌≤◌, ◌∙◌, ◌∷◌, ◌++◌, ℕ, List, [], append_assoc, append-nil, ap}
use Rattle.std.proofs.Common.{sym, refl, arith, length, get_or, map, true, codes}
use Rattle.bpaf_doc.specs.{Print.printed, Print.in_backticks, declared.doc.Piece.Piece}
use Rattle.bpaf_messages.specs.Phrases.{followed_by, phrase_text, phrases_text}
use Rattle.bpaf_messages.specs.{declared.phrases.Phrase.Phrase, Rendering.one_of_texts}

-- those behind a text are it and theirs
pub text_behind : (text : List ℕ) (phrases : List Phrase)
    → followed_by text phrases ≡ text ++ phrases_text phrases
text_behind text [] = sym (append-nil text)
text_behind text (phrase ∷ phrases) =
    text_behind (text ++ phrase_text phrase) phrases
    ∙ (append_assoc text (phrase_text phrase) (phrases_text phrases)
    ∙ sym (ap (λ t. text ++ t) (text_behind (phrase_text phrase) phrases)))

-- of more than two documents the first two are told
pub two_told : (docs : List (List Piece)) (a b : List Piece) → 3 ≤ length docs → a ≡ get_or docs 0 a
    → b ≡ get_or docs 1 b → one_of_texts (map (printed true) docs)
    ≡ in_backticks (printed true a) ++ codes ", " ++ in_backticks (printed true b)
    ++ codes ", or more"
two_told (x ∷ y ∷ z ∷ more) a b many first second = rw (first, second) refl
two_told (x ∷ y ∷ []) a b many first second = absurd (omega arith)
two_told (x ∷ []) a b many first second = absurd (omega arith)
two_told [] a b many first second = absurd (omega arith)
