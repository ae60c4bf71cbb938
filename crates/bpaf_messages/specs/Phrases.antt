-- The text of a message, phrase by phrase.
use Rattle.std.specs.Prelude.{ℕ, List, [], fold, true, ◌++◌}
use Rattle.bpaf_doc.specs.Print.{folded_whole, in_backticks, printed}
use Rattle.bpaf_messages.specs.declared.phrases.Phrase.{Phrase}
use Rattle.bpaf_messages.specs.declared.phrases.Phrase.TheVariants.{Plain, Literal, Told, Term}
use Rattle.bpaf_messages.specs.declared.phrases.Phrase.TheVariants.{Metavar, Wrong, Quoted}

-- the text of a phrase: as it is, folded, or between two backticks
abbrev pub phrase_text : Phrase → List ℕ
phrase_text (Plain text) = text.now
phrase_text (Literal text) = text.now
phrase_text (Told text) = folded_whole text.now
phrase_text (Term text) = in_backticks text.now
phrase_text (Metavar text) = in_backticks text.now
phrase_text (Wrong text) = in_backticks text.now
phrase_text (Quoted doc) = in_backticks (printed true doc.now)

-- a text and those of phrases, one behind the other
abbrev pub followed_by : List ℕ → List Phrase → List ℕ
followed_by text phrases = fold (λ before phrase. before ++ phrase_text phrase) text phrases

-- the texts of phrases
abbrev pub phrases_text : List Phrase → List ℕ
phrases_text phrases = followed_by [] phrases
