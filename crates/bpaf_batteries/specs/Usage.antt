-- The text that a parser shows where help is asked for.
use Rattle.std.specs.Prelude.{◌≡◌, ◌∷◌, [], ℕ, List, Result, Ok, Err, Option, Some, None, ⊤, codes}
use Rattle.std.specs.Prelude.{option_map, string_bytes, String}
use Rattle.std.specs.{declared.alloc.AllocError.AllocError, declared.alloc.Global.Global}
use Rattle.bpaf_doc.specs.Print.{printed}
use Rattle.bpaf_line.specs.declared.failure.ParseFailure.{ParseFailure}
use Rattle.bpaf_line.specs.declared.failure.ParseFailure.TheVariants.{Stdout, Stderr, Memory}
use Rattle.bpaf_words.specs.Arguments.{Given}

-- what a run is given where help is asked for: the one word `--help`
abbrev pub help_asked : Given
help_asked = record { words = codes "--help" ∷ []; env = []; name = None }

-- the text that a run without a value shows on standard output: of a message none; want of memory
-- has no answer
abbrev pub TellsText : ParseFailure → Option (List ℕ) → Type 0
TellsText (Stdout doc full) text = text ≡ Some (printed full doc)
TellsText (Stderr doc) text = text ≡ None
TellsText Memory text = ⊥

-- that of a run's answer: of a value none
abbrev pub ShowsText : {T : Type 0} → Result T ParseFailure → Option (List ℕ) → Type 0
ShowsText (Ok v) text = text ≡ None
ShowsText (Err failure) text = TellsText failure text

-- the text of an answer that the run may give; refused only for want of memory
abbrev pub TellsUsage : {T : Type 0} → (Result T ParseFailure → Type 0)
    → Result (Option (String Global)) AllocError → Type 0
TellsUsage {T} runs (Ok text) =
    (answer : Result T ParseFailure) × runs answer × ShowsText answer (option_map string_bytes text)
TellsUsage runs (Err e) = ⊤
