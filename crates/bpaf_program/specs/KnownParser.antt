-- What is known of the parsers that a function of a program makes or is handed: their fields,
-- their values, and of what they are made.
use Rattle.std.specs.Prelude.{String as StringIn, string_bytes, Result, Option, false, List, true}
use Rattle.bpaf_grammar.specs.Grammar.{shorts_of, outcome_of, mapped, many, cloned, FieldsGrammar}
use Rattle.bpaf_grammar.specs.Grammar.{command_words, GrammarOf, choice, fallback, optional}
use Rattle.bpaf_grammar.specs.Grammar.{Grammar, command, keys_of, both, product, closed, repeat}
use Rattle.bpaf.specs.Asked.{nothing_shown, BehindWord, WordsShow, OneShows, RunShows, HandsOn}
use Rattle.std.specs.Prelude.{IfOk, Bool, None, Some, ◌≡◌, [], ℕ}
use Rattle.std.specs.{declared.alloc.Global.Global, Global.Vec}
use Rattle.bpaf_grammar.specs.Grammar.{alone, flag, describes_of, guarded, reads_of}
use Rattle.bpaf_grammar.specs.Words.{Deals, names_of}
use Rattle.bpaf_words.specs.{Arguments.Given, Line.Known}
use Rattle.bpaf_line.specs.{declared.failure.ParseFailure.ParseFailure, Situation.Context}
use Rattle.bpaf_doc.specs.{declared.doc.Piece.Piece, Print.text_pieces, Shape.Shape, Names.Names}
use Rattle.bpaf_laws.specs.{Reading.Readings, Reading.Share, Command.named_only}
use Rattle.bpaf.specs.{Info.plain_info, Info.RunInfo, Asked.Showing}
use Rattle.bpaf_exact.specs.{Flat.map_closure, Flat.Variables, Flat.Closure, ProgramForm.FormLaw}
use Rattle.bpaf_exact.specs.Parts.{PartFormLaw}
use Rattle.bpaf_record.specs.Record.{IsProgramValueOf, IsValueOrWant}
use Rattle.bpaf_record.specs.Program.{part_form, program_form}
use Rattle.bpaf_text.specs.Named.{key_named}
pub use Rattle.bpaf_laws.specs.Reading.{IsKept}

-- a text of a program
abbrev pub String : Type 0
String = StringIn Global

-- a text means itself
abbrev pub MeansText : List ℕ → String → Type 0
MeansText text word = string_bytes word ≡ text

-- a closure that makes this of a value
abbrev pub makes : {A B : Type 0} → (A → B) → Closure A B
makes make = map_closure (λ x v. v ≡ make x)

-- the names by which words are read for a program made so, without keys or settings of its own
abbrev pub program_names : {T : Type 0} → Grammar T → Known
program_names g = names_of g plain_info

-- v is a value of a program that is made so on the line of what it is given
abbrev pub IsValueBy : {T : Type 0} → Grammar T → Given → T → Type 0
IsValueBy g given = IsProgramValueOf (program_names g) (program_form g given.env) given

-- an answer is exact: only one of these values, and where there is one, that or want of memory
pub record IsExactFor {T : Type 0} (value : T → Type 0) (r : Result T ParseFailure) : Type 0 where
  pub sound : IfOk r value
  pub complete : (v : T) → value v → IsValueOrWant value r

-- v is dealt out by what is made so to the line of what it is given
abbrev pub IsDealtBy : {T : Type 0} → Grammar T → Given → T → Type 0
IsDealtBy g = Deals g plain_info

-- the pages that what is made so hands on: of each command the run behind its word was asked for
-- its page, or a command inside was
abbrev pub inner_pages : {fields : Bool} {T : Type 0} → GrammarOf fields T → Showing
inner_pages (closed f g) = inner_pages g
inner_pages (optional catch g) = inner_pages g
inner_pages (fallback shown d g) = inner_pages g
inner_pages (repeat f g) = inner_pages g
inner_pages (choice g h) = OneShows (inner_pages g) (inner_pages h)
inner_pages (command adjacent called info help g) =
    BehindWord called (RunShows (describes_of g) info (inner_pages g))
inner_pages (alone g) = inner_pages g
inner_pages (both g h) = OneShows (inner_pages g) (inner_pages h)
inner_pages (product makes g) = inner_pages g
inner_pages _ = nothing_shown

-- the words ask for this page of a program that is made so and has such texts: for its own, or
-- behind the word of a command for that of the command
abbrev pub IsPageOf : {T : Type 0} → Grammar T → (texts : RunInfo → Type 0) → Given → List Piece
    → Bool → Type 0
IsPageOf g texts given doc full = (info : RunInfo) × texts info
    × WordsShow (names_of g info) given
    (RunShows (describes_of g) info (inner_pages g)) doc full

-- each reading of the one is a reading of the other
abbrev pub IsAlso : {T : Type 0} → Readings T → Readings T → Type 0
IsAlso {T} first second =
    (context : Context) (share : Share) (v : T) → first context share v → second context share v

-- A parser is known whose closures promise what those of a grammar do: it keeps to the law of what
-- this is made of, reads what that reads, shows what that shows, and hands on no pages but those of
-- its commands.
pub record IsKnownParser {T : Type 0} (known made : Grammar T) : Type 0 where
  pub law : (variables : Variables)
      → FormLaw variables (outcome_of made) (keys_of known true) (command_words known)
      (program_form known variables)
  pub part : (variables : Variables)
      → PartFormLaw variables (outcome_of made) (keys_of known true) (part_form known variables)
  pub also : IsAlso (reads_of made) (reads_of known)
  pub shows : (shape : Shape) → describes_of made shape → describes_of known shape
  pub shown : shorts_of made ≡ shorts_of known
  pub hands : HandsOn (inner_pages known) (outcome_of made)

-- fields are known to be made by a grammar as a parser is
pub record AreKnownFields {V : Type 0} (known made : FieldsGrammar V) : Type 0 where
  pub law : (variables : Variables)
      → FormLaw variables (outcome_of made) (keys_of known true) [] (program_form known variables)
  pub part : (variables : Variables)
      → PartFormLaw variables (outcome_of made) (keys_of known true) (part_form known variables)
  pub also : IsAlso (reads_of made) (reads_of known)
  pub shows : (shapes : List Shape) → describes_of made shapes → describes_of known shapes
  pub shown : shorts_of made ≡ shorts_of known
  pub hands : HandsOn (inner_pages known) (outcome_of made)

-- a help of this text
abbrev pub help_of : List ℕ → Option (List Piece)
help_of text = Some (text_pieces text)

-- a switch, with some help or none
abbrev pub known_switch : Names → (help : Option (List Piece)) → Grammar Bool
known_switch names help =
    flag IsKept (record (key_named names) { help = help }) true (Some false)

-- a repeat
abbrev pub known_many : {T : Type 0} → Grammar T → Grammar (Vec T)
known_many = repeat (many false)

-- what may be left out
abbrev pub known_optional : {T : Type 0} → Grammar T → Grammar (Option T)
known_optional = optional false

-- what is this value where it is left out
abbrev pub known_default : {T : Type 0} → T → Grammar T → Grammar T
known_default value = fallback None (cloned IsKept value)

-- what this is made of
abbrev pub known_map : {A B : Type 0} → (A → B) → Grammar A → Grammar B
known_map make = closed (mapped (λ x v. v ≡ make x))

-- a value of which what is seen passes this check; else it is refused with a message
abbrev pub known_guard : {T X : Type 0} → (T → X) → (X → Bool) → (message : List ℕ) → Grammar T
    → Grammar T
known_guard see check message = closed (guarded (λ x b. b ≡ check (see x)) message)

-- a command of this word over a program
abbrev pub known_command : {T : Type 0} → List ℕ → Grammar T → Grammar T
known_command word = command false (named_only word) plain_info None

-- fields of which this is made
abbrev pub known_con : {A B : Type 0} → (A → B) → FieldsGrammar A → Grammar B
known_con make = product (λ x v. v ≡ make x)

-- only the version and the texts round the usage of the help page are other
pub record HasOtherTexts (before after : RunInfo) : Type 0 where
  pub usage : after.usage ≡ before.usage
  pub help_arg : after.help_arg ≡ before.help_arg
  pub version_arg : after.version_arg ≡ before.version_arg
  pub help_if_no_args : after.help_if_no_args ≡ before.help_if_no_args
  pub max_width : after.max_width ≡ before.max_width
  pub numbers : after.numbers ≡ before.numbers
