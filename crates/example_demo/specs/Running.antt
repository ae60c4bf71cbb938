-- What a run of the program does: which options its words have, what it prints of them, and what
-- it shows where it is asked for help.
use Rattle.std.specs.Prelude.{Result, false, codes, Bool, true, List, Some, ◌++◌, ◌≡◌, ◌∷◌, ℕ, []}
use Rattle.std.specs.{Prelude.string_bytes, Prelude.map, Fmt.decimal, Global.Vec}
use Rattle.bpaf_program.specs.OfCommands.{alone, argument, both, FieldsGrammar, Grammar, word, line}
use Rattle.bpaf_program.specs.OfCommands.{known_con, known_many, known_switch, AnswersByText, Given}
use Rattle.bpaf_program.specs.OfCommands.{help_of, helped_argument, IfShown, IsDealtBy, IsExactFor}
use Rattle.bpaf_program.specs.OfCommands.{IsPageOf, IsValueBy, key_named, KeyWithValue, line_each}
use Rattle.bpaf_program.specs.OfCommands.{MeansText, Names, ParseFailure, Piece, plain_info, String}
use Rattle.bpaf_program.specs.OfCommands.{printed, PrintsTextOf, SpellsUnsigned, truth, Written}
use Rattle.bpaf_program.specs.OfCommands.{Unrestricted}
use Rattle.example_demo.specs.declared.options.Options.{Options}

-- the names of the switch
abbrev pub verbose_names : Names
verbose_names = record { shorts = codes "v"; longs = codes "verbose" ∷ [] }

-- the number: its names, what stands for its value where it is shown, and that the last one counts
abbrev pub number_key : KeyWithValue
number_key = record {
  named = key_named (record { shorts = codes "n"; longs = codes "num" ∷ [] });
  metavar = codes "NUM";
  adjacent = false;
  last = true;
}

-- what the program is given
abbrev pub program_given : List (List ℕ) → Given
program_given words = record { words = words; env = []; name = Some (codes "bpaf_demo") }

-- the values of the switch, the number and the files
abbrev pub FieldValues : Type 0
FieldValues = Bool × (ℕ × Vec String)

-- the options of them
abbrev pub options_of : FieldValues → Options
options_of x = record { verbose = x.0; num = x.1.0; files = x.1.1 }

-- a switch, the number that the text behind the last of its keys spells, and all words
abbrev pub fields : FieldsGrammar FieldValues
fields =
    both (known_switch verbose_names (help_of (codes "Print more")))
    (both (argument (SpellsUnsigned 64) (helped_argument number_key (codes "A number")))
    (alone (known_many
    (word MeansText Unrestricted (codes "FILE") (help_of (codes "Files to read"))))))

-- the program's record: options that are made of them
abbrev pub record_of : Grammar Options
record_of = known_con options_of fields

-- all places of the words' line but the first `--` are dealt out to the fields, each used once
abbrev pub IsDealtOptions : List (List ℕ) → Options → Type 0
IsDealtOptions words = IsDealtBy record_of (program_given words)

-- v is a value of the program's record on words
abbrev pub IsOptionsOf : List (List ℕ) → Options → Type 0
IsOptionsOf words = IsValueBy record_of (program_given words)

-- an answer to words is exact: options only where they are the record's value on the words; and
-- where the record has a value there, one of them, or want of memory
abbrev pub AnswersOptionsExactly : List (List ℕ) → Result Options ParseFailure → Type 0
AnswersOptionsExactly words = IsExactFor (IsOptionsOf words)

-- the texts of the files
abbrev pub file_texts : Options → List (List ℕ)
file_texts v = map string_bytes v.files.items

-- a line for each file
abbrev pub file_lines : List (List ℕ) → List ℕ
file_lines = line_each (codes "file: ")

-- the lines of the options
abbrev pub lines : Options → List ℕ
lines v =
    line (codes "verbose: " ++ truth v.verbose) ++ line (codes "num: " ++ decimal v.num)
    ++ file_lines (file_texts v)

-- the words ask for help, and this is the help page of the program
abbrev pub IsHelpAsked : List (List ℕ) → List Piece → Bool → Type 0
IsHelpAsked words = IsPageOf record_of (λ info. info ≡ plain_info) (program_given words)

-- what is shown in place of options is help that the words ask for
abbrev pub ShowsHelpAsked : List (List ℕ) → ParseFailure → Type 0
ShowsHelpAsked words = IfShown (IsHelpAsked words)

-- a text that answers the words: the lines of options that are dealt out of them and are the
-- record's value on them, or where the record has none the text of the help page that they ask for
pub data Answers (words : List (List ℕ)) : List ℕ → Type 0 where
  options : (v : Options) → IsDealtOptions words v → IsOptionsOf words v → Answers words (lines v)
  help : (doc : List Piece) (full : Bool) → IsHelpAsked words doc full
      → ((v : Options) → ¬ (IsOptionsOf words v)) → Answers words (printed full doc)

-- An answer to words is such a text; where the record has a value on them it is the lines of that,
-- or want of memory. All values on the same words have the same lines.
abbrev pub AnswersLines : List (List ℕ) → Result String ParseFailure → Type 0
AnswersLines words = AnswersByText (Answers words) (IsOptionsOf words) lines

-- a run on words is exact: all values of the record on them have the same lines, and where it has
-- one these are written, but for a failed write and want of memory
abbrev pub PrintsExactly : List (List ℕ) → (out err : Written) → ℕ → Type 0
PrintsExactly words = PrintsTextOf (IsOptionsOf words) lines
