-- What a run answers: the launch that its words ask for, its lines, or the help page.
use Rattle.std.specs.Prelude.{string_bytes, Contains, codes, Bool, List, Some, ◌≡◌, ◌∷◌, map, [], ℕ}
use Rattle.std.specs.{Prelude.Result, Prelude.◌++◌, Global.Vec}
use Rattle.bpaf_program.specs.OfCommands.{alone, both, FieldsGrammar, Grammar, word, known_con}
use Rattle.bpaf_program.specs.OfCommands.{known_many, known_switch, AnswersByText, Given, help_of}
use Rattle.bpaf_program.specs.OfCommands.{IfShown, IsDealtBy, IsExactFor, IsPageOf, IsValueBy, line}
use Rattle.bpaf_program.specs.OfCommands.{line_each, MeansText, Names, NonStrict, ParseFailure}
use Rattle.bpaf_program.specs.OfCommands.{Piece, plain_info, printed, Strict, String, truth}
use Rattle.bpaf_program.specs.OfCommands.{words_before, words_behind}
use Rattle.example_launch.specs.declared.options.Launch.{Launch}

-- the names of the switch by which more is told
abbrev pub verbose_names : Names
verbose_names = record { shorts = codes "v"; longs = codes "verbose" ∷ [] }

-- the names of the switch by which nothing is started
abbrev pub dry_run_names : Names
dry_run_names = record { shorts = []; longs = codes "dry-run" ∷ [] }

-- what the program is given
abbrev pub program_given : List (List ℕ) → Given
program_given words = record { words = words; env = []; name = Some (codes "launch") }

-- the values of the two switches, the name and the words that are passed on
abbrev pub FieldValues : Type 0
FieldValues = Bool × (Bool × (String × Vec String))

-- the launch of them
abbrev pub launch_of : FieldValues → Launch
launch_of x = record { verbose = x.0; dry_run = x.1.0; name = x.1.1.0; words = x.1.1.1 }

-- two switches, a word before `--`, and all words behind it
abbrev pub fields : FieldsGrammar FieldValues
fields =
    both (known_switch verbose_names (help_of (codes "Print more")))
    (both (known_switch dry_run_names (help_of (codes "Start nothing")))
    (both (word MeansText NonStrict (codes "NAME") (help_of (codes "Program to start")))
    (alone (known_many (word MeansText Strict (codes "WORD")
    (help_of (codes "Words to pass on")))))))

-- the program: a launch that is made of them
abbrev pub launcher : Grammar Launch
launcher = known_con launch_of fields

-- all places of the words' line but the first `--` are dealt out to the parts, each used once
abbrev pub IsDealtLaunch : List (List ℕ) → Launch → Type 0
IsDealtLaunch words = IsDealtBy launcher (program_given words)

-- the words ask for a launch: dealt out of them, its name before the first `--`, its words behind
pub record IsLaunchOf (words : List (List ℕ)) (launch : Launch) : Type 0 where
  pub dealt : IsDealtLaunch words launch
  pub named : Contains (words_before words) (string_bytes launch.name)
  pub passed : map string_bytes launch.words.items ≡ words_behind words

-- v is a launch that the words have
abbrev pub IsLaunchValue : List (List ℕ) → Launch → Type 0
IsLaunchValue words = IsValueBy launcher (program_given words)

-- an answer is exact: a launch only if they have it; where they have one, one, or want of memory
abbrev pub AnswersLaunch : List (List ℕ) → Result Launch ParseFailure → Type 0
AnswersLaunch words = IsExactFor (IsLaunchValue words)

-- the lines of a launch
abbrev pub lines : Launch → List ℕ
lines launch =
    line (codes "verbose: " ++ truth launch.verbose)
    ++ line (codes "dry run: " ++ truth launch.dry_run)
    ++ line (codes "name: " ++ string_bytes launch.name)
    ++ line_each (codes "word: ") (map string_bytes launch.words.items)

-- the words ask for help, and this is the help page of the program
abbrev pub IsHelpAsked : List (List ℕ) → List Piece → Bool → Type 0
IsHelpAsked words = IsPageOf launcher (λ info. info ≡ plain_info) (program_given words)

-- what is shown in place of a launch is help that the words ask for
abbrev pub ShowsHelpAsked : List (List ℕ) → ParseFailure → Type 0
ShowsHelpAsked words = IfShown (IsHelpAsked words)

-- a text that answers the words: the lines of a launch, or the help page, that they ask for
pub data Answers (words : List (List ℕ)) : List ℕ → Type 0 where
  launch : (v : Launch) → IsLaunchOf words v → Answers words (lines v)
  help : (doc : List Piece) (full : Bool) → IsHelpAsked words doc full
      → Answers words (printed full doc)

-- an answer to words is such a text; where they have a launch it is its lines, or want of memory
abbrev pub AnswersLines : List (List ℕ) → Result String ParseFailure → Type 0
AnswersLines words = AnswersByText (Answers words) (IsLaunchValue words) lines
