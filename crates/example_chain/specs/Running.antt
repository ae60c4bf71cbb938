-- What a run answers: the steps that its words have, a line for each, or a page of help.
use Rattle.std.specs.Prelude.{◌≡◌, ℕ, ℤ, Bool, List, [], ◌∷◌, Some, codes, ◌++◌, if◌then◌else◌}
use Rattle.std.specs.{Fmt.decimal, Fmt.signed_decimal, Prelude.true, Global.Vec}
use Rattle.bpaf_program.specs.OfCommands.{alone, both, choice, command, FieldsGrammar, Grammar}
use Rattle.bpaf_program.specs.OfCommands.{word, known_con, known_many, known_map, known_switch}
use Rattle.bpaf_program.specs.OfCommands.{Given, help_of, IsDealtBy, IsPageOf, line, named_only}
use Rattle.bpaf_program.specs.OfCommands.{Names, Piece, plain_info, printed, RunInfo, short_descr}
use Rattle.bpaf_program.specs.OfCommands.{SpellsSigned, SpellsUnsigned, text_pieces, Unrestricted}
use mir.Syntax.{w64}
use Rattle.example_chain.specs.declared.steps.Step.{Step}
use Rattle.example_chain.specs.declared.steps.Step.TheVariants.{Move, Turn, Repeat}

-- what the program is given
abbrev pub program_given : List (List ℕ) → Given
program_given words = record { words = words; env = []; name = Some (codes "chain") }

-- the name of the switch by which a turn goes to the left
abbrev pub left_names : Names
left_names = record { shorts = []; longs = codes "left" ∷ [] }

-- what a run knows beside its parser is this text alone, which describes it
abbrev pub described : List ℕ → RunInfo
described text = record plain_info { descr = Some (text_pieces text) }

-- one stretch of words: this name, and what is read behind it; the text describes it
abbrev pub chained : {T : Type 0} → (name text : List ℕ) → Grammar T → Grammar T
chained name text = command true (named_only name) (described text) (short_descr (described text))

-- these values, as they are
abbrev pub tuple : {V : Type 0} → FieldsGrammar V → Grammar V
tuple = known_con (λ values. values)

-- `move DX DY`
abbrev pub go_parser : Grammar (ℤ × ℤ)
go_parser = chained (codes "move") (codes "Moves by so far") (tuple (both
    (word (SpellsSigned w64) Unrestricted (codes "DX") (help_of (codes "How far to the right")))
    (alone (word (SpellsSigned w64) Unrestricted (codes "DY") (help_of (codes "How far up"))))))

-- `turn [--left] DEGREES`
abbrev pub turn_parser : Grammar (Bool × ℕ)
turn_parser = chained (codes "turn") (codes "Turns where it stands") (tuple (both
    (known_switch left_names (help_of (codes "To the left")))
    (alone (word (SpellsUnsigned 64) Unrestricted (codes "DEGREES")
    (help_of (codes "How far to turn"))))))

-- `repeat N`
abbrev pub repeat_parser : Grammar ℕ
repeat_parser = chained (codes "repeat") (codes "Repeats all before it")
    (word (SpellsUnsigned 64) Unrestricted (codes "N") (help_of (codes "How many times")))

-- one of the three commands
abbrev pub step_parser : Grammar Step
step_parser = choice (choice (known_map (λ x. Move x.0 x.1) go_parser)
    (known_map (λ x. Turn x.0 x.1) turn_parser)) (known_map (λ n. Repeat n) repeat_parser)

-- some steps, each of which is one of three kinds
abbrev pub steps_parser : Grammar (Vec Step)
steps_parser = known_many step_parser

-- all places of the words' line but the first `--` are dealt out to the steps, each used once
abbrev pub AreDealtSteps : List (List ℕ) → Vec Step → Type 0
AreDealtSteps words = IsDealtBy steps_parser (program_given words)

-- the words ask for this help page: that of the program, or that of a command behind its name
abbrev pub IsHelpAsked : List (List ℕ) → List Piece → Bool → Type 0
IsHelpAsked words = IsPageOf steps_parser (λ info. info ≡ plain_info) (program_given words)

-- the line of a turn
abbrev pub turn_line : Bool → ℕ → List ℕ
turn_line left degrees =
    line ((if left then codes "turn left " else codes "turn right ") ++ decimal degrees)

-- the line of a step
abbrev pub step_line : Step → List ℕ
step_line (Move dx dy) = line (codes "move " ++ signed_decimal dx ++ codes " " ++ signed_decimal dy)
step_line (Turn left degrees) = turn_line left degrees
step_line (Repeat times) = line (codes "repeat " ++ decimal times)

-- those of all steps, in order
abbrev pub step_lines : List Step → List ℕ
step_lines [] = []
step_lines (step ∷ steps) = step_line step ++ step_lines steps

-- a text that answers the words: the lines of steps dealt out of them, or a help page they ask for
pub data Answers (words : List (List ℕ)) : List ℕ → Type 0 where
  steps : (all : Vec Step) → AreDealtSteps words all → Answers words (step_lines all.items)
  help : (doc : List Piece) (full : Bool) → IsHelpAsked words doc full
      → Answers words (printed full doc)
