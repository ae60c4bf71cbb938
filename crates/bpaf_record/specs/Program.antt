-- What a grammar is to a program, and what values say: the form of a program, the premise of
-- exactness, and what is said of pieces of a line.
use Rattle.std.specs.Prelude.{Option, length, false, Bool, true, List, None, ℕ, Some, zero, ◌&&◌}
use Rattle.std.specs.Prelude.{◌||◌, not, ◌+◌, ◌≡◌, ◌≤◌, Ok, Err}
use Rattle.bpaf_grammar.specs.Grammar.{Default, Grammar, GrammarOf, Repeat, Step, alone, answered}
use Rattle.bpaf_grammar.specs.Grammar.{argument, both, choice, cloned, closed, collect, command}
use Rattle.bpaf_grammar.specs.Grammar.{command_words, count, dressed, fallback, flag, stretch}
use Rattle.bpaf_grammar.specs.Grammar.{guarded, kept, keys_of, last, made, many, mapped, only}
use Rattle.bpaf_grammar.specs.Grammar.{optional, own, parsed, product, repeat, some, word}
use Rattle.bpaf_exact.specs.Flat.{ClosedValue, Variables, OneWord, Closure, ByName, guard_closure}
use Rattle.bpaf_exact.specs.Flat.{list_closure, map_closure, parse_closure, some_closure}
use Rattle.bpaf_exact.specs.ProgramForm.{program_optional, OptionalCommands, program_command}
use Rattle.bpaf_exact.specs.ProgramForm.{DefaultCommands, RepeatCommands, program_default}
use Rattle.bpaf_exact.specs.ProgramForm.{program_last, program_repeat, program_dressed}
use Rattle.bpaf_exact.specs.ProgramForm.{argument_field, program_either, program_closed}
use Rattle.bpaf_exact.specs.ProgramForm.{program_alone, program_field, program_both}
use Rattle.bpaf_exact.specs.ProgramForm.{argument_part_form, flag_part_form, or_part, product_roles}
use Rattle.bpaf_exact.specs.ProgramForm.{whole_program, CommandValue, choice_only, program_con}
use Rattle.bpaf_exact.specs.ProgramForm.{ProgramForm, ChoiceValue, flag_field, word_by, pure_field}
use Rattle.bpaf_exact.specs.ProgramForm.{no_program, program_if, CellsValue, AgreesRound}
use Rattle.bpaf_exact.specs.Parts.{PartForm, kept_part, no_part, of_part, of_parts, part_choice}
use Rattle.bpaf_exact.specs.Parts.{part_closed, part_default, part_group, part_if, part_last}
use Rattle.bpaf_exact.specs.Parts.{part_optional, part_repeat, part_some, some_part}
use Rattle.bpaf_exact.specs.Says.{FieldThenSays, repeated_kind, ArgumentSays, FallbackSays, BothSay}
use Rattle.bpaf_exact.specs.Says.{OptionalSays, EitherSays, FieldsSaid, RecordSays, RepeatSays}
use Rattle.bpaf_exact.specs.Says.{scope_said, scope_told, first_item, AloneSays, form_kind}
use Rattle.bpaf_exact.specs.Says.{FlagSays, LastSays, MadeSays, SaidKind, WordSays, of_kind}
use Rattle.bpaf_exact.specs.Says.{unkeyed, keyed, Said}
use Rattle.std.specs.List.{list_all}
use Rattle.bpaf_doc.specs.Names.{Names}
use Rattle.bpaf_laws.specs.{Command.opening_words, Reading.first_set}
use Rattle.bpaf_keys.specs.Info.{RunInfo}
use Rattle.bpaf_grammar.specs.Positional.{accepts}
use Rattle.bpaf_exact.specs.Pieces.{are_all_apart, is_key_of_any, are_apart, LinePiece}
use Rattle.bpaf_base.specs.Items.{is_key}

-- none of these keys shares a name with those of help and version
abbrev pub are_unusual : List Names → RunInfo → Bool
are_unusual keys info = list_all (are_apart info.help_arg.names) keys && list_all
    (are_apart info.version_arg.names) keys

-- what a closure makes, as exactness sees it
abbrev pub step_closure : {A B : Type 0} → Step A B → Closure A B
step_closure (mapped answers) = map_closure answers
step_closure (parsed answers shown) = parse_closure answers
step_closure (guarded checks message) = guard_closure checks

-- what a repeat makes of its values
abbrev pub repeat_closure : {A B : Type 0} → Repeat A B → Closure (List A) B
repeat_closure (many {T = T} catch) = list_closure T
repeat_closure (some {T = T} catch message) = some_closure T
repeat_closure (collect catch fills) = map_closure fills
repeat_closure count = map_closure (λ values n. n ≡ length values)

-- whether it catches errors
abbrev pub catches : {A B : Type 0} → Repeat A B → Bool
catches (many catch) = catch
catches (some catch message) = catch
catches (collect catch fills) = catch
catches count = false

-- what stands in for a value that isn't there
abbrev pub default_closure : {T : Type 0} → Default T → Closure (Unit {0}) T
default_closure (cloned clones value) = map_closure (λ u v. clones value v)
default_closure (answered answers shown) = parse_closure (λ u r. answers r)

-- what a repeat makes of a named part
abbrev pub repeated_part : {A B : Type 0} → Repeat A B → PartForm A → PartForm B
repeated_part (many {T = T} catch) form =
    part_if (not catch) (of_part (λ p. part_closed (part_repeat p) (list_closure T)) form)
repeated_part (some catch message) form = part_if (not catch) (of_part part_some form)
repeated_part (collect catch fills) form =
    part_if (not catch) (of_part (λ p. part_closed (part_repeat p) (map_closure fills)) form)
repeated_part count form =
    of_part (λ p. part_closed (part_repeat p) (map_closure (λ values n. n ≡ length values))) form

-- the named part that it is, if it is one, where the environment has these variables
abbrev pub part_form : {fields : Bool} {T : Type 0} → GrammarOf fields T → Variables → PartForm T
part_form (flag clones key present absent) variables =
    flag_part_form clones key present absent variables
part_form (argument means key) variables = argument_part_form means key variables
part_form (kept clones value) variables = some_part (kept_part (clones value))
part_form (closed f g) variables =
    of_part (λ p. part_closed p (step_closure f)) (part_form g variables)
part_form (dressed look g) variables = part_form g variables
part_form (optional catch g) variables =
    part_if (not catch) (of_part part_optional (part_form g variables))
part_form (fallback shown d g) variables =
    of_part (λ p. part_default p (default_closure d)) (part_form g variables)
part_form (repeat f g) variables = repeated_part f (part_form g variables)
part_form (last g) variables = of_part part_last (part_form g variables)
part_form (choice g h) variables = part_if (are_all_apart (keys_of g true) (keys_of h true))
    (of_parts part_choice (part_form g variables) (part_form h variables))
part_form (only g) variables = part_form g variables
part_form (alone g) variables = part_form g variables
part_form (both g h) variables = part_if (are_all_apart (keys_of g true) (keys_of h true))
    (of_parts part_group (part_form g variables) (part_form h variables))
part_form (product makes g) variables =
    of_part (λ p. part_closed p (map_closure makes)) (part_form g variables)
part_form _ variables = no_part

-- what it is to a program where the environment has these variables
abbrev pub program_form : {fields : Bool} {T : Type 0} → GrammarOf fields T → Variables
    → ProgramForm T
program_form (flag clones key present absent) variables =
    flag_field clones key present absent variables
program_form (argument means key) variables = argument_field means key variables
program_form (word means position metavar help) variables = word_by (accepts position) means
program_form (kept clones value) variables = pure_field (clones value)
program_form (closed f g) variables =
    or_part (program_closed (step_closure f) (program_form g variables))
    (part_form (closed f g) variables)
program_form (dressed look g) variables = program_dressed (program_form g variables)
program_form (optional catch g) variables =
    or_part (program_if (not catch) (program_optional (program_form g variables)))
    (part_form (optional catch g) variables)
program_form (fallback shown d g) variables =
    or_part (program_default (default_closure d) (program_form g variables))
    (part_form (fallback shown d g) variables)
program_form (repeat f g) variables = or_part (program_if (not (catches f))
    (program_closed (repeat_closure f) (program_repeat (program_form g variables))))
    (part_form (repeat f g) variables)
program_form (last g) variables =
    or_part (program_last (program_form g variables)) (part_form (last g) variables)
program_form (choice g h) variables =
    or_part (program_either (keys_of g true) (keys_of h true) (command_words g) (command_words h)
    (part_form g variables) (part_form h variables) (program_form g variables)
    (program_form h variables)) (part_form (choice g h) variables)
program_form (only g) variables =
    or_part (choice_only (program_form g variables)) (part_form (only g) variables)
program_form (command adjacent called info help g) variables =
    program_command adjacent (are_unusual (keys_of g false) info) called (program_form g variables)
program_form (alone g) variables = program_alone (program_field (program_form g variables))
program_form (both g h) variables = or_part (program_both (keys_of g true) (keys_of h true)
    (program_field (program_form g variables)) (program_form h variables))
    (part_form (both g h) variables)
program_form (product makes g) variables =
    or_part (program_con (map_closure makes) (program_form g variables))
    (part_form (product makes g) variables)
program_form _ variables = no_program

-- The premise of exactness: whether a closure accepts depends on the pieces alone, or round commands
-- and named parts on what is present. A closure that never refuses needs none.

-- that of a closure round a parser
pub record AgreesWith {A B : Type 0} (f : Closure A B) (g : Grammar A) : Type 0 where
  pub by : (variables : Variables)
      → AgreesRound f (program_form g variables) (part_form g variables)

-- a closure of `map` asks nothing
abbrev pub step_agrees : {A B : Type 0} → Step A B → Grammar A → (premise : Type 0) → Type 0
step_agrees (mapped answers) g premise = premise
step_agrees (parsed answers shown) g premise = premise × AgreesWith (parse_closure answers) g
step_agrees (guarded checks message) g premise = premise × AgreesWith (guard_closure checks) g

-- a closure that stands in for a value doesn't refuse where it may give one
abbrev pub default_agrees : {T : Type 0} → Default T → (premise : Type 0) → Type 0
default_agrees (cloned clones value) premise = premise
default_agrees (answered {T = T} {E = E} answers shown) premise =
    premise × ((v : T) (fault : E) → answers (Ok v) → answers (Err fault) → ⊥)

-- that of all closures
abbrev pub agrees_of : {fields : Bool} {T : Type 0} → GrammarOf fields T → Type 0
agrees_of (closed f g) = step_agrees f g (agrees_of g)
agrees_of (dressed look g) = agrees_of g
agrees_of (optional catch g) = agrees_of g
agrees_of (fallback shown d g) = default_agrees d (agrees_of g)
agrees_of (repeat f g) = agrees_of g
agrees_of (last g) = agrees_of g
agrees_of (choice g h) = agrees_of g × agrees_of h
agrees_of (only g) = agrees_of g
agrees_of (command adjacent called info help g) = agrees_of g
agrees_of (alone g) = agrees_of g
agrees_of (both g h) = agrees_of g × agrees_of h
agrees_of (product makes g) = agrees_of g
agrees_of _ = Unit {0}

-- whether its pieces are keys or words, and how many of the words it takes
abbrev pub said_kind : {fields : Bool} {T : Type 0} → GrammarOf fields T → Variables → SaidKind
said_kind (word means position metavar help) variables = of_kind
    (OneWord (not (accepts position true)))
said_kind (closed f g) variables = said_kind g variables
said_kind (dressed look g) variables = said_kind g variables
said_kind (optional catch g) variables = said_kind g variables
said_kind (fallback shown d g) variables = said_kind g variables
said_kind (repeat f g) variables = repeated_kind (said_kind g variables)
said_kind (last g) variables = repeated_kind (said_kind g variables)
said_kind (product makes g) variables = form_kind (program_form g variables)
said_kind _ variables = of_kind ByName

-- What values say.

-- it ends in commands
abbrev pub ends_in_commands : {fields : Bool} {T : Type 0} → GrammarOf fields T → Bool
ends_in_commands (closed f g) = ends_in_commands g
ends_in_commands (dressed look g) = ends_in_commands g
ends_in_commands (optional catch g) = ends_in_commands g
ends_in_commands (fallback shown d g) = ends_in_commands g
ends_in_commands (repeat f g) = ends_in_commands g
ends_in_commands (last g) = ends_in_commands g
ends_in_commands (choice g h) = ends_in_commands g
ends_in_commands (only g) = ends_in_commands g
ends_in_commands (command adjacent called info help g) = true
ends_in_commands (alone g) = ends_in_commands g
ends_in_commands (both g h) = ends_in_commands h
ends_in_commands (product makes g) = ends_in_commands g
ends_in_commands _ = false

-- What a grammar is made of, as far as its form tells: one evaluation of a key or word; a field;
-- commands; fields of such, and then words or commands; or what may be a named part alone.
pub data Make : Type 0 where
  OneRead WholeField OnlyCommands FlatFields AnyPart : Make

-- with a closure
abbrev pub closed_make : Make → Make
closed_make FlatFields = AnyPart
closed_make make = make

-- with a repeat or a default, or left out
abbrev pub completed_make : Make → Make
completed_make OneRead = WholeField
completed_make OnlyCommands = OnlyCommands
completed_make _ = AnyPart

-- one parser of a choice
abbrev pub only_make : Make → Make
only_make OnlyCommands = OnlyCommands
only_make _ = AnyPart

-- one of two
abbrev pub choice_make : Make → Make → Make
choice_make OnlyCommands other = only_make other
choice_make _ other = AnyPart

-- the last field
abbrev pub alone_make : Make → Make
alone_make AnyPart = AnyPart
alone_make _ = FlatFields

-- what a constructor makes of fields
abbrev pub con_make : Make → Make
con_make FlatFields = FlatFields
con_make _ = AnyPart

-- a field before others
abbrev pub both_make : Make → Make → Make
both_make AnyPart other = AnyPart
both_make _ other = con_make other

-- that of each
abbrev pub make_of : {fields : Bool} {T : Type 0} → GrammarOf fields T → Make
make_of (flag clones key present absent) = OneRead
make_of (argument means key) = OneRead
make_of (word means position metavar help) = OneRead
make_of (kept clones value) = WholeField
make_of (closed f g) = closed_make (make_of g)
make_of (dressed look g) = make_of g
make_of (optional catch g) = completed_make (make_of g)
make_of (fallback shown d g) = completed_make (make_of g)
make_of (repeat f g) = completed_make (make_of g)
make_of (last g) = completed_make (make_of g)
make_of (choice g h) = choice_make (make_of g) (make_of h)
make_of (only g) = only_make (make_of g)
make_of (command adjacent called info help g) = OnlyCommands
make_of (alone g) = alone_make (make_of g)
make_of (both g h) = both_make (make_of g) (make_of h)
make_of (product makes g) = con_make (make_of g)
make_of _ = AnyPart

-- it is no named part alone, whatever its names are
abbrev pub is_flat : Make → Bool
is_flat AnyPart = false
is_flat _ = true

-- what is said of a parser's own pieces, and of fields of the pieces of a line and of the words
-- that are left to them
abbrev pub SaidOf : (fields : Bool) → Type 0 → Type 1
SaidOf false T = Said T
SaidOf true V = FieldsSaid V

-- what a value says so where the environment has these variables
abbrev pub says : {fields : Bool} {T : Type 0} → GrammarOf fields T → Variables → SaidOf fields T
says (flag clones key present absent) variables =
    FlagSays clones present absent (first_set variables key.envs)
says (argument means key) variables =
    ArgumentSays means key.last (first_set variables key.named.envs)
says (word means position metavar help) variables = WordSays (accepts position) means
says (kept clones value) variables = λ os v. clones value v
says (own o) variables = λ os v. ⊥
says (closed f g) variables = MadeSays (says g variables) (step_closure f)
says (made makes g) variables = λ os v. ⊥
says (dressed look g) variables = says g variables
says (optional catch g) variables = OptionalSays (says g variables)
says (fallback shown d g) variables = FallbackSays (says g variables) ((default_closure d).yes tt)
says (repeat f g) variables = MadeSays (RepeatSays (says g variables)) (repeat_closure f)
says (last g) variables = LastSays (says g variables)
says (choice g h) variables = EitherSays (says g variables) (says h variables)
says (only g) variables = says g variables
says (command adjacent called info help g) variables = λ os v. ⊥
says (stretch first g) variables = λ os v. ⊥
says (alone g) variables = AloneSays (said_kind g variables) (keys_of g true) (says g variables)
says (both g h) variables =
    BothSay (said_kind g variables) (keys_of g true) (says g variables) (says h variables)
says (product makes g) variables =
    RecordSays (says g variables) (keys_of g true) (map_closure makes)

-- what is told of the cells of a scope: by pieces or cells, or of a named part what the value is
abbrev pub scope_by : {T : Type 0} → (flat : Bool) → (told exact : CellsValue T) → CellsValue T
scope_by true told exact = told
scope_by false told exact = exact

-- what one says of the cells of its scope that ends in commands
abbrev pub cells_say : {fields : Bool} {T : Type 0} → GrammarOf fields T → Variables
    → CellsValue T
cells_say (closed f g) variables = ClosedValue (cells_say g variables) (step_closure f)
cells_say (dressed look g) variables = cells_say g variables
cells_say (optional {T = T} catch g) variables = OptionalCommands T (cells_say g variables)
cells_say (fallback {T = T} shown d g) variables =
    DefaultCommands T ((default_closure d).yes tt) (cells_say g variables)
cells_say (repeat {A = A} f g) variables =
    ClosedValue (RepeatCommands A (cells_say g variables)) (repeat_closure f)
cells_say (last g) variables = cells_say g variables
cells_say (choice {T = T} g h) variables =
    ChoiceValue T (cells_say g variables) (cells_say h variables)
cells_say (only g) variables = cells_say g variables
cells_say (command {T = T} adjacent called info help g) variables =
    CommandValue T (opening_words called) (scope_by (is_flat (make_of g))
    (scope_said (ends_in_commands g) (product_roles (whole_program (program_form g variables)))
    (says g variables) (cells_say g variables))
    (scope_told (whole_program (program_form g variables))
    (ends_in_commands g) (says g variables) (cells_say g variables)))
cells_say (alone g) variables = cells_say g variables
cells_say (both g h) variables =
    FieldThenSays (keys_of g true) (says g variables) (cells_say h variables)
cells_say (product makes g) variables = ClosedValue (cells_say g variables) (map_closure makes)
cells_say _ variables = λ cs v. ⊥

-- what the value of a whole program says of the cells of its scope
abbrev pub scope_says : {T : Type 0} → Grammar T → Variables → CellsValue T
scope_says g variables = scope_by (is_flat (make_of g))
    (scope_said (ends_in_commands g) (product_roles (whole_program (program_form g variables)))
    (says g variables) (cells_say g variables))
    (scope_told (whole_program (program_form g variables))
    (ends_in_commands g) (says g variables) (cells_say g variables))

-- whether that is told of cells
abbrev pub tells_cells : (flat in_cells : Bool) → Bool
tells_cells true in_cells = in_cells
tells_cells false in_cells = true

-- What an accepted line has of each at most.

-- its value is read off one piece at most
abbrev pub takes_one : {fields : Bool} {T : Type 0} → GrammarOf fields T → Bool
takes_one (flag clones key present absent) = true
takes_one (argument means key) = not key.last
takes_one (word means position metavar help) = true
takes_one (closed f g) = takes_one g
takes_one (dressed look g) = takes_one g
takes_one (optional catch g) = takes_one g
takes_one (fallback shown d g) = takes_one g
takes_one (choice g h) = takes_one g && takes_one h
takes_one (only g) = takes_one g
takes_one _ = false

-- Of these pieces at most one begins with a key of each field that takes one. A choice is one
-- field: the keys of all its alternatives count together.
abbrev pub HasOneOfEach : {fields : Bool} {T : Type 0} → GrammarOf fields T → List LinePiece
    → Type 0
HasOneOfEach (dressed look g) os = HasOneOfEach g os
HasOneOfEach (alone g) os = HasOneOfEach g os
HasOneOfEach (both g h) os = HasOneOfEach g os × HasOneOfEach h os
HasOneOfEach (product makes g) os = HasOneOfEach g os
HasOneOfEach g os = takes_one g ≡ true → length (keyed (keys_of g true) os) ≤ 1

-- the limit of a repeat: none, where there are any
abbrev pub repeated_limit : Option ℕ → Option ℕ
repeated_limit (Some zero) = Some zero
repeated_limit _ = None

-- that of two together
abbrev pub limit_of_both : Option ℕ → Option ℕ → Option ℕ
limit_of_both (Some m) (Some n) = Some (m + n)
limit_of_both _ _ = None

-- how many positional words it takes at most, if there is a limit
abbrev pub word_limit : {fields : Bool} {T : Type 0} → GrammarOf fields T → Option ℕ
word_limit (word means position metavar help) = Some 1
word_limit (closed f g) = word_limit g
word_limit (dressed look g) = word_limit g
word_limit (optional catch g) = word_limit g
word_limit (fallback shown d g) = word_limit g
word_limit (repeat f g) = repeated_limit (word_limit g)
word_limit (last g) = repeated_limit (word_limit g)
word_limit (alone g) = word_limit g
word_limit (both g h) = limit_of_both (word_limit g) (word_limit h)
word_limit (product makes g) = word_limit g
word_limit _ = Some 0

-- a number is within such a limit
abbrev pub IsWithin : Option ℕ → ℕ → Type 0
IsWithin (Some limit) n = n ≤ limit
IsWithin None n = Unit {0}

-- a piece begins with no key, or with one of these
abbrev pub begins_known : List Names → LinePiece → Bool
begins_known names o = not (is_key (first_item o)) || is_key_of_any names (first_item o)

-- the pieces of a line have no key of nobody, and no occurrence and no word too many
pub record HasNoSurplus {T : Type 0} (g : Grammar T) (os : List LinePiece) : Type 0 where
  pub keys : list_all (begins_known (keys_of g true)) os ≡ true
  pub once : HasOneOfEach g os
  pub words : IsWithin (word_limit g) (length (unkeyed (keys_of g true) os))
