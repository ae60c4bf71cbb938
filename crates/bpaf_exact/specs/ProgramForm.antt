-- What a parser is to a program: how it reads what is present, and the law that this puts on its
-- outcome; and the value that a record or a program has on a line.
use Rattle.std.specs.Prelude.{bytes_eq, Option, Result, length, false, Bool, true, List, Some, None}
use Rattle.std.specs.Prelude.{◌==◌, ◌&&◌, ◌||◌, ◌++◌, ◌≡◌, ◌≤◌, ◌⊎◌, ◌∷◌, Err, not, map, [], Ok, ℕ}
use Rattle.std.specs.{List.list_all, List.AllPass, Option.is_none}
use Rattle.bpaf_base.specs.Items.{is_argument_key, is_positional, is_key_of, item_text, word_text}
use Rattle.bpaf_base.specs.declared.arg.Arg.TheVariants.{ArgWord, Short, Long}
use Rattle.bpaf_base.specs.{declared.arg.Arg.Arg, Items.is_key}
use Rattle.bpaf_doc.specs.Names.{Names}
use Rattle.bpaf_text.specs.Named.{Named as Key, KeyWithValue}
use Rattle.bpaf_line.specs.Situation.{with_current, open_count, Situation, beginning, Context}
use Rattle.bpaf_line.specs.declared.error.Error.{Error}
use Rattle.bpaf_line.specs.{Taking.TakesText, Taking.HasNone, Situation.item_in}
use Rattle.bpaf_laws.specs.Command.{opening_words, IsNotOpened, IsOpenedAt, is_one_of, Called}
use Rattle.bpaf_laws.specs.{Reading.first_set, Reading.Outcome, Leaves.value_without_key}
use Rattle.bpaf_laws.specs.{Combinators.is_nil, Command.inside, Choice.depth}
use Rattle.bpaf_exact.specs.Pieces.{are_all_apart, stands_behind, is_own_role, LinePiece, no_roles}
use Rattle.bpaf_exact.specs.Pieces.{others, Cells, Roles, Apart, Takes, Alone, Owns, Cut, One, Two}
use Rattle.bpaf_exact.specs.Flat.{KeyLaw, FieldsReading, OptionalValue, either_value, class}
use Rattle.bpaf_exact.specs.Flat.{ErrorClass, closed_gap, OfMissing, Variables, FieldKind, OfMemory}
use Rattle.bpaf_exact.specs.Flat.{FieldsLaw, SingleLaw, FieldLaw, AgreesOn, KeepsTo, ReadOff, cells}
use Rattle.bpaf_exact.specs.Flat.{portion, FrontOf, Closure, OneWord, Refused, ByName, Groups, left}
use Rattle.bpaf_exact.specs.Flat.{both_reading, NonePresent, first_cells, SingleValue, ClosedValue}
use Rattle.bpaf_exact.specs.Flat.{gap_of, Caught, EachWord, keys, Gap}
use Rattle.bpaf_exact.specs.Flat.{gap_of, Caught, keys, Gap, FallbackValue, LastOf, OwnList}
use Rattle.bpaf_exact.specs.{Flat.repeated, Flat.IsWholeIn, Flat.Steady}
use Rattle.std.specs.Prelude.{◌<◌}
use Rattle.bpaf_exact.specs.Parts.{Part, PartAlone, PartForm, PartFormAgrees, PartLaw, PartThen}
use Rattle.bpaf_exact.specs.Parts.{key_part, last_key_part, some_part, no_part, never_part}
use Rattle.bpaf_exact.specs.Parts.{part_choice}
use Rattle.bpaf_exact.specs.Pieces.{WithNext, roles_of, is_value, IsNamed, pieces, either}

-- which values some cells have
abbrev pub CellsValue : Type 0 → Type 1
CellsValue V = Cells → V → Type 0

-- A command's word.

-- the first thing present is one of these words, and is taken; nothing is present in front of it
pub data Opens (words : List (List ℕ)) : Cells → Cells → Type 0 where
  opens_here : {k : Arg} {cs : Cells} → is_one_of words k ≡ true
      → Opens words (Some k ∷ cs) (None ∷ cs)
  opens_later : {cs ds : Cells} → Opens words cs ds → Opens words (None ∷ cs) (None ∷ ds)

-- none of these words opens anything
abbrev pub OpensNone : List (List ℕ) → Cells → Type 0
OpensNone words cs = (ds : Cells) → ¬ (Opens words cs ds)

-- Which items a command's word may be.

-- the whole word of a key: none behind another of the same word, else one that begins with a dash
abbrev pub is_dashed : List ℕ → Bool
is_dashed [] = true
is_dashed (b ∷ bs) = b == 45

-- an item as words spell it
abbrev pub is_spelled : Arg → Bool
is_spelled (Short c attached word) = is_dashed word
is_spelled (Long name attached word) = is_dashed word
is_spelled _ = true

-- all items of a line are such
abbrev pub IsSpelledLine : Context → Type 0
IsSpelledLine context = (p : ℕ) (k : Arg) → item_in context p ≡ Some k → is_spelled k ≡ true

-- all that is present is such
pub data AllSpelled : Cells → Type 0 where
  no_cell : AllSpelled []
  empty_cell : {cs : Cells} → AllSpelled cs → AllSpelled (None ∷ cs)
  spelled_cell : {k : Arg} {cs : Cells} → is_spelled k ≡ true → AllSpelled cs
      → AllSpelled (Some k ∷ cs)

-- the names of a command aren't empty, and don't begin with a dash
abbrev pub are_plain : List (List ℕ) → Bool
are_plain words = list_all (λ word. not (is_dashed word)) words

-- The values.

-- a command: its word is the first thing present, and behind it its program has the value
abbrev pub CommandValue : (T : Type 0) → List (List ℕ) → CellsValue T → CellsValue T
CommandValue T words inner cs v = (ds : Cells) × Opens words cs ds × inner ds v

-- a choice of commands: one of them has the value
abbrev pub ChoiceValue : (T : Type 0) → CellsValue T → CellsValue T → CellsValue T
ChoiceValue T first second cs v = first cs v ⊎ second cs v

-- commands that may be left out: nothing is present at all, and it is None
abbrev pub OptionalCommands : (T : Type 0) → CellsValue T → CellsValue (Option T)
OptionalCommands T inner cs (Some v) = inner cs v
OptionalCommands T inner cs None = NonePresent cs

-- commands with a default: they have the value; or nothing is present at all, and it is given
abbrev pub DefaultCommands : (T : Type 0) → (T → Type 0) → CellsValue T → CellsValue T
DefaultCommands T given inner cs v = inner cs v ⊎ (NonePresent cs × given v)

-- a repeat of commands, which leave nothing: their one value; or none, where nothing is present
abbrev pub RepeatCommands : (T : Type 0) → CellsValue T → CellsValue (List T)
RepeatCommands T inner cs [] = NonePresent cs
RepeatCommands T inner cs (v ∷ []) = inner cs v
RepeatCommands T inner cs _ = ⊥

-- a named part or commands: theirs, or where none of their words opens anything the part's alone
pub data PartOrCommands {T : Type 0} (p : Part T) (words : List (List ℕ)) (value : CellsValue T)
    (cs : Cells) (v : T) : Type 0 where
  of_commands : value cs v → PartOrCommands p words value cs v
  of_part : OpensNone words cs → PartAlone p cs v → PartOrCommands p words value cs v

-- a named field before others, the last of which are commands: it has its value on its own pieces,
-- and they have theirs on what is left without these
pub record FieldThen (A B : Type 0) (q : Roles) (first : List LinePiece → A → Type 0)
    (rest : CellsValue B) (cs : Cells) (v : A × B) : Type 0 where
  pub own_pieces : List LinePiece
  pub left_cells : Cells
  pub taken : Takes q cs own_pieces left_cells
  pub own : first own_pieces v.0
  pub left : rest left_cells v.1

-- The laws.

-- where a program has a value, none of the items left to it are those of a field before it
abbrev pub LeavesToOthers : {V : Type 0} → Roles → CellsValue V → Type 0
LeavesToOthers {V = V} r value =
    (q : Roles) → IsNamed q → Apart q r → (cs : Cells) (v : V) → AllSpelled cs → value cs v
    → pieces q cs ≡ []

-- an answer of a program: where it leaves nothing it is one of its values; and where there is one,
-- it is one and leaves nothing
pub record ProgramTook (V : Type 0) (value : CellsValue V) (s : Situation) (v : V)
    (t : Situation) : Type 0 where
  pub deep : depth s ≤ depth t
  pub read : IsSpelledLine s.context → NonePresent (cells t) → value (cells s) v
  pub all : (w : V) → value (cells s) w → value (cells s) v × NonePresent (cells t)

-- The laws of a program, and of commands as the last field of one, with the items that may stand in
-- it. Where it has a value, a refusal is want of memory.
pub record ProgramLaw (variables : Variables) (V : Type 0) (outcome : Outcome V) (r : Roles)
    (value : CellsValue V) : Type 0 where
  pub others : LeavesToOthers r value
  pub keeps : KeepsTo variables V outcome (ProgramTook V value)
      (λ s c t. (w : V) → value (cells s) w → c ≡ OfMemory)

-- such a refusal says that the word is missing, and nothing is taken; or that memory is wanted
abbrev pub FindsNoCommand : Situation → ErrorClass → Situation → Type 0
FindsNoCommand s c t =
    (c ≡ OfMemory) ⊎ ((c ≡ OfMissing) × (cells t ≡ cells s) × Steady s t)

-- The laws of a command, or a choice of them, with its words: what has a value is opened by one of
-- them, an answer has a longer path and leaves nothing; where none is the first thing present it is
-- missing.
pub record CommandsLaw (variables : Variables) (T : Type 0) (outcome : Outcome T) (r : Roles)
    (words : List (List ℕ)) (value : CellsValue T) : Type 0 where
  pub program : ProgramLaw variables T outcome r value
  pub opened : (cs : Cells) (v : T) → value cs v → (ds : Cells) × Opens words cs ds
  pub plain : are_plain words ≡ true
  pub deeper : (s t : Situation) (v : T) → IsWholeIn variables s → outcome s (Ok v) t
      → depth s < depth t
  pub took : (s t : Situation) (v : T) → outcome s (Ok v) t
      → (OpensNone words (cells s) → ⊥) × (open_count t ≡ 0)
  pub none : (s t : Situation) (e : Error) → outcome s (Err e) t → OpensNone words (cells s)
      → FindsNoCommand s (class e) t

-- an answer of a choice of named parts and commands
pub record LastTook {T : Type 0} (p : Part T) (words : List (List ℕ)) (value : CellsValue T)
    (s : Situation) (v : T) (t : Situation) : Type 0 where
  pub deep : depth s ≤ depth t
  pub read : IsSpelledLine s.context → NonePresent (cells t)
      → PartOrCommands p words value (cells s) v
  pub all : (w : T) → value (cells s) w
      → value (cells s) v × NonePresent (cells t) × (depth s < depth t)

-- The laws of a choice of named parts and commands: where none of the words of these opens anything
-- it is a part; and where the commands have a value the answer is one, with a longer path.
pub record LastLaw (variables : Variables) (T : Type 0) (outcome : Outcome T) (r : Roles)
    (words : List (List ℕ)) (p : Part T) (value : CellsValue T) : Type 0 where
  pub part : PartLaw variables T (λ s a t. outcome s a t × OpensNone words (cells s)) p
  pub plain : are_plain words ≡ true
  pub opened : (cs : Cells) (v : T) → value cs v → (ds : Cells) × Opens words cs ds
  pub others : LeavesToOthers r value
  pub keeps : KeepsTo variables T outcome (LastTook p words value)
      (λ s c t. (w : T) → value (cells s) w → c ≡ OfMemory)

-- What runs behind a command's word: a value only where nothing is left present.
pub data CommandEval (T : Type 0) (inner : Outcome T) (called : Called) (s : Situation)
    : Result T Error → Situation → Type 0 where
  command_value : {v : T} {p : ℕ} {t : Situation} → IsOpenedAt (opening_words called) s p
      → inner (inside called s p) (Ok v) t → open_count t ≡ 0 → CommandEval T inner called s
      (Ok v) t
  command_leftover : {v : T} {e : Error} {p : ℕ} {m t : Situation}
      → IsOpenedAt (opening_words called) s p → inner (inside called s p) (Ok v) m
      → (open_count m ≡ 0 → ⊥) → CommandEval T inner called s (Err e) t
  command_refused : {d e : Error} {p : ℕ} {m t : Situation}
      → IsOpenedAt (opening_words called) s p → inner (inside called s p) (Err d) m
      → (class d ≡ OfMemory → ⊥) → CommandEval T inner called s (Err e) t
  command_missing : {e : Error} → IsNotOpened (opening_words called) s → class e ≡ OfMissing
      → CommandEval T inner called s (Err e) (with_current s None)
  command_memory : {e : Error} {t : Situation} → class e ≡ OfMemory
      → CommandEval T inner called s (Err e) t

-- the words of two commands are apart
abbrev pub WordsApart : List (List ℕ) → List (List ℕ) → Type 0
WordsApart words others = (k : Arg) → is_one_of words k ≡ true → is_one_of others k ≡ false

-- each item of a line is present at first, but for the marker
abbrev pub line_cells : Context → Cells
line_cells context = first_cells (item_in context) (length context.line)

-- v is a value of the record on the line: read off the pieces that this is cut into
abbrev pub RecordValue : {V : Type 0} → Roles → (List LinePiece → V → Type 0) → Context → V → Type 0
RecordValue {V = V} r value context v = ReadOff V r value (line_cells context) v

-- what a run may answer
pub data RunAnswer (V : Type 0) : Type 0 where
  Accepted : V → RunAnswer V
  NoMemory : RunAnswer V
  Refusal : RunAnswer V

-- no value is answered
abbrev pub IsNoValue : {V : Type 0} → RunAnswer V → Type 0
IsNoValue (Accepted v) = ⊥
IsNoValue _ = Unit {0}

-- What the steps of a run after the parser make of its answer: a value only where nothing is left
-- present.
-- Any other end, as a message, a help text or want of memory for it, is no value.
pub data RunRan (V : Type 0) (outcome : Outcome V) (s : Situation) : RunAnswer V → Type 0 where
  run_value : {v : V} {t : Situation} → outcome s (Ok v) t → open_count t ≡ 0
      → RunRan V outcome s (Accepted v)
  run_leftover : {a : RunAnswer V} {v : V} {t : Situation} → outcome s (Ok v) t
      → (open_count t ≡ 0 → ⊥) → IsNoValue a → RunRan V outcome s a
  run_memory : {e : Error} {t : Situation} → outcome s (Err e) t → class e ≡ OfMemory
      → RunRan V outcome s NoMemory
  run_refusal : {a : RunAnswer V} {e : Error} {t : Situation} → outcome s (Err e) t
      → (class e ≡ OfMemory → ⊥) → IsNoValue a → RunRan V outcome s a

-- an answer is one of these values, or want of memory
abbrev pub IsAcceptedOrWant : {V : Type 0} → (V → Type 0) → RunAnswer V → Type 0
IsAcceptedOrWant value (Accepted v) = value v
IsAcceptedOrWant value NoMemory = Unit {0}
IsAcceptedOrWant value Refusal = ⊥

-- an answer of a run is exact
pub record IsExact (V : Type 0) (r : Roles) (reading : FieldsReading V) (context : Context)
    (a : RunAnswer V) : Type 0 where
  -- a value only where it is one of the record's
  pub sound : (v : V) → a ≡ Accepted v → RecordValue r reading.value context v
  -- where each field has a value on its portion, one of the record's values, or want of memory
  pub complete : (os : List LinePiece) → Cut r (line_cells context) os → reading.each os
      → IsAcceptedOrWant (λ w. RecordValue r reading.value context w) a
  -- where one has none, no value
  pub refused : (os : List LinePiece) → Cut r (line_cells context) os → ¬ (reading.each os)
      → (v : V) → ¬ (a ≡ Accepted v)

-- how the last field of a product, or one alone, reads the pieces: none is left to others
abbrev pub last_reading : {T : Type 0} → FieldKind → Roles → (List LinePiece → T → Type 0)
    → FieldsReading T
last_reading {T = T} k q value = record {
  value = λ os v. value (portion k q os) v × (left k q os ≡ []);
  each = λ os. ((v : T) × value (portion k q os) v) × (left k q os ≡ []);
}

-- What a parser is to a program: how it reads what is present, and which law its outcome keeps to.

-- what a parser is to a program, with its own items and its values; a wide field or record may
-- stand in a program alone, and in no flat record
pub data ProgramForm (T : Type 0) : Type 1 where
  -- nothing
  no_program : ProgramForm T
  -- a required flag or argument, or a choice of them, with the value of each piece
  alternative : (wide : Bool) → Roles → (LinePiece → T → Type 0) → ProgramForm T
  -- another field without a repeat or default
  single : (wide : Bool) → FieldKind → Roles → Groups T → Gap T → ProgramForm T
  -- a field with a repeat or default
  complete : (wide : Bool) → FieldKind → Roles → (List LinePiece → T → Type 0) → ProgramForm T
  -- a product of fields, by whether all are named: a record; and where they are, a field of another
  product : (wide named : Bool) → Roles → FieldsReading T → ProgramForm T
  -- a command or a choice of them, or what is made of such by a repeat or default
  commands : (optional : Bool) → CellsValue T → ProgramForm T
  -- a product of named fields, and then commands
  before_commands : CellsValue T → ProgramForm T
  -- a named part
  part : Part T → ProgramForm T
  -- a choice of named parts and commands: the part, and the words and values of the commands
  last_choice : Part T → List (List ℕ) → CellsValue T → ProgramForm T
  -- named parts, and then words or commands
  after_parts : CellsValue T → ProgramForm T

-- fields that are all named keep to the laws of a named field together
abbrev pub NamedLaw : {T : Type 0} → Variables → Bool → Outcome T → Roles
    → (List LinePiece → T → Type 0) → Type 0
NamedLaw {T = T} variables true outcome q value = FieldLaw variables T outcome ByName q value
NamedLaw variables false outcome q value = Unit {0}

-- what ends in commands keeps to the laws of a program, with keys that have these names
pub record EndLaw (variables : Variables) (T : Type 0) (outcome : Outcome T) (names : List Names)
    (value : CellsValue T) : Type 0 where
  pub roles : Roles
  pub program : ProgramLaw variables T outcome roles value
  pub owns : Owns roles names

-- commands keep to the laws of such, with these words
pub record OpenedLaw (variables : Variables) (T : Type 0) (outcome : Outcome T)
    (names : List Names) (words : List (List ℕ)) (value : CellsValue T) : Type 0 where
  pub roles : Roles
  pub commands : CommandsLaw variables T outcome roles words value
  pub owns : Owns roles names

-- choices of named parts and commands keep to the laws of such; their words are among these
pub record ChosenLaw {T : Type 0} (variables : Variables) (outcome : Outcome T)
    (names : List Names) (words : List (List ℕ)) (p : Part T) (own : List (List ℕ))
    (value : CellsValue T) : Type 0 where
  pub roles : Roles
  pub law : LastLaw variables T outcome roles own p value
  pub owns : Owns roles names
  pub part_owns : Owns p.roles names
  pub among : (k : Arg) → is_one_of own k ≡ true → is_one_of words k ≡ true

-- the laws of each where the environment has these variables, with these keys and words of commands
abbrev pub LawOf : {T : Type 0} → Variables → Outcome T → List Names → List (List ℕ)
    → ProgramForm T → Type 0
LawOf variables outcome names words no_program = Unit {0}
LawOf {T = T} variables outcome names words (alternative wide q value) =
    KeyLaw variables T outcome q (FrontOf T value) (gap_of value None) × Owns q names
LawOf {T = T} variables outcome names words (single wide ByName q group gap) =
    KeyLaw variables T outcome q group gap × Owns q names
LawOf {T = T} variables outcome names words (single wide (OneWord stops) q group gap) =
    SingleLaw variables T outcome stops q group gap × Owns no_roles names
LawOf variables outcome names words (single wide (EachWord stops) q group gap) = ⊥
LawOf {T = T} variables outcome names words (complete wide k q value) =
    FieldLaw variables T outcome k q value × Owns (keys k q) names
LawOf {T = T} variables outcome names words (product wide named q fields) =
    FieldsLaw variables T outcome q fields × Owns q names
    × NamedLaw variables named outcome q fields.value
LawOf {T = T} variables outcome names words (commands false value) =
    OpenedLaw variables T outcome names words value
LawOf {T = T} variables outcome names words (commands true value) =
    EndLaw variables T outcome names value
LawOf {T = T} variables outcome names words (before_commands value) =
    EndLaw variables T outcome names value
LawOf {T = T} variables outcome names words (part p) =
    PartLaw variables T outcome p × Owns p.roles names
LawOf variables outcome names words (last_choice p own value) =
    ChosenLaw variables outcome names words p own value
LawOf {T = T} variables outcome names words (after_parts value) =
    EndLaw variables T outcome names value

-- such an outcome keeps to the laws of its form
pub record FormLaw {T : Type 0} (variables : Variables) (outcome : Outcome T) (names : List Names)
    (words : List (List ℕ)) (s : ProgramForm T) : Type 0 where
  pub by : LawOf variables outcome names words s

-- the premise: whether a closure accepts depends on what is present alone, whichever its values are
abbrev pub Agrees : {A B : Type 0} → Closure A B → ProgramForm A → Type 0
Agrees f (alternative wide q value) = (o : LinePiece) → AgreesOn (value o) f
Agrees f (single wide k q group gap) =
    ((os rest : List LinePiece) → AgreesOn (λ v. group os v rest) f) × AgreesOn gap.absent f
Agrees f (complete wide k q value) = (os : List LinePiece) → AgreesOn (value os) f
Agrees f (commands optional value) = (cs : Cells) → AgreesOn (value cs) f
Agrees f (before_commands value) = (cs : Cells) → AgreesOn (value cs) f
Agrees f (last_choice p own value) = (cs : Cells) → AgreesOn (PartOrCommands p own value cs) f
Agrees f (after_parts value) = (cs : Cells) → AgreesOn (value cs) f
Agrees f _ = Unit {0}

-- that of a closure round a parser with such a form, which may be such a part: where a product or a
-- part is what it is round, it depends on its entries
abbrev pub AgreesRound : {A B : Type 0} → Closure A B → ProgramForm A → PartForm A → Type 0
AgreesRound f (product wide named q fields) form = PartFormAgrees f form
AgreesRound f (part p) form = PartFormAgrees f form
AgreesRound f s form = Agrees f s

-- a form where a test holds
abbrev pub program_if : {T : Type 0} → Bool → ProgramForm T → ProgramForm T
program_if true s = s
program_if false s = no_program

-- a closure round a field or commands
abbrev pub program_closed : {A B : Type 0} → Closure A B → ProgramForm A → ProgramForm B
program_closed f (alternative wide q value) = alternative wide q (ClosedValue value f)
program_closed f (single wide k q group gap) =
    single wide k q (λ os v rest. ClosedValue (λ x a. group x a rest) f os v) (closed_gap gap f)
program_closed f (complete wide k q value) = complete wide k q (ClosedValue value f)
program_closed f (commands optional value) = commands optional (ClosedValue value f)
program_closed f (before_commands value) = before_commands (ClosedValue value f)
program_closed f (last_choice p own value) =
    after_parts (ClosedValue (PartOrCommands p own value) f)
program_closed f (after_parts value) = after_parts (ClosedValue value f)
program_closed f _ = no_program

-- another look; a record with such a look round it is a wide one
abbrev pub program_dressed : {T : Type 0} → ProgramForm T → ProgramForm T
program_dressed (product wide named q fields) = product true named q fields
program_dressed s = s

-- what a repeat or default makes of a field without one: a field of a kind, with such values; or
-- such commands
abbrev pub completed : {T B : Type 0} → (FieldKind → FieldKind)
    → (Groups T → Gap T → List LinePiece → B → Type 0) → (CellsValue T → CellsValue B)
    → ProgramForm T → ProgramForm B
completed {T = T} kind value round (alternative wide q each) =
    complete wide (kind ByName) q (value (FrontOf T each) (gap_of each None))
completed kind value round (single wide k q group gap) =
    complete wide (kind k) q (value group gap)
completed kind value round (commands false inner) = commands true (round inner)
completed kind value round _ = no_program

-- what may be left out
abbrev pub program_optional : {T : Type 0} → ProgramForm T → ProgramForm (Option T)
program_optional {T = T} s = completed (λ k. k) (OptionalValue T) (OptionalCommands T) s

-- what has a default
abbrev pub program_default : {T : Type 0} → Closure (Unit {0}) T → ProgramForm T → ProgramForm T
program_default {T = T} f s = completed (λ k. k) (λ group gap. FallbackValue T group gap f)
    (DefaultCommands T (f.yes tt)) s

-- the list of a repeat
abbrev pub program_repeat : {T : Type 0} → ProgramForm T → ProgramForm (List T)
program_repeat {T = T} s = completed repeated (OwnList T) (RepeatCommands T) s

-- its last value
abbrev pub program_last : {T : Type 0} → ProgramForm T → ProgramForm T
program_last {T = T} s = completed repeated (LastOf T) (λ value. value) s

-- no word is among others
abbrev pub are_words_apart : List (List ℕ) → List (List ℕ) → Bool
are_words_apart words others =
    list_all (λ word. list_all (λ other. not (bytes_eq word other)) others) words

-- a choice of two, whose keys are apart, or whose words are where they are commands
abbrev pub program_choice : {T : Type 0} → List Names → List Names → List (List ℕ)
    → List (List ℕ) → ProgramForm T → ProgramForm T → ProgramForm T
program_choice own others words more (alternative wide q a) (alternative other r b) =
    program_if (are_all_apart own others)
    (alternative (wide || other) (either q r) (either_value q a b))
program_choice {T = T} own others words more (commands false a) (commands false b) =
    program_if (are_words_apart words more) (commands false (ChoiceValue T a b))
program_choice own others words more _ _ = no_program

-- a command or a choice of commands
abbrev pub is_commands : {T : Type 0} → ProgramForm T → Bool
is_commands (commands false value) = true
is_commands _ = false

-- commands with these words or a named part, as a choice of such
abbrev pub as_last : {T : Type 0} → List (List ℕ) → PartForm T → ProgramForm T → ProgramForm T
as_last words p (commands false value) = last_choice never_part words value
as_last words p (last_choice q own value) = last_choice q own value
as_last words (some_part p) s = last_choice p [] (λ cs v. ⊥)
as_last words no_part s = no_program

-- of two such
abbrev pub both_last : {T : Type 0} → ProgramForm T → ProgramForm T → ProgramForm T
both_last {T = T} (last_choice p own a) (last_choice q others b) =
    last_choice (part_choice p q) (own ++ others) (ChoiceValue T a b)
both_last _ _ = no_program

-- where a form is no program, another
abbrev pub or_form : {T : Type 0} → ProgramForm T → ProgramForm T → ProgramForm T
or_form no_program t = t
or_form s t = s

-- a choice of two, which may be named parts; of commands the keys need not be apart from others
abbrev pub program_either : {T : Type 0} → List Names → List Names → List (List ℕ)
    → List (List ℕ) → PartForm T → PartForm T → ProgramForm T → ProgramForm T → ProgramForm T
program_either own others words more p r s t =
    or_form (program_choice own others words more s t) (program_if (are_words_apart words more
    && (are_all_apart own others || (is_commands s || is_commands t)))
    (both_last (as_last words p s) (as_last more r t)))

-- what may stand in a choice
abbrev pub choice_only : {T : Type 0} → ProgramForm T → ProgramForm T
choice_only (alternative wide q value) = alternative wide q value
choice_only (commands false value) = commands false value
choice_only (part p) = part p
choice_only _ = no_program

-- a field of a product; a product of fields is a wide one, and where all are named one field
abbrev pub program_field : {T : Type 0} → ProgramForm T → ProgramForm T
program_field (complete wide k q value) = complete wide k q value
program_field (product wide true q fields) = complete true ByName q fields.value
program_field (product wide false q fields) = product true false q fields
program_field (commands optional value) = commands optional value
program_field (before_commands value) = before_commands value
program_field (part p) = part p
program_field (last_choice p own value) = after_parts (PartOrCommands p own value)
program_field (after_parts value) = after_parts value
program_field {T = T} s = completed (λ k. k) (SingleValue T) (λ value. value) s

-- keys may stand after a field: those that are apart from its own; after a positional field none
abbrev pub may_follow : FieldKind → List Names → List Names → Bool
may_follow ByName own others = are_all_apart own others
may_follow k own [] = true
may_follow k own (names ∷ others) = false

-- a field is named
abbrev pub is_named : FieldKind → Bool
is_named ByName = true
is_named k = false

-- a field before others, each with its keys
abbrev pub program_both : {A B : Type 0} → List Names → List Names → ProgramForm A → ProgramForm B
    → ProgramForm (A × B)
program_both own others (complete wide k q first) (product other named r rest) =
    program_if (may_follow k own others) (product (wide || other) (is_named k && named)
    (either (keys k q) r) (both_reading k q first rest))
program_both {A = A} {B = B} own others (complete wide ByName q first) (before_commands rest) =
    program_if (are_all_apart own others) (before_commands (FieldThen A B q first rest))
program_both {A = A} {B = B} own others (complete wide ByName q first) (part p) =
    program_if (are_all_apart own others) (after_parts (FieldThen A B q first (PartAlone p)))
program_both {A = A} {B = B} own others (complete wide ByName q first) (after_parts rest) =
    program_if (are_all_apart own others) (after_parts (FieldThen A B q first rest))
program_both {B = B} own others (part p) (product wide named r rest) =
    program_if (are_all_apart own others) (after_parts (PartThen p (ReadOff B r rest.value)))
program_both own others (part p) (before_commands rest) =
    program_if (are_all_apart own others) (after_parts (PartThen p rest))
program_both own others (part p) (after_parts rest) =
    program_if (are_all_apart own others) (after_parts (PartThen p rest))
program_both own others _ _ = no_program

-- a form is a named part too
abbrev pub has_part : {T : Type 0} → ProgramForm T → Bool
has_part (alternative wide q value) = true
has_part (single wide k q group gap) = is_named k
has_part (complete wide k q value) = is_named k
has_part (product wide named q fields) = named
has_part (part p) = true
has_part _ = false

-- where the flat form isn't a program, a named part if it is one
abbrev pub or_part : {T : Type 0} → ProgramForm T → PartForm T → ProgramForm T
or_part no_program (some_part p) = part p
or_part (last_choice q own value) (some_part p) = part p
or_part (after_parts value) (some_part p) = part p
or_part s _ = s

-- the last field: a field, a product with words, or what ends in commands
abbrev pub program_alone : {T : Type 0} → ProgramForm T → ProgramForm T
program_alone (complete wide k q value) =
    product wide (is_named k) (either (keys k q) no_roles) (last_reading k q value)
program_alone (product wide false q fields) = product wide false q fields
program_alone (commands optional value) = before_commands value
program_alone (before_commands value) = before_commands value
program_alone (part p) = part p
program_alone (after_parts value) = after_parts value
program_alone _ = no_program

-- the constructor of a product
abbrev pub program_con : {A B : Type 0} → Closure A B → ProgramForm A → ProgramForm B
program_con f (product wide named q fields) =
    product wide named q (record { value = ClosedValue fields.value f; each = fields.each })
program_con f (before_commands value) = before_commands (ClosedValue value f)
program_con f (after_parts value) = after_parts (ClosedValue value f)
program_con f _ = no_program

-- a whole program: a product of fields, or one that ends in commands
abbrev pub whole_program : {T : Type 0} → ProgramForm T → ProgramForm T
whole_program (product wide named q fields) = product wide named q fields
whole_program s = program_alone (program_field s)

-- the values of such on cells
abbrev pub whole_value : {T : Type 0} → ProgramForm T → CellsValue T
whole_value {T = T} (product wide named q fields) = ReadOff T q fields.value
whole_value (before_commands value) = value
whole_value (part p) = PartAlone p
whole_value (after_parts value) = value
whole_value _ = λ cs v. ⊥

-- the values of a program
abbrev pub program_value : {T : Type 0} → ProgramForm T → CellsValue T
program_value s = whole_value (whole_program s)

-- it is a program
abbrev pub is_program : {T : Type 0} → ProgramForm T → Bool
is_program no_program = false
is_program _ = true

-- it is a flat record: a field or a product of fields
abbrev pub is_record : {T : Type 0} → ProgramForm T → Bool
is_record (alternative wide q value) = not wide
is_record (single wide k q group gap) = not wide
is_record (complete wide k q value) = not wide
is_record (product wide named q fields) = not wide
is_record _ = false

-- a command over a program whose keys are apart from its help's and version's; adjacent it is none
abbrev pub program_command : {T : Type 0} → (adjacent apart : Bool) → Called → ProgramForm T
    → ProgramForm T
program_command {T = T} adjacent apart called s =
    program_if (((not adjacent && apart) && are_plain (opening_words called)) && is_program s)
    (commands false (CommandValue T (opening_words called) (program_value s)))

-- the items of a flat record
abbrev pub product_roles : {T : Type 0} → ProgramForm T → Roles
product_roles (product wide named q fields) = q
product_roles _ = no_roles

-- how the fields of a flat record read the pieces
abbrev pub product_reading : {T : Type 0} → ProgramForm T → FieldsReading T
product_reading (product wide named q fields) = fields
product_reading _ = record { value = λ os v. ⊥; each = λ os. ⊥ }

-- Flags, arguments and positionals: which items are theirs, and what their pieces mean.

-- the items of a flag: keys with one of its names, each by itself
abbrev pub flag_roles : Names → Roles
flag_roles names = roles_of (is_key_of names) Alone

-- the items of an argument: keys with its names, each with its value; if adjacent, attached ones
abbrev pub argument_roles : (adjacent : Bool) → Names → Roles
argument_roles adjacent names = roles_of (is_argument_key names adjacent) WithNext

-- a key means a present value
abbrev pub FlagValue : {T : Type 0} → (T → Type 0) → LinePiece → T → Type 0
FlagValue present (One k) v = present v
FlagValue present (Two k w) v = ⊥

-- a key and its value mean what the text of that means
abbrev pub ArgumentValue : {T : Type 0} → (List ℕ → T → Type 0) → LinePiece → T → Type 0
ArgumentValue means (One k) v = ⊥
ArgumentValue means (Two k w) v = means (item_text w) v

-- a word on a side of `--` that is accepted means what its text means; one on the other nothing
abbrev pub WordValue : {T : Type 0} → (Bool → Bool) → (List ℕ → T → Type 0) → LinePiece → T → Type 0
WordValue accepts means (One w) v = (accepts (stands_behind w) ≡ true) × means (item_text w) v
WordValue accepts means (Two k w) v = ⊥

-- a key: where it must be there, has no name in the environment and its pieces mean values one by
-- one, it may stand in a choice
abbrev pub key_field : {T : Type 0} → (wide may_choose : Bool) → Roles → (LinePiece → T → Type 0)
    → Groups T → Gap T → ProgramForm T
key_field wide true q each group gap = alternative wide q each
key_field wide false q each group gap = single wide ByName q group gap

-- a flag, where the environment has these variables; with a name there it is wide
abbrev pub flag_field : {T : Type 0} → (T → T → Type 0) → Key → T → Option T → Variables
    → ProgramForm T
flag_field {T = T} clones key present absent variables =
    key_field (not (is_nil key.envs)) (is_nil key.envs && is_none absent)
    (roles_of (is_key_of key.names) Alone)
    (FlagValue (clones present)) (FrontOf T (FlagValue (clones present)))
    (gap_of clones (value_without_key present absent (first_set variables key.envs)))

-- all pieces at once, each a key with its value, of which the last one's text means the value; the
-- earlier texts need not mean any
abbrev pub LastGroup : (T : Type 0) → (List ℕ → T → Type 0) → Groups T
LastGroup T means os v rest =
    (before : List (Arg × Arg)) × (last : Arg × Arg)
    × (os ≡ map (λ pair. Two pair.0 pair.1) before ++ Two last.0 last.1 ∷ [])
    × means (item_text last.1) v × (rest ≡ [])

-- the pieces that one evaluation of an argument reads: the first, or all at once
abbrev pub argument_group : {T : Type 0} → (List ℕ → T → Type 0) → (last : Bool) → Groups T
argument_group {T = T} means false = FrontOf T (ArgumentValue means)
argument_group {T = T} means true = LastGroup T means

-- an argument, where the environment has these variables; with a name there or adjacent it is wide
abbrev pub argument_field : {T : Type 0} → (List ℕ → T → Type 0) → KeyWithValue → Variables
    → ProgramForm T
argument_field means argument variables =
    key_field (argument.adjacent || not (is_nil argument.named.envs))
    (is_nil argument.named.envs && not argument.last)
    (roles_of (is_argument_key argument.named.names argument.adjacent) WithNext)
    (ArgumentValue means) (argument_group means argument.last)
    (gap_of means (first_set variables argument.named.envs))

-- a flag as a named part
abbrev pub flag_part_form : {T : Type 0} → (T → T → Type 0) → Key → T → Option T → Variables
    → PartForm T
flag_part_form clones key present absent variables =
    some_part (key_part (flag_roles key.names) (FlagValue (clones present))
    (gap_of clones (value_without_key present absent (first_set variables key.envs))))

-- an argument, by whether its last value counts
abbrev pub argument_part : {T : Type 0} → (last : Bool) → (List ℕ → T → Type 0) → Roles → Gap T
    → Part T
argument_part false means q gap = key_part q (ArgumentValue means) gap
argument_part true means q gap = last_key_part means q gap

-- as a named part
abbrev pub argument_part_form : {T : Type 0} → (List ℕ → T → Type 0) → KeyWithValue → Variables
    → PartForm T
argument_part_form means argument variables = some_part (argument_part argument.last means
    (argument_roles argument.adjacent argument.named.names)
    (gap_of means (first_set variables argument.named.envs)))

-- a positional word on an accepted side, which stops before one behind `--` where that isn't one;
-- where not both are it is wide
abbrev pub word_by : {T : Type 0} → (Bool → Bool) → (List ℕ → T → Type 0) → ProgramForm T
word_by {T = T} accepts means =
    single (not (accepts true && accepts false)) (OneWord (not (accepts true)))
    (roles_of is_positional Alone) (FrontOf T (WordValue accepts means)) (gap_of means None)

-- the first word taken and its value; it has none; there is no word; the first one stands behind
-- `--`, where that stops it; or want of memory
pub data WordEval (T : Type 0) (stops : Bool) (value : LinePiece → T → Type 0) (s : Situation)
    : Result T Error → Situation → Type 0 where
  word_read : {p : ℕ} {strict : Bool} {text : List ℕ} {v : T} {t : Situation}
      → TakesText s p strict text t
      → ((w : Arg) → word_text w ≡ Some (strict, text) → value (One w) v)
      → WordEval T stops value s (Ok v) t
  word_fault : {p : ℕ} {strict : Bool} {text : List ℕ} {e : Error} {t : Situation}
      → TakesText s p strict text t → (stops ≡ true → strict ≡ false)
      → ((w : Arg) (v : T) → word_text w ≡ Some (strict, text) → value (One w) v → ⊥)
      → class e ≡ Refused → WordEval T stops value s (Err e) t
  word_missing : {e : Error} → HasNone is_positional s → class e ≡ OfMissing
      → WordEval T stops value s (Err e) s
  word_passed : {p : ℕ} {text : List ℕ} {e : Error} {t : Situation} → stops ≡ true
      → TakesText s p true text t → class e ≡ Caught → WordEval T stops value s (Err e) t
  word_memory : {e : Error} {t : Situation} → class e ≡ OfMemory → WordEval T stops value s (Err e)
      t

-- a kept value, which stands for no piece, and is wide
abbrev pub pure_field : {T : Type 0} → (T → Type 0) → ProgramForm T
pure_field given = complete true ByName no_roles (λ os v. given v)

-- each answer that a run over the line may give is exact
abbrev pub RunsExactly : {V : Type 0} → Outcome V → ProgramForm V → Context → Type 0
RunsExactly {V = V} outcome s context =
    (a : RunAnswer V) → RunRan V outcome (beginning context) a
    → IsExact V (product_roles (whole_program s)) (product_reading (whole_program s)) context a

-- What holds of a line that gets a value: where its keys, values and words stand, and that no field
-- without a repeat has an occurrence too many.

-- Behind an argument's key stands its value. Both are one piece, and the words left to positional
-- fields are those before the key and those behind the value.
pub record HasItsValue (r : Roles) (before : Cells) (k : Arg) (after : Cells)
    (os : List LinePiece) : Type 0 where
  pub value : Arg
  pub may_be_one : is_value value ≡ true
  pub behind : Cells
  pub next : after ≡ Some value ∷ behind
  pub earlier : List LinePiece
  pub later : List LinePiece
  pub cut_before : Cut r before earlier
  pub cut_behind : Cut r behind later
  pub one_piece : os ≡ earlier ++ (Two k value ∷ later)
  pub words : others r os ≡ others r earlier ++ others r later

-- the last of these places holds the key of an argument
pub record EndsInKey (r : Roles) (cs : Cells) : Type 0 where
  pub before : Cells
  pub key : Arg
  pub is : cs ≡ before ++ (Some key ∷ [])
  pub wants_value : r key ≡ WithNext

-- a positional word by itself
abbrev pub is_word_alone : LinePiece → Bool
is_word_alone (One w) = is_positional w
is_word_alone (Two k w) = false

-- A line that is cut into pieces holds together.
pub record HoldsTogether (r : Roles) (cs : Cells) (os : List LinePiece) : Type 0 where
  -- each key on it is one of the record's
  pub keys : (before after : Cells) (k : Arg) → cs ≡ before ++ (Some k ∷ after)
      → is_key k ≡ true → is_own_role (r k) ≡ true
  -- each argument's key has its value, which no positional field gets
  pub values : (before after : Cells) (k : Arg) → cs ≡ before ++ (Some k ∷ after)
      → r k ≡ WithNext → HasItsValue r before k after os
  -- an attached value stands behind the key of an argument alone
  pub attached : (before after : Cells) (text : List ℕ)
      → cs ≡ before ++ (Some (ArgWord text) ∷ after) → EndsInKey r before
  -- what is left to positional fields are words by themselves
  pub words : AllPass is_word_alone (others r os)
