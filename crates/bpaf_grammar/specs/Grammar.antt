-- The grammar of parsers: of what one is made. That tells what it answers, reads and shows, its
-- short names, its keys and the words of its commands.
use Rattle.std.specs.Prelude.{Result, Option, length, false, Bool, true, List, ◌++◌, ◌≡◌, ◌∷◌}
use Rattle.bpaf_laws.specs.Combinators.{CollectOutcome, CountOutcome, DefaultDescribes, Gives}
use Rattle.bpaf_laws.specs.Combinators.{is_nil, FallbackOutcome, GivesAnswer, GivesClone}
use Rattle.bpaf_laws.specs.Combinators.{GuardOutcome, HideOutcome, LastOutcome, ListReads}
use Rattle.bpaf_laws.specs.Combinators.{ManyDescribes, MapReads, ManyOutcome, MapOutcome}
use Rattle.bpaf_laws.specs.Combinators.{OptionalDescribes, OptionalReads, ParseOutcome, PureOutcome}
use Rattle.bpaf_laws.specs.Combinators.{PureReads, SectionDescribes, SomeDescribes, SomeOutcome}
use Rattle.bpaf_laws.specs.Leaves.{ArgumentOutcome, ArgumentReads, FlagOutcome, FlagReads}
use Rattle.bpaf_laws.specs.Product.{BothDescribes, BothOutcome, BothReads, FailFastOutcome}
use Rattle.std.specs.{Prelude.if◌then◌else◌, Prelude.[], Prelude.Ok, Prelude.ℕ, Global.Vec}
use Rattle.std.specs.declared.alloc.AllocError.{AllocError}
use Rattle.bpaf_doc.specs.{Shape.Part, Shape.Shape, Shape.Skip, declared.meta.MetaInfo.MetaInfo}
use Rattle.bpaf_doc.specs.{declared.doc.Piece.Piece, Names.Names}
use Rattle.bpaf_words.specs.Line.{ShortNames}
use Rattle.bpaf_text.specs.Named.{Named as Key, KeyWithValue}
use Rattle.bpaf_laws.specs.Choice.{ChoiceDescribes, ChoiceOutcome, ChoiceReads, Nested, no_choice}
use Rattle.bpaf_laws.specs.Laws.{WithoutMemory, joined_shorts, no_shorts, of_arguments, of_flags}
use Rattle.bpaf_laws.specs.Command.{Called, CommandDescribes, CommandPart, opening_words}
use Rattle.bpaf_laws.specs.Combinators.{TitledDescribes, TurnOutcome, UsageDescribes}
use Rattle.bpaf_laws.specs.Product.{LastDescribes, ProductDescribes, ProductOutcome}
use Rattle.bpaf_laws.specs.Adjacent.{GroupDescribes, GroupOutcome, StretchReads}
use Rattle.bpaf_laws.specs.Leaves.{argument_shape, flag_shape}
use Rattle.bpaf_laws.specs.Reading.{Outcome, Readings}
use Rattle.bpaf_keys.specs.Info.{RunInfo}
use Rattle.bpaf_grammar.specs.Positional.{PositionalOutcome, PositionalReads, positional_shape}
use Rattle.bpaf_grammar.specs.Command.{EitherCommandOutcome, EitherCommandReads}
use Rattle.bpaf_grammar.specs.{declared.position.Position.Position, Own.Own, Own.MadeOutcome}
use Rattle.bpaf_grammar.specs.{Leaves.refusal, Ending.EndsRun}

-- what a closure makes of a value
pub data Step : Type 0 → Type 0 → Type 1 where
  -- another one (`map`)
  mapped : {A B : Type 0} → (answers : A → B → Type 0) → Step A B
  -- another one, or a fault that is shown so (`parse`)
  parsed : {A B E : Type 0} → (answers : A → Result B E → Type 0)
      → (shown : E → Option (List ℕ)) → Step A B
  -- the same, where a check is true of it; else it is refused with a message (`guard`)
  guarded : {T : Type 0} → (checks : T → Bool → Type 0) → (message : List ℕ) → Step T T

-- what is made of all values; some repeats may `catch` errors
pub data Repeat : Type 0 → Type 0 → Type 1 where
  -- the list (`many`)
  many : {T : Type 0} → (catch : Bool) → Repeat T (Vec T)
  -- the list, which has a value at least; else it is refused with a message (`some`)
  some : {T : Type 0} → (catch : Bool) → (message : List ℕ) → Repeat T (Vec T)
  -- what is filled from the list (`collect`)
  collect : {T C : Type 0} → (catch : Bool) → (fills : List T → C → Type 0) → Repeat T C
  -- how many there are (`count`)
  count : {T : Type 0} → Repeat T ℕ

-- what stands in for a value that isn't there
pub data Default : Type 0 → Type 1 where
  -- a clone of a kept value (`fallback`)
  cloned : {T : Type 0} → (clones : T → T → Type 0) → T → Default T
  -- a closure's answer, whose fault is shown so (`fallback_with`)
  answered : {T E : Type 0} → (answers : Result T E → Type 0) → (shown : E → Option (List ℕ))
      → Default T

-- how else a parser is shown
pub data Look : Type 1 where
  -- not at all (`hide`)
  hide : Look
  -- with a usage text, or without usage (`custom_usage`, `hide_usage`)
  usage : Option (List Piece) → Look
  -- below a title (`group_help`)
  section : List Piece → Look
  -- below a title that a closure answers (`with_group_help`)
  titled : (answers : MetaInfo → Result (List Piece) AllocError → Type 0) → Look

-- what a parser is made of; or, with `fields`, of which parsers the fields of a product are
pub data GrammarOf : (fields : Bool) → Type 0 → Type 1 where
  -- a flag, required where it has no absent value (`flag`, `switch`, `req_flag`)
  flag : {T : Type 0} → (clones : T → T → Type 0) → Key → (present : T) → (absent : Option T)
      → GrammarOf false T
  -- an argument (`argument`)
  argument : {T : Type 0} → (means : List ℕ → T → Type 0) → KeyWithValue → GrammarOf false T
  -- a positional word (`positional`)
  word : {T : Type 0} → (means : List ℕ → T → Type 0) → Position → (metavar : List ℕ)
      → (help : Option (List Piece)) → GrammarOf false T
  -- a kept value (`pure`)
  kept : {T : Type 0} → (clones : T → T → Type 0) → T → GrammarOf false T
  -- a parser of a caller's own, with its laws; no other kind is built of it
  own : {T : Type 0} → Own T → GrammarOf false T
  -- a closure round a parser (`map`, `parse`, `guard`)
  closed : {A B : Type 0} → Step A B → GrammarOf false A → GrammarOf false B
  -- a value made of a parser's, for which memory may be wanted
  made : {A B : Type 0} → (makes : A → B → Type 0) → GrammarOf false A → GrammarOf false B
  -- another look (`hide`, `custom_usage`, `group_help`)
  dressed : {T : Type 0} → Look → GrammarOf false T → GrammarOf false T
  -- what may be missing (`optional`)
  optional : {T : Type 0} → (catch : Bool) → GrammarOf false T → GrammarOf false (Option T)
  -- what has a default, which is shown or isn't (`fallback`, `fallback_with`)
  fallback : {T : Type 0} → (shown : Option (List Piece)) → Default T → GrammarOf false T
      → GrammarOf false T
  -- a repeat (`many`, `some`, `collect`, `count`)
  repeat : {A B : Type 0} → Repeat A B → GrammarOf false A → GrammarOf false B
  -- the last value of a repeat (`last`)
  last : {T : Type 0} → GrammarOf false T → GrammarOf false T
  -- one of two (`or_else`)
  choice : {T : Type 0} → GrammarOf false T → GrammarOf false T → GrammarOf false T
  -- one of any number (`choice`), which are choices of two inside
  only : {T : Type 0} → GrammarOf false T → GrammarOf false T
  -- a command (`command`), with the help that is shown of it
  command : {T : Type 0} → (adjacent : Bool) → Called → RunInfo → (help : Option (List Piece))
      → GrammarOf false T → GrammarOf false T
  -- an adjacent group (`adjacent`), which begins with this item
  stretch : {T : Type 0} → (first : Part) → GrammarOf false T → GrammarOf false T
  -- the last field of a product
  alone : {T : Type 0} → GrammarOf false T → GrammarOf true T
  -- a field, and those after it
  both : {A B : Type 0} → GrammarOf false A → GrammarOf true B → GrammarOf true (A × B)
  -- what a constructor makes of the values of fields (`construct!`)
  product : {A B : Type 0} → (makes : A → B → Type 0) → GrammarOf true A → GrammarOf false B

-- that of a parser
abbrev pub Grammar : Type 0 → Type 1
Grammar T = GrammarOf false T

-- that of the fields of a product
abbrev pub FieldsGrammar : Type 0 → Type 1
FieldsGrammar V = GrammarOf true V

-- choices of two of all these parsers, nested to the left; without parsers every line is refused
abbrev pub choices_of : {P T : Type 0} → (P → Grammar T) → List P → Grammar T
choices_of of [] = own (refusal no_choice)
choices_of of (p ∷ ps) = Nested choice of (of p) ps

-- What a parser shows.

-- what a repeat shows
abbrev pub repeat_describes : {A B : Type 0} → Repeat A B → (Shape → Type 0) → Shape → Type 0
repeat_describes (some catch message) inner = SomeDescribes inner
repeat_describes _ inner = ManyDescribes inner

-- what is shown in place of what is shown inside
abbrev pub look_describes : Look → (Shape → Type 0) → Shape → Type 0
look_describes hide inner shape = shape ≡ Skip
look_describes (usage text) inner shape = UsageDescribes inner text shape
look_describes (section title) inner shape = SectionDescribes inner title shape
look_describes (titled answers) inner shape = TitledDescribes inner answers shape

-- what a parser may show of itself, and what the fields of a product may
abbrev pub Described : (fields : Bool) → Type 1
Described false = Shape → Type 0
Described true = List Shape → Type 0

-- what it may show of itself
abbrev pub describes_of : {fields : Bool} {T : Type 0} → GrammarOf fields T → Described fields
describes_of (flag clones key present absent) = λ shape. shape ≡ flag_shape key absent
describes_of (argument means key) = λ shape. shape ≡ argument_shape key
describes_of (word means position metavar help) =
    λ shape. shape ≡ positional_shape position metavar help
describes_of (kept clones value) = λ shape. shape ≡ Skip
describes_of (own o) = o.describes
describes_of (closed f g) = describes_of g
describes_of (made makes g) = describes_of g
describes_of (dressed look g) = look_describes look (describes_of g)
describes_of (optional catch g) = OptionalDescribes (describes_of g)
describes_of (fallback shown d g) = DefaultDescribes (describes_of g) shown
describes_of (repeat f g) = repeat_describes f (describes_of g)
describes_of (last g) = SomeDescribes (describes_of g)
describes_of (choice g h) = ChoiceDescribes (describes_of g) (describes_of h)
describes_of (only g) = describes_of g
describes_of (command adjacent called info help g) = CommandDescribes called help (describes_of g)
describes_of (stretch first g) = GroupDescribes (describes_of g)
describes_of (alone g) = LastDescribes (describes_of g)
describes_of (both g h) = BothDescribes (describes_of g) (describes_of h)
describes_of (product makes g) = ProductDescribes (describes_of g)

-- the short names that are shown in place of those inside
abbrev pub look_shorts : Look → ShortNames → ShortNames
look_shorts hide names = no_shorts
look_shorts _ names = names

-- the short names of the flags and arguments that it shows, by which joined letters are read
abbrev pub shorts_of : {fields : Bool} {T : Type 0} → GrammarOf fields T → ShortNames
shorts_of (flag clones key present absent) = of_flags key.names.shorts
shorts_of (argument means key) = of_arguments key.named.names.shorts
shorts_of (word means position metavar help) = no_shorts
shorts_of (kept clones value) = no_shorts
shorts_of (own o) = o.shorts
shorts_of (closed f g) = shorts_of g
shorts_of (made makes g) = shorts_of g
shorts_of (dressed look g) = look_shorts look (shorts_of g)
shorts_of (optional catch g) = shorts_of g
shorts_of (fallback shown d g) = shorts_of g
shorts_of (repeat f g) = shorts_of g
shorts_of (last g) = shorts_of g
shorts_of (choice g h) = joined_shorts (shorts_of g) (shorts_of h)
shorts_of (only g) = shorts_of g
shorts_of (command adjacent called info help g) = shorts_of g
shorts_of (stretch first g) = shorts_of g
shorts_of (alone g) = shorts_of g
shorts_of (both g h) = joined_shorts (shorts_of g) (shorts_of h)
shorts_of (product makes g) = shorts_of g

-- What a parser reads.

-- what a closure's value is read from
abbrev pub step_reads : {A B : Type 0} → Step A B → Readings A → Readings B
step_reads {A} {B} (mapped answers) reads = MapReads A B reads answers
step_reads {A} {B} (parsed answers shown) reads = MapReads A B reads (λ x v. answers x (Ok v))
step_reads (guarded {T = T} checks message) reads =
    MapReads T T reads (λ x v. (v ≡ x) × checks x true)

-- what a repeat is read from
abbrev pub repeat_reads : {A B : Type 0} → Repeat A B → Readings A → Readings B
repeat_reads (many {T = T} catch) reads =
    MapReads (List T) (Vec T) (ListReads reads) (λ values v. v.items ≡ values)
repeat_reads (some {T = T} catch message) reads = MapReads (List T) (Vec T) (ListReads reads)
    (λ values v. (v.items ≡ values) × (is_nil values ≡ false))
repeat_reads (collect {T = T} {C = C} catch fills) reads = MapReads (List T) C (ListReads reads)
    fills
repeat_reads (count {T = T}) reads =
    MapReads (List T) ℕ (ListReads reads) (λ values n. n ≡ length values)

-- what a default gives
abbrev pub default_gives : {T : Type 0} → Default T → Gives T
default_gives (cloned clones value) = GivesClone clones value
default_gives (answered answers shown) = GivesAnswer answers shown

-- which values may be read off which places of a line
abbrev pub reads_of : {fields : Bool} {T : Type 0} → GrammarOf fields T → Readings T
reads_of (flag {T = T} clones key present absent) = FlagReads T clones key present absent
reads_of (argument {T = T} means key) = ArgumentReads T means key
reads_of (word {T = T} means position metavar help) = PositionalReads T means position
reads_of (kept clones value) = PureReads (clones value)
reads_of (own o) = o.reads
reads_of (closed f g) = step_reads f (reads_of g)
reads_of (made {A = A} {B = B} makes g) = MapReads A B (reads_of g) makes
reads_of (dressed look g) = reads_of g
reads_of (optional catch g) = OptionalReads (reads_of g)
reads_of (fallback shown d g) =
    ChoiceReads (reads_of g) (PureReads (λ v. default_gives d (Ok v)))
reads_of (repeat f g) = repeat_reads f (reads_of g)
reads_of (last {T = T} g) = MapReads (List T) T (ListReads (reads_of g))
    (λ values v. (before : List T) × (values ≡ before ++ v ∷ []))
reads_of (choice g h) = ChoiceReads (reads_of g) (reads_of h)
reads_of (only g) = reads_of g
reads_of (command {T = T} adjacent called info help g) =
    EitherCommandReads adjacent T (opening_words called) (reads_of g)
reads_of (stretch {T = T} first g) = StretchReads T (reads_of g)
reads_of (alone g) = reads_of g
reads_of (both {A = A} {B = B} g h) = BothReads A B (reads_of g) (reads_of h)
reads_of (product {A = A} {B = B} makes g) = MapReads A B (reads_of g) makes

-- What a parser answers.

-- what a closure answers round a parser
abbrev pub step_outcome : {A B : Type 0} → Step A B → Outcome A → Outcome B
step_outcome (mapped answers) inner = MapOutcome inner answers
step_outcome (parsed answers shown) inner = ParseOutcome inner answers shown
step_outcome (guarded checks message) inner = GuardOutcome inner checks message

-- what a repeat answers
abbrev pub repeat_outcome : {A B : Type 0} → Repeat A B → Outcome A → Outcome B
repeat_outcome (many catch) inner = ManyOutcome inner catch
repeat_outcome (some catch message) inner = SomeOutcome inner catch message
repeat_outcome (collect catch fills) inner = CollectOutcome inner catch fills
repeat_outcome count inner = CountOutcome inner

-- what a parser with another look answers
abbrev pub look_outcome : {T : Type 0} → Look → Outcome T → Outcome T
look_outcome hide inner = HideOutcome inner
look_outcome _ inner = inner

-- what one evaluation may answer in a situation, and which situation it leaves
abbrev pub outcome_of : {fields : Bool} {T : Type 0} → GrammarOf fields T → Outcome T
outcome_of (flag clones key present absent) = FlagOutcome clones key present absent
outcome_of (argument means key) = ArgumentOutcome means key
outcome_of (word means position metavar help) = PositionalOutcome means position metavar
outcome_of (kept clones value) = PureOutcome (GivesClone clones value)
outcome_of (own o) = o.outcome
outcome_of (closed f g) = step_outcome f (outcome_of g)
outcome_of (made makes g) = MadeOutcome (outcome_of g) makes
outcome_of (dressed look g) = look_outcome look (outcome_of g)
outcome_of (optional catch g) = TurnOutcome (outcome_of g) catch true
outcome_of (fallback shown d g) = FallbackOutcome (outcome_of g) (default_gives d)
outcome_of (repeat f g) = repeat_outcome f (outcome_of g)
outcome_of (last g) = LastOutcome (outcome_of g)
outcome_of (choice g h) = ChoiceOutcome (outcome_of g) (outcome_of h)
outcome_of (only g) = outcome_of g
outcome_of (command {T = T} adjacent called info help g) =
    EitherCommandOutcome adjacent T (outcome_of g) (EndsRun (describes_of g) info) called
    (CommandPart called help (describes_of g))
outcome_of (stretch {T = T} first g) = GroupOutcome T (outcome_of g) first
outcome_of (alone g) = outcome_of g
outcome_of (both g h) = BothOutcome (outcome_of g) (outcome_of h)
outcome_of (product makes g) = ProductOutcome (outcome_of g) makes

-- the same of fields, of which a failing first one is the end
abbrev pub fast_outcome_of : {fields : Bool} {T : Type 0} → GrammarOf fields T → Outcome T
fast_outcome_of (both g h) = FailFastOutcome (outcome_of g) (outcome_of h)
fast_outcome_of g = outcome_of g

-- the same where none of the fields wanted memory
abbrev pub spared_of : {fields : Bool} {T : Type 0} → GrammarOf fields T → Outcome T
spared_of (both g h) = BothOutcome (WithoutMemory (outcome_of g)) (spared_of h)
spared_of g = WithoutMemory (outcome_of g)

-- both
abbrev pub fast_spared_of : {fields : Bool} {T : Type 0} → GrammarOf fields T → Outcome T
fast_spared_of (both g h) = FailFastOutcome (WithoutMemory (outcome_of g)) (spared_of h)
fast_spared_of g = WithoutMemory (outcome_of g)

-- The keys of a parser, and the words of its commands.

-- the names of its flags and arguments, one after the other, with or without those inside commands
abbrev pub keys_of : {fields : Bool} {T : Type 0} → GrammarOf fields T → Bool → List Names
keys_of (flag clones key present absent) deep = key.names ∷ []
keys_of (argument means key) deep = key.named.names ∷ []
keys_of (closed f g) deep = keys_of g deep
keys_of (dressed look g) deep = keys_of g deep
keys_of (optional catch g) deep = keys_of g deep
keys_of (fallback shown d g) deep = keys_of g deep
keys_of (repeat f g) deep = keys_of g deep
keys_of (last g) deep = keys_of g deep
keys_of (choice g h) deep = keys_of g deep ++ keys_of h deep
keys_of (only g) deep = keys_of g deep
keys_of (command adjacent called info help g) deep = if deep then keys_of g deep else []
keys_of (alone g) deep = keys_of g deep
keys_of (both g h) deep = keys_of g deep ++ keys_of h deep
keys_of (product makes g) deep = keys_of g deep
keys_of _ deep = []

-- the words of its commands, where it is a command or a choice of such
abbrev pub command_words : {fields : Bool} {T : Type 0} → GrammarOf fields T → List (List ℕ)
command_words (closed f g) = command_words g
command_words (dressed look g) = command_words g
command_words (choice g h) = command_words g ++ command_words h
command_words (only g) = command_words g
command_words (command adjacent called info help g) = opening_words called
command_words _ = []
