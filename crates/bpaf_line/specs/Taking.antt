-- What the calls of a state answer, and which situation they leave: what they find, take, walk
-- over and mark as excluded, and what one says is missing.
use Rattle.std.specs.Prelude.{◌≡◌, List, map, Option, option_map, option_to_list, ℕ, ◌+◌, ◌<◌, Bool}
use Rattle.std.specs.Prelude.{true, false, Some, None, Result, Ok, Err, bytes_eq, string_bytes}
use Rattle.std.specs.Prelude.{String, if◌then◌else◌, option_and_then, find, ⊤, ◌-◌, length}
use Rattle.std.specs.Prelude.{filter_map, ◌≤◌, slice_index, not, nat_lt, ◌&&◌, [], ◌∷◌}
use Rattle.bpaf_line.specs.Situation.{Situation, item_at, is_open, take_place, with_current}
use Rattle.bpaf_line.specs.Situation.{Context, beginning, is_taken, conflict_at}
use Rattle.bpaf_line.specs.declared.error.Message.TheVariants.{Memory, Missing, NoArgument}
use Rattle.bpaf_base.specs.Items.{is_key_of, is_argument_key, value_text, is_positional, word_text}
use Rattle.bpaf_words.specs.Line.{Known, IsLine, HasNoLine}
use Rattle.std.specs.{List.range_with_len, Borrow.Bor, Option.option_map_or}
use Rattle.std.specs.declared.alloc.Global.{Global}
use Rattle.bpaf_doc.specs.{Shape.Part, Shape.Positional, Names.Names}
use Rattle.bpaf_line.specs.{declared.missing.MissingItem.MissingItem, Missing.Missed}
use Rattle.bpaf_line.specs.{Missing.missed_of, declared.error.Message.TheVariants.Ambiguity}
use Rattle.bpaf_line.specs.{declared.error.Message.Message, declared.error.Error.Error}
use Rattle.bpaf_line.specs.{declared.iter.ArgsIter.ArgsIter, Marks.KeepsMarks}
use Rattle.bpaf_base.specs.{Items.any_item, Items.is_command_word, declared.arg.Arg.Arg}
use Rattle.bpaf_index.specs.Chained.{IsPlaceOf}
use Rattle.bpaf_words.specs.{declared.line.LineFault.LineFault, Arguments.Given}
use Rattle.bpaf_words.specs.declared.line.LineFault.TheVariants as fault

-- one item, looked for from the start of the scope on
abbrev pub missed_in : Situation → Part → Missed
missed_in s part = record { item = part; position = s.start; start = s.start; «end» = s.«end» }

-- that item; of a key that shows no name, nothing
abbrev pub missing_in : Situation → Option Part → List Missed
missing_in s part = option_to_list (option_map (missed_in s) part)

-- missing items that are just that
abbrev pub IsMissingIn : Situation → Option Part → List MissingItem → Type 0
IsMissingIn s part items = map missed_of items ≡ missing_in s part

-- What the calls of a state answer, and which situation they leave.

-- the item at p, where it is present and in scope
abbrev pub open_item : Situation → ℕ → Option Arg
open_item s p = if is_open s p then item_at s p else None

-- the item at p is present, in scope, and passes the test
abbrev pub is_match : (Arg → Bool) → Situation → ℕ → Bool
is_match test s p = option_map_or test (open_item s p) false

-- p is the first place with a match
pub record IsFirst (test : Arg → Bool) (s : Situation) (p : ℕ) : Type 0 where
  pub matches : is_match test s p ≡ true
  pub first : (q : ℕ) → q < p → is_match test s q ≡ false

-- no place has a match
abbrev pub HasNone : (Arg → Bool) → Situation → Type 0
HasNone test s = (q : ℕ) → is_match test s q ≡ false

-- `take_flag`: the first key with one of the names is taken; or there is none, and nothing changes
abbrev pub TakesFlag : Names → Situation → Bool → Situation → Type 0
TakesFlag names s true t = (p : ℕ) × IsFirst (is_key_of names) s p × (t ≡ take_place s p)
TakesFlag names s false t = HasNone (is_key_of names) s × (t ≡ s)

-- the value of a key at p: the text of the next place, where that is present and in scope
abbrev pub value_after : Situation → ℕ → Option (List ℕ)
value_after s p = option_and_then value_text (open_item s (p + 1))

-- the first key and its value, which is this text, are taken
pub record TakesValue (names : Names) (adjacent : Bool) (s : Situation) (text : List ℕ)
    (t : Situation) : Type 0 where
  pub key : ℕ
  pub first : IsFirst (is_argument_key names adjacent) s key
  pub value : value_after s key ≡ Some text
  pub taken : t ≡ take_place (take_place s key) (key + 1)

-- no value: the first key is named; or memory is wanted
abbrev pub RefusesArgument : Names → Bool → List ℕ → Situation → Message → Type 0
RefusesArgument names adjacent metavar s (NoArgument p m) = IsFirst (is_argument_key names adjacent)
    s p × (value_after s p ≡ None) × (m ≡ metavar)
RefusesArgument names adjacent metavar s Memory = ⊤
RefusesArgument names adjacent metavar s m = ⊥

-- `take_arg`: the first key and its value are taken; or no key, or a refusal, and nothing changes
abbrev pub TakesArgument : Names → Bool → List ℕ → Situation → Result (Option (String Global)) Error
    → Situation → Type 0
TakesArgument names adjacent metavar s (Ok (Some text)) t = TakesValue names adjacent s
    (string_bytes text) t
TakesArgument names adjacent metavar s (Ok None) t = HasNone (is_argument_key names adjacent) s ×
    (t ≡ s)
TakesArgument names adjacent metavar s (Err e) t = RefusesArgument names adjacent metavar s e.0 ×
    (t ≡ s)

-- `take_text`: the same, with the bytes of the text
abbrev pub TakesKeyText : Names → Bool → List ℕ → Situation → Result (Option (List ℕ)) Error
    → Situation → Type 0
TakesKeyText names adjacent metavar s (Ok (Some text)) t = TakesValue names adjacent s text t
TakesKeyText names adjacent metavar s (Ok None) t = HasNone (is_argument_key names adjacent) s ×
    (t ≡ s)
TakesKeyText names adjacent metavar s (Err e) t = RefusesArgument names adjacent metavar s e.0 ×
    (t ≡ s)

-- the first key and the text of its value; or there is no key; or a refusal
abbrev pub FindsArgument : Names → Bool → List ℕ → Situation
    → Result (Option (ℕ × Bor (List ℕ))) Error → Type 0
FindsArgument names adjacent metavar s (Ok (Some r)) =
    IsFirst (is_argument_key names adjacent) s r.0 × (value_after s r.0 ≡ Some r.1.now)
FindsArgument names adjacent metavar s (Ok None) = HasNone (is_argument_key names adjacent) s
FindsArgument names adjacent metavar s (Err e) = RefusesArgument names adjacent metavar s e.0

-- the first Word or PosWord is at this place, has this text, and is taken
pub record TakesText (s : Situation) (place : ℕ) (strict : Bool) (text : List ℕ) (t : Situation) :
    Type 0 where
  pub first : IsFirst is_positional s place
  pub is : option_and_then word_text (item_at s place) ≡ Some (strict, text)
  pub taken : t ≡ take_place s place

-- no word: a positional item is missing; or memory is wanted
abbrev pub RefusesWord : List ℕ → Situation → Message → Type 0
RefusesWord metavar s (Missing items) = HasNone is_positional s × IsMissingIn s
    (Some (Positional metavar None)) items
RefusesWord metavar s Memory = ⊤
RefusesWord metavar s m = ⊥

-- `positional_word`: the first word: its place, whether it is a PosWord, its text; or a refusal
abbrev pub FindsWord : List ℕ → Situation → Result (ℕ × Bool × Bor (List ℕ)) Error → Type 0
FindsWord metavar s (Ok r) =
    IsFirst is_positional s r.0 × (option_and_then word_text (item_at s r.0) ≡ Some (r.1, r.2.now))
FindsWord metavar s (Err e) = RefusesWord metavar s e.0

-- `take_positional_word`: the first word is taken: place, kind, text; or a refusal changes nothing
abbrev pub TakesWord : List ℕ → Situation → Result (ℕ × Bool × String Global) Error → Situation
    → Type 0
TakesWord metavar s (Ok r) t = TakesText s r.0 r.1 (string_bytes r.2) t
TakesWord metavar s (Err e) t = RefusesWord metavar s e.0 × (t ≡ s)

-- the first present item in scope is at p, and is the word of the command
pub record IsCommandAt (word : List ℕ) (s : Situation) (p : ℕ) : Type 0 where
  pub first : IsFirst any_item s p
  pub named : option_map_or (is_command_word word) (item_at s p) false ≡ true

-- there is no present item in scope, or the first one isn't the word of the command
abbrev pub HasNoCommand : List ℕ → Situation → Type 0
HasNoCommand word s = (p : ℕ) → IsFirst any_item s p
    → option_map_or (is_command_word word) (item_at s p) false ≡ false

-- `take_cmd`: the first item is the command's word and is taken; or not, and no place is current
abbrev pub TakesCommand : List ℕ → Situation → Bool → Situation → Type 0
TakesCommand word s true t = (p : ℕ) × IsCommandAt word s p × (t ≡ take_place s p)
TakesCommand word s false t = HasNoCommand word s × (t ≡ with_current s None)

-- the value of the first entry of that name
abbrev pub entry_of : List (List ℕ × List ℕ) → List ℕ → Option (List ℕ)
entry_of env name = option_map (λ e. e.1) (find (λ e. bytes_eq e.0 name) env)

-- a place with its item, where it is present and in scope
abbrev pub placed_item : Situation → ℕ → Option (ℕ × Arg)
placed_item s p = option_map (λ item. (p, item)) (open_item s p)

-- those of the places from one on, up to the line's end
abbrev pub open_items_from : Situation → ℕ → List (ℕ × Arg)
open_items_from s from = filter_map (placed_item s)
    (range_with_len from (length s.context.line - from))

-- those of all places
abbrev pub open_items : Situation → List (ℕ × Arg)
open_items s = open_items_from s 0

-- those that a walk has before it
abbrev pub items_left : ArgsIter → List (ℕ × Arg)
items_left walk = open_items_from walk.state.now walk.place

-- no place before a place has a match
abbrev pub HasNoneBefore : (Arg → Bool) → Situation → ℕ → Type 0
HasNoneBefore test s p = (q : ℕ) → q < p → is_match test s q ≡ false

-- of the items before a place none that is present, in scope, and passes the test has such a name
abbrev pub HasNoneAmong : (Arg → Bool) → Names → Situation → ℕ → Type 0
HasNoneAmong test names s p =
    (q : ℕ) (item : Arg) → q < p → open_item s q ≡ Some item → test item ≡ true
    → is_key_of names item ≡ false

-- a place below the end, at which an item is present, in scope, and passes the test, or the end; no
-- such item before it has one of the names
pub record IsFirstAmong (test : Arg → Bool) (names : Names) (s : Situation)
    (end p : ℕ) : Type 0 where
  pub within : p ≤ end
  pub matches : p < end → is_match test s p ≡ true
  pub none : HasNoneAmong test names s p

-- a place below the end, at which an item is present, in scope, and passes the test, or the end; no
-- such item is before it at a place of the class of another place, from that one on
pub record IsFirstAlong (test : Arg → Bool) (s : Situation) (classes : List ℕ)
    (low end p : ℕ) : Type 0 where
  pub within : p ≤ end
  pub matches : p < end → is_match test s p ≡ true
  pub none : (k q : ℕ) → IsPlaceOf classes k low → low ≤ q → q < p → slice_index classes q ≡ k
      → is_match test s q ≡ false

-- what is told of words without a line
abbrev pub message_of : LineFault → Message
message_of (fault.Ambiguous word number) = Ambiguity word number
message_of fault.Memory = Memory

-- the context of the words' line
pub record IsContext (known : Known) (given : Given) (context : Context) : Type 0 where
  pub is_line : IsLine known given.words context.line context.marker
  pub env : context.env ≡ given.env
  pub name : context.name ≡ given.name

-- a refusal: the words have no line, or memory is wanted
abbrev pub RefusesLine : Known → List (List ℕ) → Message → Type 0
RefusesLine known words (Ambiguity word number) = HasNoLine known words word number
RefusesLine known words Memory = ⊤
RefusesLine known words m = ⊥

-- `construct`: the state at the beginning of the words' line; they have none; or memory is wanted
abbrev pub Constructs : Known → Given → Result Situation Message → Type 0
Constructs known given (Ok s) = (context : Context) × IsContext known given context ×
    (s ≡ beginning context)
Constructs known given (Err m) = RefusesLine known given.words m

-- the leftmost place that is taken in only one of two situations
pub record IsLeftmost (s other : Situation) (p : ℕ) : Type 0 where
  pub differs : is_taken s p ≡ not (is_taken other p)
  pub first : (q : ℕ) → q < p → is_taken s q ≡ is_taken other q

-- no place is taken in only one of them
abbrev pub TakeTheSame : Situation → Situation → Type 0
TakeTheSame s other = (p : ℕ) → is_taken s p ≡ is_taken other p

-- that leftmost place, and whether it is taken in the first; true where there is no such place
abbrev pub IsWinner : Situation → Situation → Bool × Option ℕ → Type 0
IsWinner s other (here, None) = TakeTheSame s other × (here ≡ true)
IsWinner s other (here, Some p) = IsLeftmost s other p × (is_taken s p ≡ here)

-- of a place of the one and one of the other the leftmost, and whether it is that of the one
abbrev pub leftmost_of : Option ℕ → Option ℕ → Bool × Option ℕ
leftmost_of None None = (true, None)
leftmost_of (Some p) None = (true, Some p)
leftmost_of None (Some q) = (false, Some q)
leftmost_of (Some p) (Some q) = if nat_lt p q then (true, Some p) else (false, Some q)

-- each place present in the one and taken in the loser has a conflict note that names a place; all
-- else is as it was, and so is what each earlier mark goes back to
pub record ConflictsSaved (s loser : Situation) (winner : ℕ) (t : Situation) : Type 0 where
  pub context : t.context ≡ s.context
  pub start : t.start ≡ s.start
  pub end : t.end ≡ s.end
  pub path : t.path ≡ s.path
  pub current : t.current ≡ s.current
  pub taken : (p : ℕ) → is_taken t p ≡ is_taken s p
  pub marks : KeepsMarks s t
  pub noted : (p : ℕ) → conflict_at t p ≡
      (if not (is_taken s p) && is_taken loser p then Some winner else conflict_at s p)

-- the first of some places, and what its conflict note names, where it has one
abbrev pub first_named : Situation → List (ℕ × Arg) → Option (ℕ × ℕ)
first_named s [] = None
first_named s ((p, item) ∷ later) = option_map (λ winner. (p, winner)) (conflict_at s p)

-- the first present place in scope, and what its conflict note names, where it has one
abbrev pub first_conflict : Situation → Option (ℕ × ℕ)
first_conflict s = first_named s (open_items s)
