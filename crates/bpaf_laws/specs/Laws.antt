-- What every parser keeps to, whatever it parses: its answers, the names of its refusals and of
-- its keys, counts of places, and want of memory.
use Rattle.std.specs.Prelude.{Option, length, Result, false, codes, List, ◌++◌, Bool, Some, None, ⊤}
use Rattle.bpaf_doc.specs.Shape.{shorts_of_arguments, shorts_of_flags, parts_of_all, members, Shape}
use Rattle.std.specs.Prelude.{true, ◌&&◌, ◌≡◌, not, Err, ◌+◌, ◌⊎◌, Ok, [], ℕ}
use Rattle.bpaf_doc.specs.{Print.printed, Print.Prints, Print.Print, declared.doc.Piece.Piece}
use Rattle.bpaf_doc.specs.Shape.{parts, Part}
use Rattle.bpaf_words.specs.Line.{ShortNames}
use Rattle.bpaf_line.specs.Situation.{Context, open_count, Situation, is_taken, in_scope, is_open}
use Rattle.bpaf_line.specs.{declared.failure.ParseFailure.ParseFailure, declared.error.Error.Error}
use Rattle.bpaf_line.specs.{declared.error.Message.Message, Messages.is_memory, Marks.KeepsMarks}
use Rattle.bpaf_base.specs.Count.{count_below}
use Rattle.bpaf_messages.specs.Rendering.{Renders}
use Rattle.bpaf_laws.specs.Reading.{Readings, Outcome, Share}
use Rattle.bpaf_pages.specs.Help.{PageTexts, help_text}
use Rattle.bpaf_line.specs.declared.failure.ParseFailure.TheVariants as failure
use Rattle.bpaf_line.specs.declared.error.Message.TheVariants as message

-- the text of a version
abbrev pub version_text : List Piece → Print
version_text version full = codes "Version: " ++ printed full version ++ codes "\n"

-- a version is shown; or memory for it is wanted
abbrev pub ShowsVersion : List Piece → ParseFailure → Type 0
ShowsVersion version (failure.Stdout doc full) = Prints (version_text version) doc × (full ≡ false)
ShowsVersion version (failure.Stderr doc) = ⊥
ShowsVersion version failure.Memory = ⊤

-- The twelve names of refusals, and the failures that have one.

-- the names
pub data Refusal : Type 0 where
  -- memory is wanted
  no_memory : Refusal
  -- a word of letters has two readings
  ambiguous_word : Refusal
  -- help, or the version, is shown
  help_or_version : Refusal
  -- nothing of what a parser looks for is there
  missing_item : Refusal
  -- a key has no value behind it
  missing_value : Refusal
  -- a word stands on the wrong side of `--`
  wrong_side : Refusal
  -- a text means no value
  unreadable_text : Refusal
  -- a check doesn't let a value pass
  refused_value : Refusal
  -- what looks at no item, or a repeat that wants a value, has none
  no_value : Refusal
  -- an item is excluded by one that was taken
  conflict : Refusal
  -- a key stands once more than it may
  repeated_key : Refusal
  -- no parser took an item
  unexpected_item : Refusal

-- the name of a message that isn't the answer of a run inside the parser
abbrev pub refusal_of : Message → Option Refusal
refusal_of message.Memory = Some no_memory
refusal_of (message.Ambiguity word number) = Some ambiguous_word
refusal_of (message.Missing items) = Some missing_item
refusal_of (message.Expected items place) = Some missing_item
refusal_of (message.NoArgument place metavar) = Some missing_value
refusal_of (message.StrictPos place metavar) = Some wrong_side
refusal_of (message.NonStrictPos place metavar) = Some wrong_side
refusal_of (message.ParseFailed place fault) = Some unreadable_text
refusal_of (message.GuardFailed place text) = Some refused_value
refusal_of (message.NoEnv name) = Some no_value
refusal_of (message.ParseSome text) = Some no_value
refusal_of (message.ParseFail text) = Some no_value
refusal_of (message.PureFailed text) = Some no_value
refusal_of (message.Conflict winner place) = Some conflict
refusal_of (message.OnlyOnce earlier place) = Some repeated_key
refusal_of (message.Unconsumed place) = Some unexpected_item
refusal_of (message.ParseFailure inner) = None

-- a text that a help page at some path may have, or a version
pub data IsPage (doc : List Piece) : Type 0 where
  help : (path : List (List ℕ)) (texts : PageTexts) (shape extra : Shape)
      → Prints (help_text path texts shape extra) doc → IsPage doc
  version : (text : List Piece) → Prints (version_text text) doc → IsPage doc

-- A failure of this name, of some run over this line: want of memory; a page; or the text of a
-- message of this name, told in a situation of the line. Of which run it is, this doesn't say.
pub data HasName (context : Context) : Refusal → ParseFailure → Type 0 where
  wanting : HasName context no_memory failure.Memory
  shown : (doc : List Piece) (full : Bool) → IsPage doc
      → HasName context help_or_version (failure.Stdout doc full)
  told : (name : Refusal) (m : Message) (s : Situation) (doc : List Piece) → s.context ≡ context
      → refusal_of m ≡ Some name → Renders m s (failure.Stderr doc)
      → HasName context name (failure.Stderr doc)

-- a failure that has one of the names
abbrev pub HasSomeName : Context → ParseFailure → Type 0
HasSomeName context f = (name : Refusal) × HasName context name f

-- a message that is the answer of a run inside has one of the names, on this line
abbrev pub NamesAnswer : Context → Message → Type 0
NamesAnswer context (message.ParseFailure f) = HasSomeName context f
NamesAnswer context m = ⊤

-- the places taken since a situation
abbrev pub newly : Situation → Situation → Share
newly s t = λ p. is_taken t p && not (is_taken s p)

-- a path that begins with another
pub record Extends (old new : List (List ℕ)) : Type 0 where
  pub more : List (List ℕ)
  pub is : new ≡ old ++ more

-- what each evaluation keeps, whatever it answers
pub record Keeps (s t : Situation) : Type 0 where
  -- the line, the environment and the set name
  pub context : t.context ≡ s.context
  -- what was taken
  pub stays : (p : ℕ) → is_taken s p ≡ true → is_taken t p ≡ true
  -- what is newly taken lay present in the old scope
  pub fresh : (p : ℕ) → newly s t p ≡ true → is_open s p ≡ true
  -- the new scope lies in the old one
  pub narrows : (p : ℕ) → in_scope t p ≡ true → in_scope s p ≡ true
  -- the path begins with the old path
  pub path : Extends s.path t.path
  -- each mark to which the old situation can go back, and what it goes back to
  pub marks : KeepsMarks s t

-- a place of the old scope that is left outside the new one is taken
abbrev pub Closes : Situation → Situation → Type 0
Closes s t = (p : ℕ) → in_scope s p ≡ true → in_scope t p ≡ false → is_taken t p ≡ true

-- an evaluation that answered a value
pub record Reads (T : Type 0) (reads : Readings T) (s : Situation) (v : T)
    (t : Situation) : Type 0 where
  pub keeps : Keeps s t
  pub closed : Closes s t
  -- the newly taken places with the value are a reading
  pub reading : reads s.context (newly s t) v

-- the laws of a parser
pub record Lawful (T : Type 0) (outcome : Outcome T) (reads : Readings T) : Type 0 where
  pub ok : (s t : Situation) (v : T) → outcome s (Ok v) t → Reads T reads s v t
  pub err : (s t : Situation) (e : Error) → outcome s (Err e) t → Keeps s t
  -- where an error is the answer of a run inside, that has one of the twelve names on this line
  pub named : (s t : Situation) (e : Error) → outcome s (Err e) t → NamesAnswer s.context e.0

-- how many places an evaluation newly took
abbrev pub taken_count : Situation → Situation → ℕ
taken_count s t = count_below (newly s t) (length s.context.line)

-- after an Ok as many places fewer are present as were newly taken
abbrev pub CountFalls : {T : Type 0} → Outcome T → Type 0
CountFalls {T} outcome =
    (s t : Situation) (v : T) → outcome s (Ok v) t → open_count s ≡ open_count t + taken_count s t

-- an answer that isn't want of memory
abbrev pub IsNotMemory : {T : Type 0} → Result T Error → Type 0
IsNotMemory (Ok v) = Unit {0}
IsNotMemory (Err e) = is_memory e.0 ≡ false

-- an outcome's answers that aren't want of memory
abbrev pub WithoutMemory : {T : Type 0} → Outcome T → Outcome T
WithoutMemory outcome s r t = outcome s r t × IsNotMemory r

-- of an outcome, what is answered where nothing inside wanted memory: each other answer is one
abbrev pub Spares : {T : Type 0} → Outcome T → Outcome T → Type 0
Spares {T} outcome without = (s t : Situation) (r : Result T Error) → outcome s r t → IsNotMemory r
    → without s r t

-- None leaves the situation as it was
abbrev pub NoneTakesNothing : {T : Type 0} → Outcome (Option T)
NoneTakesNothing s (Ok None) t = t ≡ s
NoneTakesNothing s r t = Unit {0}

-- each answer but an inner value leaves the situation as it was
abbrev pub DefaultTakesNothing : {T : Type 0} → Outcome T → Outcome T
DefaultTakesNothing inner s (Ok v) t = inner s (Ok v) t ⊎ (t ≡ s)
DefaultTakesNothing inner s (Err e) t = t ≡ s

-- none
abbrev pub no_shorts : ShortNames
no_shorts = record { flags = []; arguments = [] }

-- of flags alone
abbrev pub of_flags : List ℕ → ShortNames
of_flags shorts = record { flags = shorts; arguments = [] }

-- of arguments alone
abbrev pub of_arguments : List ℕ → ShortNames
of_arguments shorts = record { flags = []; arguments = shorts }

-- those of the one, and of the other
abbrev pub joined_shorts : ShortNames → ShortNames → ShortNames
joined_shorts one other =
    record { flags = one.flags ++ other.flags; arguments = one.arguments ++ other.arguments }

-- those of flags and of arguments among parts
abbrev pub shorts_among : List Part → ShortNames
shorts_among items = record { flags = shorts_of_flags items; arguments = shorts_of_arguments items }

-- whichever shape a parser shows, these are its short names, those of keys inside commands too
pub record ShowsNames (describes : Shape → Type 0) (names : ShortNames) : Type 0 where
  pub each : (shape : Shape) → describes shape → shorts_among (parts shape) ≡ names

-- whichever shapes fields show, these are their short names, those of keys inside commands too
pub record FieldsShowNames (describe : List Shape → Type 0) (names : ShortNames) : Type 0 where
  pub each : (all : List Shape) → describe all → shorts_among (parts_of_all (members all)) ≡ names
