-- What a run answers, how one over words starts, and a value that is dealt out of words.
use Rattle.std.specs.Prelude.{◌≡◌, ℕ, false, List, [], Result, Ok, Err, Some, None, Bool, ⊤, Option}
use Rattle.bpaf_words.specs.{Line.HasNoLine, Line.Known, Arguments.Given}
use Rattle.bpaf_line.specs.Situation.{Situation, Context, beginning, open_count, is_dealt_place}
use Rattle.bpaf_line.specs.{declared.error.Message.TheVariants.ParseFailed, Messages.is_memory}
use Rattle.bpaf_line.specs.{declared.failure.ParseFailure.ParseFailure, declared.error.Error.Error}
use Rattle.bpaf_line.specs.{declared.error.Message.Message, Taking.IsContext}
use Rattle.bpaf_messages.specs.Rendering.{Renders}
use Rattle.bpaf_doc.specs.Shape.{Shape, in_order}
use Rattle.bpaf_line.specs.Failure.{end_message}
use Rattle.bpaf_grammar.specs.Ending.{Ending, EndsRun}
use Rattle.bpaf_keys.specs.Info.{RunInfo, IsNoVersion}
use Rattle.bpaf_laws.specs.{Leaves.GetsText, Leaves.IsFlagAbsent, Reading.Outcome, Reading.Readings}
use Rattle.bpaf_text.specs.Named.{KeyWithValue, Named}
pub use Rattle.bpaf_keys.specs.Info.{known_names}
use Rattle.bpaf_line.specs.declared.error.Message.TheVariants as message
use Rattle.bpaf_line.specs.declared.failure.ParseFailure.TheVariants as failure

-- a run's answer that isn't told as want of memory
abbrev pub IsNotMemoryFailure : {T : Type 0} → Result T ParseFailure → Type 0
IsNotMemoryFailure (Ok v) = Unit {0}
IsNotMemoryFailure (Err f) = is_memory (end_message f) ≡ false

-- a run from a situation on, and what it leaves: a value and no item; a value and some; a refusal
pub data Runs (T : Type 0) (inner : Outcome T) (ending : Ending) (s : Situation)
    : Result T ParseFailure → Situation → Type 0 where
  value : (v : T) (t : Situation) → inner s (Ok v) t → open_count t ≡ 0
      → Runs T inner ending s (Ok v) t
  leftover : (v : T) (left : Situation) (f : ParseFailure) (t : Situation) → inner s (Ok v) left
      → ending None s left f t → Runs T inner ending s (Err f) t
  refused : (e : Error) (left : Situation) (f : ParseFailure) (t : Situation)
      → inner s (Err e) left → ending (Some e.0) s left f t → Runs T inner ending s (Err f) t

-- a run over words: over their line by these known short names; or they have none, which is told
-- where nothing is known but the set name; or there is no memory for it
pub data RunsWords (T : Type 0) (inner : Outcome T) (describes : Shape → Type 0) (info : RunInfo)
    (known : Known) (given : Given) : Result T ParseFailure → Type 0 where
  ran : (context : Context) (r : Result T ParseFailure) (t : Situation)
      → IsContext known given context
      → Runs T inner (EndsRun describes info) (beginning context) r t
      → RunsWords T inner describes info known given r
  no_line : (word : List ℕ) (number : ℕ) (context : Context) (f : ParseFailure)
      → HasNoLine known given.words word number → context.line ≡ [] → context.name ≡ given.name
      → Renders (message.Ambiguity word number) (beginning context) f
      → RunsWords T inner describes info known given (Err f)
  no_memory : RunsWords T inner describes info known given (Err failure.Memory)

-- how a run over words starts: at the beginning of their line; they have none; or memory is wanted
abbrev pub Starts : Known → Given → Result Situation Message → Type 0
Starts known given (Ok s) =
    (context : Context) × IsContext known given context × (s ≡ beginning context)
Starts known given (Err (message.Ambiguity word number)) = HasNoLine known given.words word number
Starts known given (Err message.Memory) = ⊤
Starts known given (Err other) = ⊥

-- whether no key stands behind a word, in a shape that the parser may show
abbrev pub TellsOrder : (Shape → Type 0) → Bool → Type 0
TellsOrder describes good = (shape : Shape) × describes shape × (good ≡ in_order shape false)

-- v is read off all places of the words' line by these short names, but that of the marker
pub record IsDealtOut (T : Type 0) (reads : Readings T) (known : Known) (given : Given) (v : T)
    : Type 0 where
  pub context : Context
  pub is_context : IsContext known given context
  pub read : reads context (is_dealt_place context) v

-- a refusal of a flag that isn't want of memory is of one that is absent and has no absent value:
-- no clone was to be made
abbrev pub ClonesNothing : {T : Type 0} → Named → Option T → Situation → Situation → Error → Type 0
ClonesNothing named absent s t e = is_memory e.0 ≡ false → IsFlagAbsent named s t × (absent ≡ None)

-- a fault that is told of an argument's text is of one that means no value
abbrev pub FaultsTextAlone : {T : Type 0} → (List ℕ → T → Type 0) → KeyWithValue → Situation
    → Situation → Error → Type 0
FaultsTextAlone {T} means argument s t e = (place : Option ℕ) (fault : List ℕ)
    → e.0 ≡ ParseFailed place fault
    → (text : List ℕ) × GetsText argument s text t × ((v : T) → ¬ (means text v))

-- a refusal that isn't want of memory comes where neither help nor the version is asked for
abbrev pub AsksForNeither : RunInfo → Situation → Situation → Error → Type 0
AsksForNeither info s t e =
    is_memory e.0 ≡ false → (m : Situation) × IsFlagAbsent info.help_arg s m × IsNoVersion info m t
