-- Each refusal of a run has one of twelve names.
use Rattle.std.specs.Prelude.{◌≡◌, ◌+◌, ⊤, ℕ, Bool, true, false, List, [], Some, Ok, Err}
use Rattle.bpaf_line.specs.Situation.{Context, IsStretchFrom, Situation, beginning, with_scope}
use Rattle.bpaf_line.specs.{declared.failure.ParseFailure.ParseFailure, declared.error.Error.Error}
use Rattle.bpaf_line.specs.{Messages.is_answer, Messages.is_memory, declared.error.Message.Message}
use Rattle.bpaf_line.specs.Taking.{IsContext}
use Rattle.bpaf_messages.specs.{Leftover.IsLeftover, Rendering.Renders}
use Rattle.bpaf_doc.specs.{declared.doc.Piece.Piece, Shape.Shape}
use Rattle.bpaf_words.specs.{Line.HasNoLine, Line.Known, Arguments.Given}
use Rattle.bpaf_laws.specs.Laws.{HasName, Refusal, help_or_version, no_memory, refusal_of}
use Rattle.bpaf_laws.specs.Command.{Called, IsOpenedAt, inside, opening_words}
use Rattle.bpaf_laws.specs.Reading.{Outcome}
use Rattle.bpaf_grammar.specs.Ending.{Shows, ShowsHelp, shows_help_page}
use Rattle.bpaf_keys.specs.{declared.info.ExtraParams.ExtraParams, Info.ExtraOutcome, Info.RunInfo}
use Rattle.bpaf_line.specs.declared.error.Message.TheVariants as message
use Rattle.bpaf_line.specs.declared.failure.ParseFailure.TheVariants as failure

-- a run from a situation on tells a message: the parser refused with it, or left an item of which
-- it is the message; in the situation that was left
pub data IsToldOf {T : Type 0} (inner : Outcome T) (s : Situation) (m : Message)
    : Situation → Type 0 where
  refusal : (e : Error) (left : Situation) → inner s (Err e) left → e.0 ≡ m
      → IsToldOf inner s m left
  leftover : (v : T) (left : Situation) → inner s (Ok v) left → IsLeftover left m
      → IsToldOf inner s m left

-- a failure of this name, of a run from a situation on: want of memory; the page that was asked
-- for in place of a message of the run's own, or that of help where nothing was there to read; the
-- text of a message of this name that the run tells, once neither help nor the version was found
-- there; or what a run inside, on this line, ended with
pub data FailsAs {T : Type 0} (inner : Outcome T) (describes : Shape → Type 0) (info : RunInfo)
    (s : Situation) : Refusal → ParseFailure → Type 0 where
  wanting : FailsAs inner describes info s no_memory failure.Memory
  asked_for : (m : Message) (asked : ExtraParams) (left t : Situation) (doc : List Piece)
      (full : Bool) → IsToldOf inner s m left → is_memory m ≡ false → is_answer m ≡ false
      → ExtraOutcome info left (Ok asked) t → Shows describes info asked t (failure.Stdout doc full)
      → FailsAs inner describes info s help_or_version (failure.Stdout doc full)
  nothing_to_read : (e : Error) (left : Situation) (doc : List Piece) (full : Bool)
      → inner s (Err e) left → shows_help_page info e.0 s ≡ true
      → ShowsHelp describes info false left (failure.Stdout doc full)
      → FailsAs inner describes info s help_or_version (failure.Stdout doc full)
  told : (name : Refusal) (m : Message) (left t : Situation) (unasked : Error) (doc : List Piece)
      → IsToldOf inner s m left → ExtraOutcome info left (Err unasked) t
      → is_memory unasked.0 ≡ false → refusal_of m ≡ Some name → Renders m t (failure.Stderr doc)
      → FailsAs inner describes info s name (failure.Stderr doc)
  handed_on : (name : Refusal) (e : Error) (left : Situation) (f : ParseFailure)
      → inner s (Err e) left → e.0 ≡ message.ParseFailure f → HasName s.context name f
      → FailsAs inner describes info s name f

-- where the run inside a command starts: behind the word; of an adjacent command over the stretch
-- of present places behind it
abbrev pub StartsInside : (adjacent : Bool) (behind : Situation) → Situation → Type 0
StartsInside false behind start = start ≡ behind
StartsInside true behind start = (end : ℕ) × IsStretchFrom behind (behind.start + 1) end
    × (start ≡ with_scope behind (behind.start + 1) end)

-- a failure of the run inside a command, which was opened on this line: by the run's own parser and
-- its own info
pub record FailsInside {T : Type 0} (adjacent : Bool) (called : Called) (inner : Outcome T)
    (describes : Shape → Type 0) (info : RunInfo) (s : Situation) (f : ParseFailure) : Type 0 where
  pub place : ℕ
  pub opened : IsOpenedAt (opening_words called) s place
  pub start : Situation
  pub starts : StartsInside adjacent (inside called s place) start
  pub name : Refusal
  pub fails : FailsAs inner describes info start name f

-- a message that is the answer of a run inside is a failure of the command's own
abbrev pub NamesInside : {T : Type 0} (adjacent : Bool) → Called → Outcome T → (Shape → Type 0)
    → RunInfo → Situation → Message → Type 0
NamesInside adjacent called inner describes info s (message.ParseFailure f) =
    FailsInside adjacent called inner describes info s f
NamesInside adjacent called inner describes info s m = ⊤

-- a failure of a run over words has one of the twelve names: that of the run from the beginning of
-- their line, or of what is told where they have no line
pub data IsOneOfTwelve {T : Type 0} (inner : Outcome T) (describes : Shape → Type 0)
    (info : RunInfo) (known : Known) (given : Given) : ParseFailure → Type 0 where
  named : (context : Context) (name : Refusal) (f : ParseFailure) → IsContext known given context
      → FailsAs inner describes info (beginning context) name f
      → IsOneOfTwelve inner describes info known given f
  no_line : (word : List ℕ) (number : ℕ) (context : Context) (f : ParseFailure)
      → HasNoLine known given.words word number → context.line ≡ [] → context.name ≡ given.name
      → Renders (message.Ambiguity word number) (beginning context) f
      → IsOneOfTwelve inner describes info known given f
  without_memory : IsOneOfTwelve inner describes info known given failure.Memory
