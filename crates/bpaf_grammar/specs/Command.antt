-- What a command answers, also one that may be adjacent, and then reads the items behind its word
-- without a gap.
use Rattle.std.specs.Prelude.{◌≡◌, ◌⊎◌, ℕ, List, Some, None, Result, Ok, Err, ◌+◌, Bool, true}
use Rattle.bpaf_laws.specs.Command.{Called, IsNotOpened, IsOpenedAt, inside, opened, opening_words}
use Rattle.std.specs.Prelude.{false, Option}
use Rattle.bpaf_doc.specs.{declared.doc.Piece.Piece, Shape.Part}
use Rattle.bpaf_line.specs.Situation.{Situation, with_current, with_scope, IsStretchFrom}
use Rattle.bpaf_line.specs.{declared.failure.ParseFailure.ParseFailure, declared.error.Error.Error}
use Rattle.bpaf_line.specs.{declared.missing.MissingItem.MissingItem, Taking.IsMissingIn}
use Rattle.bpaf_line.specs.declared.error.Message.{Message}
use Rattle.bpaf_laws.specs.Adjacent.{AllTaken, IsFirstLeft, StretchReads}
use Rattle.bpaf_laws.specs.{Reading.Outcome, Reading.Readings, Command.CommandReads}
use Rattle.bpaf_keys.specs.Info.{RunInfo, short_descr}
use Rattle.bpaf_line.specs.Failure.{end_message}
use Rattle.bpaf_grammar.specs.{Ending.Ending, Run.Runs}
pub use Rattle.bpaf_choice.specs.Branches.{IsTold, GivesBack}
use Rattle.bpaf_line.specs.declared.error.Message.TheVariants as message
use Rattle.bpaf_line.specs.declared.failure.ParseFailure.TheVariants as failure

-- a part that the command may show is missing; or memory for that is wanted
abbrev pub IsMissingPart : (Part → Type 0) → Situation → Message → Type 0
IsMissingPart shows s m = (m ≡ message.Memory) ⊎ ((part : Part) × (items : List MissingItem) × shows
    part × (m ≡ message.Missing items) × IsMissingIn s (Some part) items)

-- the word is there, and the inner run, from behind it on, answers a value, or refuses; or it isn't
-- there, and the command's part is missing; or there is no memory for the path
pub data CommandOutcome (T : Type 0) (inner : Outcome T) (ending : Ending) (called : Called)
    (shows : Part → Type 0) (s : Situation) : Result T Error → Situation → Type 0 where
  value : (v : T) (p : ℕ) (t : Situation) → IsOpenedAt (opening_words called) s p
      → Runs T inner ending (inside called s p) (Ok v) t
      → CommandOutcome T inner ending called shows s (Ok v) t
  ended : (f : ParseFailure) (e : Error) (p : ℕ) (t : Situation)
      → IsOpenedAt (opening_words called) s p → Runs T inner ending (inside called s p) (Err f) t
      → e.0 ≡ end_message f → CommandOutcome T inner ending called shows s (Err e) t
  missing : (e : Error) → IsNotOpened (opening_words called) s → IsMissingPart shows s e.0
      → CommandOutcome T inner ending called shows s (Err e) (with_current s None)
  no_memory : (e : Error) (p : ℕ) → IsOpenedAt (opening_words called) s p → e.0 ≡ message.Memory
      → CommandOutcome T inner ending called shows s (Err e) (opened s p)

-- What a command answers that may be adjacent, and then reads the items behind its word without a
-- gap.

-- an attempt: a run over the places from one up to another
abbrev pub Attempt : (T : Type 0) → Outcome T → Ending → Situation → ℕ → ℕ → Result T ParseFailure
    → Situation → Type 0
Attempt T inner ending s from end = Runs T inner ending (with_scope s from end)

-- what follows a first attempt that failed: nothing, where it left none of its places present; else
-- a second one, over those before the first that it left. Where this fails too the first failure
-- counts, with its situation. Want of memory is the answer at once
pub data Retry (T : Type 0) (inner : Outcome T) (ending : Ending) (s : Situation) (from end : ℕ)
    (f : ParseFailure) (t : Situation) : Result T ParseFailure → Situation → Type 0 where
  nothing_left : IsTold f → AllTaken t from end → Retry T inner ending s from end f t (Err f) t
  second_counts : (v : T) (stop : ℕ) (u : Situation) → IsTold f → IsFirstLeft t from end stop
      → Attempt T inner ending s from stop (Ok v) u → Retry T inner ending s from end f t (Ok v) u
  second_fails : (g : ParseFailure) (stop : ℕ) (u : Situation) → IsTold f
      → IsFirstLeft t from end stop → Attempt T inner ending s from stop (Err g) u → IsTold g
      → Retry T inner ending s from end f t (Err f) t
  retry_memory : Retry T inner ending s from end f t (Err failure.Memory) s

-- the attempts from a place on: one over the stretch of present places; if it fails, what follows
pub data Attempts (T : Type 0) (inner : Outcome T) (ending : Ending) (s : Situation) (from : ℕ)
    : Result T ParseFailure → Situation → Type 0 where
  first_counts : (v : T) (end : ℕ) (t : Situation) → IsStretchFrom s from end
      → Attempt T inner ending s from end (Ok v) t → Attempts T inner ending s from (Ok v) t
  first_fails : (f : ParseFailure) (end : ℕ) (t : Situation) (r : Result T ParseFailure)
      (u : Situation) → IsStretchFrom s from end → Attempt T inner ending s from end (Err f) t
      → Retry T inner ending s from end f t r u → Attempts T inner ending s from r u

-- the attempts behind a word, from which on the scope runs; so it does again after a value
abbrev pub AdjacentRuns : (T : Type 0) → Outcome T → Ending → Situation → Result T ParseFailure
    → Situation → Type 0
AdjacentRuns T inner ending s (Ok v) t = (left : Situation)
    × Attempts T inner ending s (s.start + 1) (Ok v) left × (t ≡ with_scope left s.start s.end)
AdjacentRuns T inner ending s (Err f) t = Attempts T inner ending s (s.start + 1) (Err f) t

-- the word is there, and the attempts behind it answer a value, or refuse; or it isn't there, and
-- the command's part is missing; or there is no memory for the path
pub data AdjacentOutcome (T : Type 0) (inner : Outcome T) (ending : Ending) (called : Called)
    (shows : Part → Type 0) (s : Situation) : Result T Error → Situation → Type 0 where
  counted : (v : T) (p : ℕ) (t : Situation) → IsOpenedAt (opening_words called) s p
      → AdjacentRuns T inner ending (inside called s p) (Ok v) t
      → AdjacentOutcome T inner ending called shows s (Ok v) t
  failed : (f : ParseFailure) (e : Error) (p : ℕ) (t : Situation)
      → IsOpenedAt (opening_words called) s p
      → AdjacentRuns T inner ending (inside called s p) (Err f) t → e.0 ≡ end_message f
      → AdjacentOutcome T inner ending called shows s (Err e) t
  unnamed : (e : Error) → IsNotOpened (opening_words called) s → IsMissingPart shows s e.0
      → AdjacentOutcome T inner ending called shows s (Err e) (with_current s None)
  no_path : (e : Error) (p : ℕ) → IsOpenedAt (opening_words called) s p → e.0 ≡ message.Memory
      → AdjacentOutcome T inner ending called shows s (Err e) (opened s p)

-- what a command answers, adjacent or plain
abbrev pub EitherCommandOutcome : Bool → (T : Type 0) → Outcome T → Ending → Called
    → (Part → Type 0) → Outcome T
EitherCommandOutcome true T inner ending called shows = AdjacentOutcome T inner ending called shows
EitherCommandOutcome false T inner ending called shows = CommandOutcome T inner ending called shows

-- what is shown of a command beside its name: a help of its own, or the first line of what its
-- parser is for
abbrev pub help_or_descr : Option (List Piece) → RunInfo → Option (List Piece)
help_or_descr (Some help) info = Some help
help_or_descr None info = short_descr info

-- what is read of it
abbrev pub EitherCommandReads : Bool → (T : Type 0) → List (List ℕ) → Readings T → Readings T
EitherCommandReads true T words inner = StretchReads T (CommandReads T words inner)
EitherCommandReads false T words inner = CommandReads T words inner

-- what runs inside it: the attempts, or one run
abbrev pub RunsInside : Bool → (T : Type 0) → Outcome T → Ending → Situation → Result T ParseFailure
    → Situation → Type 0
RunsInside true T inner ending s = AdjacentRuns T inner ending s
RunsInside false T inner ending s = Runs T inner ending s

-- not going inside: the word isn't there, and the command's part is missing; or it is, and there is
-- no memory for the path
abbrev pub StaysOutside : Called → (Part → Type 0) → Situation → Error → Situation → Type 0
StaysOutside called shows s e t =
    (IsNotOpened (opening_words called) s × IsMissingPart shows s e.0 × (t ≡ with_current s None))
    ⊎ ((p : ℕ) × IsOpenedAt (opening_words called) s p × (e.0 ≡ message.Memory) × (t ≡ opened s p))

-- going inside: the word is there, and is taken
abbrev pub Enters : {U : Type 0} → Called → (Part → Type 0) → Situation → Result U Error → Situation
    → Type 0
Enters called shows s (Ok u) t =
    (p : ℕ) × IsOpenedAt (opening_words called) s p × (t ≡ inside called s p)
Enters called shows s (Err e) t = StaysOutside called shows s e t
