-- No want of memory is caught: by a flag, by the look for help and the version, by a run, by a
-- command and by the attempts of an adjacent one.
use Rattle.std.proofs.Common.{◌≡◌, ℕ, Bool, true, false, Option, None, Result, Ok, Err, sym, ◌∙◌}
use Rattle.bpaf_grammar.specs.Command.{ended, missing, no_memory, value, EitherCommandOutcome}
use Rattle.bpaf_grammar.specs.Command.{counted, failed, no_path, unnamed, Attempts, IsTold, Retry}
use Rattle.bpaf_grammar.specs.Command.{first_fails, second_counts, second_fails, retry_memory}
use Rattle.bpaf_grammar.specs.Run.{ran, no_line, AsksForNeither, ClonesNothing, Runs}
use Rattle.bpaf_grammar.specs.Run.{IsNotMemoryFailure, leftover, refused, value as run_value}
use Rattle.std.proofs.Common.{true≢false, ap}
use Rattle.std.specs.Result.{IfErr}
use Rattle.bpaf_doc.specs.Shape.{Part, Shape}
use Rattle.bpaf_text.specs.Named.{Named}
use Rattle.bpaf_words.specs.{Arguments.Given, Line.Known}
use Rattle.bpaf_line.specs.{declared.failure.ParseFailure.ParseFailure, declared.error.Error.Error}
use Rattle.bpaf_line.specs.{declared.error.Message.TheVariants.Memory, Situation.Situation}
use Rattle.bpaf_line.specs.{declared.error.Message.Message, Messages.is_memory}
use Rattle.bpaf_laws.specs.Leaves.{FlagFails, FlagOutcome, IsFlagAbsent}
use Rattle.bpaf_laws.specs.{Laws.IsNotMemory, Laws.WithoutMemory, Reading.Outcome, Command.Called}
use Rattle.bpaf_keys.specs.Info.{ExtraOutcome, help, neither, no_memory as no_key, version, RunInfo}
use Rattle.bpaf_keys.specs.declared.info.ExtraParams.{ExtraParams}
use Rattle.bpaf_grammar.specs.Command.{CommandOutcome, AdjacentOutcome, first_counts, nothing_left}
use Rattle.bpaf_grammar.specs.{Ending.Ending, Ending.LawfulEnding, Ending.run_ending, Run.RunsWords}

-- a flag tells a refused clone as want of memory
pub flag_clones_nothing : {T : Type 0} (named : Named) (absent : Option T) (s t : Situation)
    (clones : T → T → Type 0) (present : T) (r : Result T Error)
    → FlagOutcome clones named present absent s r t → IfErr r (ClonesNothing named absent s t)
flag_clones_nothing named absent s t clones present (Ok v) answered = tt
flag_clones_nothing named absent s t clones present (Err e) answered = λ spared.
    by_message e.0 answered spared
  where
    -- by the message of the refusal
    by_message : (m : Message) → FlagFails named absent s m t → is_memory m ≡ false
        → IsFlagAbsent named s t × (absent ≡ None)
    by_message Memory fails spared = absurd (true≢false spared)
    by_message _ fails spared = (fails.0, fails.1)

module _ (info : RunInfo) (s t : Situation) where
  -- that neither is asked for is told of no want of memory
  pub neither_asked : (r : Result ExtraParams Error) → ExtraOutcome info s r t
      → IfErr r (AsksForNeither info s t)
  neither_asked r (help more m t there again) = tt
  neither_asked r (version text m t absent is there) = tt
  neither_asked r (neither e m t absent none is) = λ spared. (m, absent, none)
  neither_asked r (no_key e t is keeps) = λ spared.
      absurd (true≢false (sym (ap is_memory is) ∙ spared))

-- a run that isn't told as want of memory had no inner want of memory
spared_run : {T : Type 0} {inner : Outcome T} {ending : Ending} → LawfulEnding ending
    → {s : Situation} {r : Result T ParseFailure} {t : Situation} → Runs T inner ending s r t
    → IsNotMemoryFailure r → Runs T (WithoutMemory inner) ending s r t
spared_run ends (run_value v left answered none) spared = run_value v left (answered, tt) none
spared_run ends (leftover v left f u answered tells) spared =
    leftover v left f u (answered, tt) tells
spared_run ends {s} (refused e left f u answered tells) spared =
    refused e left f u (answered, ends.spared e.0 s left f u tells spared) tells

-- an answer of a run over words that isn't told as want of memory comes of an inner one that isn't
pub words_spared : {T : Type 0} {inner : Outcome T} {describes : Shape → Type 0} {info : RunInfo}
    {known : Known} {given : Given} {r : Result T ParseFailure}
    → RunsWords T inner describes info known given r → IsNotMemoryFailure r
    → RunsWords T (WithoutMemory inner) describes info known given r
words_spared {describes = describes} {info} (ran context answer t line run) spared =
    ran context answer t line (spared_run (run_ending describes info) run spared)
words_spared (no_line word number context f none empty named renders) spared =
    no_line word number context f none empty named renders
words_spared none spared = absurd (true≢false spared)

module _ {T : Type 0} {inner : Outcome T} {ending : Ending} (ends : LawfulEnding ending)
    {s : Situation} {from : ℕ} where
  -- a retry whose end isn't want of memory follows a failure that isn't, and rests on none
  spared_retry : {end : ℕ} {f : ParseFailure} {t : Situation} {r : Result T ParseFailure}
      {u : Situation} → Retry T inner ending s from end f t r u → IsNotMemoryFailure r
      → IsTold f × Retry T (WithoutMemory inner) ending s from end f t r u
  spared_retry (nothing_left told taken) spared = (told, nothing_left told taken)
  spared_retry (second_counts v stop w told left once) spared =
      (told, second_counts v stop w told left (spared_run ends once tt))
  spared_retry (second_fails g stop w told left once again) spared =
      (told, second_fails g stop w told left (spared_run ends once again) again)
  spared_retry retry_memory spared = absurd (true≢false spared)

  -- attempts whose end isn't want of memory rest on none
  spared_attempts : {r : Result T ParseFailure} {u : Situation} → Attempts T inner ending s from r u
      → IsNotMemoryFailure r → Attempts T (WithoutMemory inner) ending s from r u
  spared_attempts (first_counts v end t stretch run) spared =
      first_counts v end t stretch (spared_run ends run tt)
  spared_attempts (first_fails f end t q w stretch run retry) spared =
      let again = spared_retry retry spared in
      first_fails f end t q w stretch (spared_run ends run again.0) again.1

module _ {T : Type 0} (inner : Outcome T) {ending : Ending} (ends : LawfulEnding ending)
    (called : Called) (shows : Part → Type 0) where
  -- a command catches no want of memory
  spared_command : {s t : Situation} {r : Result T Error}
      → CommandOutcome T inner ending called shows s r t → IsNotMemory r
      → CommandOutcome T (WithoutMemory inner) ending called shows s r t
  spared_command (value v p left at run) spared = value v p left at (spared_run ends run tt)
  spared_command (ended f e p left at run is) spared =
      ended f e p left at (spared_run ends run (rw is at spared)) is
  spared_command (missing e none is) spared = missing e none is
  spared_command (no_memory e p at is) spared = no_memory e p at is

  -- an adjacent command catches no want of memory
  spared_adjacent : {s t : Situation} {r : Result T Error}
      → AdjacentOutcome T inner ending called shows s r t → IsNotMemory r
      → AdjacentOutcome T (WithoutMemory inner) ending called shows s r t
  spared_adjacent (counted v p u at runs) spared =
      counted v p u at (runs.0, spared_attempts ends runs.1 tt, runs.2)
  spared_adjacent (failed f e p u at runs is) spared =
      failed f e p u at (spared_attempts ends runs (rw is at spared)) is
  spared_adjacent (unnamed e none is) spared = unnamed e none is
  spared_adjacent (no_path e p at is) spared = no_path e p at is

  -- no command catches want of memory
  pub spared_either : (adjacent : Bool) (s t : Situation) (r : Result T Error)
      → EitherCommandOutcome adjacent T inner ending called shows s r t → IsNotMemory r
      → EitherCommandOutcome adjacent T (WithoutMemory inner) ending called shows s r t
  spared_either true s t r outcome spared = spared_adjacent outcome spared
  spared_either false s t r outcome spared = spared_command outcome spared
