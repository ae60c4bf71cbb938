-- Want of memory is caught by no turn and no repeat.
use Rattle.std.proofs.Common.{◌≡◌, Bool, true, false, Result, Option, arith, ℕ, List, [], ◌∷◌, Ok}
use Rattle.std.proofs.{Common.Err, Common.inl, Common.inr, lemmas.Bool.both_ways}
use Rattle.bpaf_line.specs.declared.error.Message.{Message}
use Rattle.bpaf_line.specs.{declared.error.Error.Error, Situation.Situation, Messages.is_memory}
use Rattle.bpaf_laws.specs.Combinators.{TurnOutcome, stops_step, Turns, UntilStop, UntilError}
use Rattle.bpaf_laws.specs.Combinators.{UntilRest, stops, rests, ManyOutcome, SomeOutcome}
use Rattle.bpaf_laws.specs.Combinators.{CollectOutcome, CountOutcome, LastOutcome}
use Rattle.bpaf_laws.specs.{Laws.Spares, Laws.WithoutMemory, Laws.NoneTakesNothing, Reading.Outcome}

-- what isn't want of memory comes of an inner answer that isn't want of memory either
abbrev pub CatchesNoMemory : {T R : Type 0} → (Outcome T → Outcome R) → Outcome T → Type 0
CatchesNoMemory combined inner = Spares (combined inner) (combined (WithoutMemory inner))

-- an error at which a turn stops isn't want of memory
pub stop_spared : (catches : Bool) (m : Message) (untouched : Bool)
    → stops_step catches m untouched ≡ true → is_memory m ≡ false
stop_spared catches m untouched stopping = grind arith

module _ {T : Type 0} (inner : Outcome T) where
  -- a turn catches no want of memory
  pub spared_step : (catches first : Bool)
      → CatchesNoMemory (λ outcome. TurnOutcome outcome catches first) inner
  spared_step catches first s t r o spared = grind (arith, stop_spared)

  -- None takes nothing
  pub none_takes_nothing : (catches : Bool) (s t : Situation) (r : Result (Option T) Error)
      → TurnOutcome inner catches true s r t → NoneTakesNothing s r t
  none_takes_nothing catches s t r o = grind arith

-- Repeats catch no want of memory.

module _ {T : Type 0} (inner : Outcome T) where
  -- turns that answered values are those of inner answers that aren't want of memory
  steps_spared : (catches first : Bool) (s : Situation) (vs : List T) (t : Situation)
      → Turns inner catches first s vs t → Turns (WithoutMemory inner) catches first s vs t
  steps_spared catches first s [] t o = o
  steps_spared catches first s (v ∷ vs) t o = grind (arith, steps_spared catches false o.0 vs t o.2)

  -- turns until one stops are those of inner answers that aren't want of memory
  until_stop_spared : (catches first : Bool) (s : Situation) (vs : List T) (t : Situation)
      → UntilStop inner catches first s vs t → UntilStop (WithoutMemory inner) catches first s vs t
  until_stop_spared catches first s vs t run = grind (arith, steps_spared, spared_step)

  -- turns until one fails of another error are those of inner answers that aren't want of memory
  until_error_spared : (catches first : Bool) (s : Situation) (e : Error) (t : Situation)
      → UntilError inner catches first s e t → is_memory e.0 ≡ false
      → UntilError (WithoutMemory inner) catches first s e t
  until_error_spared catches first s e t run spared = grind (arith, steps_spared, spared_step)

  -- many catches no want of memory
  pub spared_many : (catches : Bool)
      → CatchesNoMemory (λ outcome. ManyOutcome outcome catches) inner
  spared_many catches s t r o spared =
      grind (arith, until_stop_spared catches true s, until_error_spared catches true s)

  -- some catches no want of memory
  pub spared_some : (catches : Bool) (message : List ℕ)
      → CatchesNoMemory (λ outcome. SomeOutcome outcome catches message) inner
  spared_some catches message s t r o spared =
      grind (arith, until_stop_spared catches true s, until_error_spared catches true s)

  -- collect catches no want of memory
  pub spared_collect : {C : Type 0} (catches : Bool) (fills : List T → C → Type 0)
      → CatchesNoMemory (λ outcome. CollectOutcome outcome catches fills) inner
  spared_collect catches fills s t (Ok v) o spared = grind (arith, until_stop_spared)
  spared_collect catches fills s t (Err e) (inl failed) spared = grind (arith, until_error_spared)
  spared_collect catches fills s t (Err e) (inr refused) spared = grind (arith, both_ways)

  -- turns until one stops or rests are those of inner answers that aren't want of memory
  until_rest_spared : (s : Situation) (vs : List T) (t : Situation) → UntilRest inner s vs t
      → UntilRest (WithoutMemory inner) s vs t
  until_rest_spared s vs t (stops run) = stops (until_stop_spared false false s vs t run)
  until_rest_spared s vs t (rests v is o same) = rests v is (o, tt) same

  -- count catches no want of memory
  pub spared_count : CatchesNoMemory (λ outcome. CountOutcome outcome) inner
  spared_count s t (Ok n) o spared = (o.0, until_rest_spared s o.0 t o.1, o.2)
  spared_count s t (Err e) o spared = until_error_spared false false s e t o spared

  -- last catches no want of memory
  pub spared_last : CatchesNoMemory (λ outcome. LastOutcome outcome) inner
  spared_last s t (Ok v) (inl run) spared = inl (run.0, until_rest_spared s _ t run.1)
  spared_last s t (Ok v) (inr again) spared = grind (arith, until_rest_spared)
  spared_last s t (Err e) (inl fault) spared = grind (arith, until_error_spared)
  spared_last s t (Err e) (inr again) spared = grind (arith, until_rest_spared)
