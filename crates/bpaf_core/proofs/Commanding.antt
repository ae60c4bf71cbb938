-- How the answers of a command and of the attempts of an adjacent one are put together, what they
-- leave, and that a failure which a command hands on is that of its own run inside.
use Rattle.std.proofs.Common.{◌≡◌, ℕ, Bool, true, false, Result, Ok, Err, ⊎_elim, sym, true≢false}
use Rattle.bpaf_grammar.specs.Command.{ended, missing, no_memory, value, EitherCommandOutcome}
use Rattle.bpaf_grammar.specs.Command.{Enters, RunsInside, StaysOutside, counted, failed, no_path}
use Rattle.bpaf_grammar.specs.Command.{unnamed, Attempts, GivesBack, IsTold, Retry, first_fails}
use Rattle.std.proofs.Common.{◌≤◌, length, refl, ap, ◌∙◌}
use Rattle.std.specs.Result.{IsErr, IsErrAnd}
use Rattle.bpaf_doc.specs.Shape.{Part}
use Rattle.bpaf_line.specs.Marks.{Fits, KeepsMarks, redone, undone, Changes}
use Rattle.bpaf_line.specs.Situation.{Situation, IsStretchFrom, with_scope}
use Rattle.bpaf_line.specs.{declared.failure.ParseFailure.ParseFailure, declared.error.Error.Error}
use Rattle.bpaf_line.specs.{declared.mark.Mark.Mark, Messages.is_memory}
use Rattle.bpaf_laws.specs.{Reading.Outcome, Reading.Readings, Command.Called, Command.inside}
use Rattle.bpaf_laws.specs.{Adjacent.IsFirstLeft, Laws.Lawful}
use Rattle.bpaf_grammar.specs.{Command.second_fails, Command.retry_memory, CommandLaws.runs_keeps}
use Rattle.bpaf_grammar.specs.{Ending.Ending, Ending.LawfulEnding, AdjacentLaws.attempts_counted}
use Rattle.bpaf_line.specs.Failure.{end_message}
use Rattle.bpaf_grammar.specs.Run.{Runs}
use Rattle.bpaf_line.proofs.Marks.{keeps_marks_refl, keeps_marks_scope, keeps_marks_trans}
use Rattle.bpaf_line.specs.declared.failure.ParseFailure.TheVariants as failure

-- a plain command runs once inside
pub runs_plain : {T : Type 0} {inner : Outcome T} {ending : Ending} {adjacent : Bool}
    {s : Situation} {r : Result T ParseFailure} {t : Situation} → adjacent ≡ false
    → Runs T inner ending s r t → RunsInside adjacent T inner ending s r t
runs_plain plain run = rw plain run

module _ {T : Type 0} (inner : Outcome T) (ending : Ending) (called : Called)
    (shows : Part → Type 0) (s : Situation) where
  -- where one doesn't get inside, the command refuses
  not_inside : (adjacent : Bool) {e : Error} {t : Situation} → StaysOutside called shows s e t
      → EitherCommandOutcome adjacent T inner ending called shows s (Err e) t
  not_inside true {e} outside = ⊎_elim (λ lacks. rw lacks.2 (unnamed e lacks.0 lacks.1))
      (λ wants. rw wants.3 (no_path e wants.0 wants.1 wants.2)) outside
  not_inside false {e} outside = ⊎_elim (λ lacks. rw lacks.2 (missing e lacks.0 lacks.1))
      (λ wants. rw wants.3 (no_memory e wants.0 wants.1 wants.2)) outside

  -- where the refusal of one that doesn't get inside is handed on, the command refuses
  pub refused_inside : (adjacent : Bool) {e : Error} (r : Result T Error) {t : Situation}
      → IsErr r × IsErrAnd r (λ given. given ≡ e) → StaysOutside called shows s e t
      → EitherCommandOutcome adjacent T inner ending called shows s r t
  refused_inside adjacent (Err given) handed outside = rw handed.1 (not_inside adjacent outside)
  refused_inside adjacent (Ok v) handed outside = absurd (true≢false (sym handed.0))

  module _ {U : Type 0} (u : U) (m t : Situation) (enters : Enters called shows s (Ok u) m) where
    -- what runs inside answers a value
    pub inside_answers : (adjacent : Bool) (v : T) → RunsInside adjacent T inner ending m (Ok v) t
        → EitherCommandOutcome adjacent T inner ending called shows s (Ok v) t
    inside_answers true v runs = counted v enters.0 t enters.1 (rw enters.2 at runs)
    inside_answers false v runs = value v enters.0 t enters.1 (rw enters.2 at runs)

    -- what runs inside refuses
    pub inside_refuses : (adjacent : Bool) (f : ParseFailure) {e : Error}
        → RunsInside adjacent T inner ending m (Err f) t → e.0 ≡ end_message f
        → EitherCommandOutcome adjacent T inner ending called shows s (Err e) t
    inside_refuses true f {e} runs = failed f e enters.0 t enters.1 (rw enters.2 at runs)
    inside_refuses false f {e} runs = ended f e enters.0 t enters.1 (rw enters.2 at runs)

-- How the attempts of an adjacent command are put together.

-- an end that is told as want of memory is want of memory
pub memory_end : (f : ParseFailure) → is_memory (end_message f) ≡ true → f ≡ failure.Memory
memory_end failure.Memory is = refl
memory_end f is = absurd (true≢false (sym is))

module _ {mark : Mark} (t : Situation) {m u : Situation} (back : m ≡ undone mark t)
    (fits : Fits mark m)
    (there : undone mark m ≡ m) (keeps : KeepsMarks m u) where
  -- what began at a mark goes back to it
  pub back_again : undone mark u ≡ undone mark t
  back_again = keeps.same mark fits ∙ (there ∙ back)

  -- steps from a mark on lead to where they led
  pub led_again : (steps : Changes) → redone steps (undone mark t) ≡ t
      → redone steps (undone mark u) ≡ t
  led_again steps led = ap (redone steps) back_again ∙ led

module _ {T : Type 0} {inner : Outcome T} {ending : Ending} {reads : Readings T}
    (law : Lawful T inner reads) (ends : LawfulEnding ending) where
  -- a run over another scope leaves the context, and keeps the marks
  pub attempt_keeps : (s : Situation) {w t : Situation} {from end : ℕ} {r : Result T ParseFailure}
      → w ≡ with_scope s from end → Runs T inner ending w r t
      → (t.context ≡ s.context) × KeepsMarks s t
  attempt_keeps s {t = t} {from} {end} {r} is ran =
      let keeps = runs_keeps law ends (with_scope s from end) r t (rw is at ran) in (
        keeps.context,
        keeps_marks_trans s (with_scope s from end) t
            (keeps_marks_scope s s from end (keeps_marks_refl s)) keeps.marks,
      )

  -- attempts that answer a value leave the context, so the old scope lies in the line still
  pub still_inside : {s : Situation} {from : ℕ} {v : T} {u : Situation} {end : ℕ}
      → Attempts T inner ending s from (Ok v) u → end ≤ length s.context.line
      → end ≤ length u.context.line
  still_inside {s} {from} {v} {u} attempts inside =
      let count = attempts_counted s from v u attempts in
      rw (runs_keeps law ends (with_scope s from count.end) (Ok v) u count.ran).context inside

module _ {T : Type 0} {inner : Outcome T} {ending : Ending} {s : Situation} {from end : ℕ}
    {f : ParseFailure} {t : Situation} where
  -- memory is wanted, and all is as before the first attempt
  pub memory_wanted : {g : ParseFailure} {u : Situation} → g ≡ failure.Memory → u ≡ s
      → Retry T inner ending s from end f t (Err g) u
  memory_wanted is back = rw (is, back) retry_memory

  -- memory is wanted, and all is as before, where a call refused that wants memory alone
  pub memory_refused : {r : Result T ParseFailure} {u : Situation}
      → IsErr r × IsErrAnd r (λ g. g ≡ failure.Memory) → u ≡ s
      → Retry T inner ending s from end f t r u
  memory_refused {r = Err g} wanted back = memory_wanted wanted.1 back
  memory_refused {r = Ok v} wanted back = absurd wanted.1

  module _ {stop : ℕ} {m u : Situation} (told : IsTold f) (left : IsFirstLeft t from end stop)
      (back : m ≡ s) where
    -- the second attempt fails too
    pub second_refuses : {g : ParseFailure} → Runs T inner ending (with_scope m from stop) (Err g) u
        → {there : Situation} {h : ParseFailure} {o w : Situation} → there ≡ t → o ≡ s
        → GivesBack f g o there h w → Retry T inner ending s from end f t (Err h) w
    second_refuses {g} ran led again gives = ⊎_elim
        (λ both. rw (both.1, both.2 ∙ led)
        (second_fails g stop u told left (rw back at ran) both.0))
        (λ wanted. memory_wanted wanted.0 (wanted.1 ∙ again)) gives

-- the first attempt fails, and what follows begins where it did
pub then_retried : {T : Type 0} {inner : Outcome T} {ending : Ending} {s : Situation}
    {from end : ℕ} {f : ParseFailure} {t o : Situation} {r : Result T ParseFailure} {u : Situation}
    → IsStretchFrom s from end → Runs T inner ending (with_scope s from end) (Err f) t → o ≡ s
    → Retry T inner ending o from end f t r u → Attempts T inner ending s from r u
then_retried {end = end} {f} {t} {r = r} {u} run ran back retry =
    first_fails f end t r u run ran (rw back at retry)
