-- Commands that may be adjacent keep to the laws where their inner parsers do.
use Rattle.bpaf_grammar.specs.Command.{AdjacentOutcome, Attempt, Attempts, Retry, counted, failed}
use Rattle.bpaf_grammar.specs.Command.{first_counts, first_fails, no_path, nothing_left}
use Rattle.bpaf_grammar.specs.Command.{second_counts, second_fails, unnamed, retry_memory}
use Rattle.bpaf_grammar.specs.CommandLaws.{command_lawful, names_end, names_missing, run_empty}
use Rattle.std.specs.Prelude.{◌≡◌, ℕ, ◌+◌, ◌<◌, ◌≤◌, Bool, true, false, None, Result, Ok, Err, refl}
use Rattle.std.proofs.{Common.sym, Common.subst, Math.Nat.lt_trans}
use Rattle.bpaf_doc.specs.Shape.{Part}
use Rattle.bpaf_line.specs.Situation.{Situation, is_open, with_current, with_scope, IsStretchFrom}
use Rattle.bpaf_line.specs.{declared.failure.ParseFailure.ParseFailure, declared.error.Error.Error}
use Rattle.bpaf_line.specs.declared.error.Message.TheVariants.{Memory}
use Rattle.bpaf_laws.specs.Laws.{Keeps, Lawful, Reads, HasSomeName, NamesAnswer, no_memory, wanting}
use Rattle.bpaf_laws.specs.Command.{Called, CommandReads, inside, opening_words}
use Rattle.bpaf_laws.specs.{Reading.Outcome, Reading.Readings, Adjacent.StretchReads}
use Rattle.bpaf_grammar.specs.CommandLaws.{run_read, runs_has_name, runs_keeps}
use Rattle.bpaf_grammar.specs.Command.{EitherCommandOutcome, EitherCommandReads}
use Rattle.bpaf_line.specs.Failure.{end_message}
use Rattle.bpaf_grammar.specs.Ending.{Ending, LawfulEnding}
use Rattle.bpaf_laws.proofs.Keeping.{keeps_refl, keeps_trans, keeps_unset, names_same}
use Rattle.bpaf_laws.proofs.AdjacentLaws.{adjacent_read, keeps_stretch}
use Rattle.bpaf_laws.proofs.CommandLaws.{keeps_inside, keeps_opened}

-- the attempt that a value comes of: it was over present places
pub record Counted (T : Type 0) (inner : Outcome T) (ending : Ending) (s : Situation) (from : ℕ)
    (v : T) (t : Situation) : Type 0 where
  pub end : ℕ
  pub ordered : from ≤ end
  pub present : (p : ℕ) → from ≤ p → p < end → is_open s p ≡ true
  pub ran : Attempt T inner ending s from end (Ok v) t

module _ {T : Type 0} {inner : Outcome T} {ending : Ending} (s : Situation) (from : ℕ) where
  -- the second attempt is over fewer places than the first
  retry_counted : (end : ℕ) (f : ParseFailure) (t : Situation) (v : T) (u : Situation)
      → IsStretchFrom s from end → Retry T inner ending s from end f t (Ok v) u
      → Counted T inner ending s from v u
  retry_counted end f t v u run (second_counts w stop x told left ran) = record {
    end = stop;
    ordered = left.behind;
    present = λ p lower upper. run.present p lower (lt_trans upper left.within);
    ran = ran;
  }

  -- a value comes of one of the attempts
  pub attempts_counted : (v : T) (u : Situation) → Attempts T inner ending s from (Ok v) u
      → Counted T inner ending s from v u
  attempts_counted v u (first_counts w end t run ran) =
      record { end = end; ordered = run.ordered; present = run.present; ran = ran }
  attempts_counted v u (first_fails f end t r w run ran retry) = retry_counted end f t v w run retry

module _ {T : Type 0} {inner : Outcome T} {ending : Ending} {reads : Readings T}
    (law : Lawful T inner reads) (ends : LawfulEnding ending) where
  -- what an attempt over present places keeps
  attempt_keeps : (s : Situation) (from end : ℕ) (r : Result T ParseFailure) (t : Situation)
      → IsStretchFrom s from end → Attempt T inner ending s from end r t → Keeps s t
  attempt_keeps s from end r t run ran = keeps_trans s (with_scope s from end) t
      (keeps_stretch s from end run.present) (runs_keeps law ends (with_scope s from end) r t ran)

  -- what a retry that fails keeps
  retry_keeps : (s : Situation) (from end : ℕ) (f g : ParseFailure) (t u : Situation)
      → IsStretchFrom s from end → Attempt T inner ending s from end (Err f) t
      → Retry T inner ending s from end f t (Err g) u → Keeps s u
  retry_keeps s from end f g t u run ran (nothing_left told taken) =
      attempt_keeps s from end (Err f) t run ran
  retry_keeps s from end f g t u run ran (second_fails h stop w told left again other) =
      attempt_keeps s from end (Err f) t run ran
  retry_keeps s from end f g t u run ran retry_memory = keeps_refl s

  -- what attempts that fail keep
  attempts_keep : (s : Situation) (from : ℕ) (g : ParseFailure) (u : Situation)
      → Attempts T inner ending s from (Err g) u → Keeps s u
  attempts_keep s from g u (first_fails f end t r w run ran retry) =
      retry_keeps s from end f g t w run ran retry

  -- a failure of attempts has one of the twelve names
  attempts_has_name : (s : Situation) (from : ℕ) (g : ParseFailure) (u : Situation)
      → Attempts T inner ending s from (Err g) u → HasSomeName s.context g
  attempts_has_name s from g u (first_fails f end t r w run ran (nothing_left told taken)) =
      runs_has_name law ends (with_scope s from end) f t ran
  attempts_has_name s from g u
      (first_fails f end t r w run ran (second_fails h stop x told left again other)) =
      runs_has_name law ends (with_scope s from end) f t ran
  attempts_has_name s from g u (first_fails f end t r w run ran retry_memory) = (no_memory, wanting)

  module _ (called : Called) (shows : Part → Type 0) where
    -- what an adjacent command answers is a reading, whose share is one stretch
    adjacent_reads : (s t : Situation) (v : T)
        → AdjacentOutcome T inner ending called shows s (Ok v) t
        → Reads T (StretchReads T (CommandReads T (opening_words called) reads)) s v t
    adjacent_reads s t v (counted w p u at runs) =
        let m : Situation = inside called s p in
        let count = attempts_counted m (p + 1) w runs.0 runs.1 in
        let run = with_scope m (p + 1) count.end in
        subst (Reads T (StretchReads T (CommandReads T (opening_words called) reads)) s w)
        (sym runs.2) (adjacent_read called s p at count.end count.ordered count.present w runs.0
        (run_read law ends run w runs.0 count.ran) (run_empty run w runs.0 count.ran))

    -- what its refusal keeps
    adjacent_refused : (s t : Situation) (e : Error)
        → AdjacentOutcome T inner ending called shows s (Err e) t → Keeps s t
    adjacent_refused s t e (failed f told p u at runs is) = keeps_trans s (inside called s p) u
        (keeps_inside called s p at) (attempts_keep (inside called s p) (p + 1) f u runs)
    adjacent_refused s t e (unnamed told none is) = keeps_unset s (with_current s None) refl
    adjacent_refused s t e (no_path told p at is) = keeps_opened (opening_words called) s p at

    -- what it hands on of the runs inside has a name
    adjacent_named : (s t : Situation) (e : Error)
        → AdjacentOutcome T inner ending called shows s (Err e) t → NamesAnswer s.context e.0
    adjacent_named s t e (failed f told p u at runs is) = names_same _ e.0 (end_message f)
        (names_end f (attempts_has_name (inside called s p) (p + 1) f u runs)) is
    adjacent_named s t e (unnamed told none is) = names_missing shows s e.0 is
    adjacent_named s t e (no_path told p at is) = names_same _ e.0 Memory tt is

    -- commands keep to the laws, adjacent ones and plain ones
    pub either_lawful : (adjacent : Bool)
        → Lawful T (EitherCommandOutcome adjacent T inner ending called shows)
        (EitherCommandReads adjacent T (opening_words called) reads)
    either_lawful true = record {
      ok = λ s t v o. adjacent_reads s t v o;
      err = λ s t e o. adjacent_refused s t e o;
      named = λ s t e o. adjacent_named s t e o;
    }
    either_lawful false = command_lawful law ends called shows
