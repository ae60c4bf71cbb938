-- What a command leaves of its scope, and that a failure which it hands on is that of its own run
-- inside.
use Rattle.std.proofs.Common.{◌≡◌, ℕ, Bool, true, false, Result, Ok, Err, ⊎_elim, sym, true≢false}
use Rattle.bpaf_grammar.specs.Command.{ended, missing, no_memory, value, EitherCommandOutcome}
use Rattle.bpaf_grammar.specs.Command.{failed, no_path, unnamed, Attempts, first_fails}
use Rattle.bpaf_grammar.specs.Command.{second_fails, retry_memory, CommandOutcome, nothing_left}
use Rattle.std.proofs.Common.{◌+◌, refl, subst}
use Rattle.std.specs.Result.{IfErr}
use Rattle.bpaf_doc.specs.Shape.{Part, Shape}
use Rattle.bpaf_line.specs.{declared.failure.ParseFailure.ParseFailure, declared.error.Error.Error}
use Rattle.bpaf_line.specs.Situation.{Situation, with_scope}
use Rattle.bpaf_line.specs.declared.error.Message.{Message}
use Rattle.bpaf_keys.specs.Info.{RunInfo}
use Rattle.bpaf_laws.specs.Command.{Called, IsOpenedAt, LeavesNothing, inside, opening_words}
use Rattle.bpaf_laws.specs.{Reading.Outcome, Reading.Readings, Laws.Lawful, Laws.newly}
use Rattle.bpaf_laws.specs.Adjacent.{IsStretch}
use Rattle.bpaf_grammar.specs.Refusals.{FailsInside, NamesInside, StartsInside}
use Rattle.bpaf_grammar.specs.{Ending.EndsRun, Ending.Ending, Ending.LawfulEnding, Run.Runs}
use Rattle.bpaf_grammar.specs.CommandLaws.{command_lawful, run_empty}
use Rattle.bpaf_grammar.specs.{AdjacentLaws.either_lawful, Command.IsMissingPart}
use Rattle.bpaf_line.specs.Failure.{end_message}
use Rattle.bpaf_grammar.proofs.Naming.{run_is_named}
use Rattle.bpaf_laws.proofs.CommandLaws.{leaves_nothing}
use Rattle.bpaf_line.specs.declared.failure.ParseFailure.TheVariants as failure

module _ {T : Type 0} {inner : Outcome T} {ending : Ending} {reads : Readings T}
    (law : Lawful T inner reads) (ends : LawfulEnding ending) where
  module _ (called : Called) (shows : Part → Type 0) where
    -- a value of a command that isn't adjacent leaves nothing in the scope that this was given
    pub plain_leaves_nothing : (adjacent : Bool) (s t : Situation) (v : T)
        → EitherCommandOutcome adjacent T inner ending called shows s (Ok v) t → adjacent ≡ false
        → LeavesNothing s t
    plain_leaves_nothing false s t v outcome is = by_run outcome
      where
        by_run : {t : Situation} {v : T} → CommandOutcome T inner ending called shows s (Ok v) t
            → LeavesNothing s t
        by_run (value w p left at run) =
            leaves_nothing s left
            ((command_lawful law ends called shows).ok s left w (value w p left at run)).closed
            (run_empty (inside called s p) w left run)
    plain_leaves_nothing true s t v outcome is = absurd (true≢false is)

    -- a value of an adjacent command newly took one stretch
    pub takes_one_stretch : (adjacent : Bool) (s t : Situation) (v : T)
        → EitherCommandOutcome adjacent T inner ending called shows s (Ok v) t → adjacent ≡ true
        → IsStretch (newly s t)
    takes_one_stretch true s t v outcome is =
        ((either_lawful law ends called shows true).ok s t v outcome).reading.stretch
    takes_one_stretch false s t v outcome is = absurd (true≢false (sym is))

module _ {T : Type 0} {inner : Outcome T} {reads : Readings T} (law : Lawful T inner reads)
    (describes : Shape → Type 0) (info : RunInfo) (called : Called) (s : Situation) where
  -- a message says so of the failure that it is
  abbrev Names : Bool → Message → Type 0
  Names adjacent = NamesInside adjacent called inner describes info s

  -- the end of a run inside names where it ran
  end_names : (adjacent : Bool) (p : ℕ) → IsOpenedAt (opening_words called) s p
      → (start : Situation) → StartsInside adjacent (inside called s p) start → (f : ParseFailure)
      → (t : Situation) → Runs T inner (EndsRun describes info) start (Err f) t
      → Names adjacent (end_message f)
  end_names adjacent p at start starts f t run =
      let named = run_is_named inner describes info law start f t run in
      told f (record {
        place = p;
        opened = at;
        start = start;
        starts = starts;
        name = named.0;
        fails = named.1;
      })
    where
      told : (f : ParseFailure) → FailsInside adjacent called inner describes info s f
          → Names adjacent (end_message f)
      told failure.Memory fails = tt
      told (failure.Stdout doc full) fails = fails
      told (failure.Stderr doc) fails = fails

  -- of attempts the first one's failure counts
  attempts_name : (p : ℕ) → IsOpenedAt (opening_words called) s p → (f : ParseFailure)
      → (u : Situation)
      → Attempts T inner (EndsRun describes info) (inside called s p) (p + 1) (Err f) u
      → Names true (end_message f)
  attempts_name p at f u (first_fails g end t r w run ran (nothing_left told taken)) =
      end_names true p at (with_scope (inside called s p) (p + 1) end) (end, run, refl) g t ran
  attempts_name p at f u (first_fails g end t r w run ran
      (second_fails h stop x told left again other)) =
      end_names true p at (with_scope (inside called s p) (p + 1) end) (end, run, refl) g t ran
  attempts_name p at f u (first_fails g end t r w run ran retry_memory) = tt

  module _ (shows : Part → Type 0) where
    -- that its part is missing is the answer of no run inside
    missing_names : (adjacent : Bool) (m : Message) → IsMissingPart shows s m → Names adjacent m
    missing_names adjacent m lacks = ⊎_elim (λ want. subst (Names adjacent) (sym want) tt)
        (λ part. subst (Names adjacent) (sym part.3) tt) lacks

    -- what a command hands on is a failure of its own run inside
    names_inside : (adjacent : Bool) (t : Situation) (e : Error)
        → EitherCommandOutcome adjacent T inner (EndsRun describes info) called shows s (Err e) t
        → Names adjacent e.0
    names_inside false t e (ended f told p left at run is) = subst (Names false) (sym is)
        (end_names false p at (inside called s p) refl f left run)
    names_inside false t e (missing told none is) = missing_names false e.0 is
    names_inside false t e (no_memory told p at is) = subst (Names false) (sym is) tt
    names_inside true t e (failed f told p u at runs is) = subst (Names true) (sym is)
        (attempts_name p at f u runs)
    names_inside true t e (unnamed told none is) = missing_names true e.0 is
    names_inside true t e (no_path told p at is) = subst (Names true) (sym is) tt

    -- each answer that hands on a failure of the run inside names where that ran
    pub answer_names_inside : (adjacent : Bool) (r : Result T Error) (t : Situation)
        → EitherCommandOutcome adjacent T inner (EndsRun describes info) called shows s r t
        → IfErr r (λ e. Names adjacent e.0)
    answer_names_inside adjacent (Ok v) t o = tt
    answer_names_inside adjacent (Err e) t o = names_inside adjacent t e o
