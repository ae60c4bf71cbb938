-- What choices and commands show is what their parsers do.
use Rattle.std.proofs.Common.{◌≡◌, ◌⊎◌, Bool, true, false, ℕ, List, Result, Ok, inl, inr, Err}
use Rattle.std.proofs.Common.{sym, ap, ◌∙◌, ⊎_elim, true≢false, if◌then◌else◌}
use Rattle.bpaf_doc.specs.{declared.doc.Piece.Piece, Shape.Part, Shape.Shape}
use Rattle.bpaf_line.specs.declared.error.Message.TheVariants.{Memory, Missing, ParseFailure}
use Rattle.bpaf_line.specs.Messages.{CombinesSpared, can_catch, is_memory}
use Rattle.bpaf_line.specs.Situation.{Situation, IsStretchFrom}
use Rattle.bpaf_line.specs.declared.failure.ParseFailure.{ParseFailure as Failure}
use Rattle.bpaf_line.specs.{declared.error.Error.Error, declared.error.Message.Message}
use Rattle.bpaf_laws.proofs.{ChoiceLaws.of_chosen, Keeping.keeps_refl, AdjacentLaws.keeps_stretch}
use Rattle.bpaf_laws.specs.Choice.{BranchesEval, ChoiceOutcome}
use Rattle.bpaf_laws.specs.Command.{Called, IsOpenedAt, inside, opening_words}
use Rattle.bpaf_laws.specs.{Laws.Lawful, Reading.Outcome, Reading.Readings}
use Rattle.bpaf_core.specs.Command.{AdjacentOutcome, Attempt, Attempts, EitherCommandOutcome, Retry}
use Rattle.bpaf_core.specs.Command.{failed, first_fails, no_path, nothing_left, second_fails}
use Rattle.bpaf_core.specs.Command.{unnamed, CommandOutcome, IsMissingPart, ended}
use Rattle.bpaf_core.specs.Command.{missing, no_memory}
use Rattle.bpaf_core.specs.{Failure.end_message, Ending.Ending, Ending.EndsRun, Info.RunInfo}
use Rattle.bpaf.specs.Asked.{BehindWord, CameTo, HandsOn, RunShows, Showing, inner_answer}
use Rattle.bpaf.proofs.Asked.{IsAlsoShown, came_also, came_from, run_shows}
use Rattle.bpaf_line.specs.declared.failure.ParseFailure.TheVariants as failure

-- of two refusals combined one is the inner run's answer that both are
spared_shows : (first second both : Message) (f : Failure) → CombinesSpared first second both
    → both ≡ ParseFailure f → (first ≡ ParseFailure f) ⊎ (second ≡ ParseFailure f)
spared_shows (ParseFailure g) second both f o is = inl (sym o ∙ is)
spared_shows first (ParseFailure g) both f o is = inr (sym o ∙ is)
spared_shows (Missing items) (Missing others) both f o is =
    ⊎_elim (λ all. absurd cc) (λ want. absurd cc) o
spared_shows first second both f o is = of_either (can_catch first) o
  where
    of_either : (caught : Bool) → both ≡ (if caught then second else first)
        → (first ≡ ParseFailure f) ⊎ (second ≡ ParseFailure f)
    of_either true same = inr (sym same ∙ is)
    of_either false same = inl (sym same ∙ is)

-- want of memory shows nothing
want_shows_nothing : {A : Type 0} {m : Message} {doc : List Piece} {full : Bool} → m ≡ Memory
    → m ≡ inner_answer doc full → A
want_shows_nothing want is = cc

module _ {showing : Showing} {T : Type 0} {first second : Outcome T}
    (one : HandsOn showing first) (other : HandsOn showing second) where
  module _ (s : Situation) (doc : List Piece) (full : Bool) where
    -- an answer that hands on what was shown came to it
    abbrev Shows : Result T Error → Situation → Type 0
    Shows (Ok v) t = Unit {0}
    Shows (Err e) t = e.0 ≡ inner_answer doc full → CameTo showing s doc full

    -- the answer of a branch that hands on what was shown came to it
    branch_shows : {branch : Outcome T} → HandsOn showing branch → (r : Result T Error)
        (t : Situation) → branch s r t → Shows r t
    branch_shows branch (Ok v) t ran = tt
    branch_shows branch (Err e) t ran = branch.all s e t doc full ran

    -- the answer chosen of two came to what was shown
    chosen_shows : (r : Result T Error) (t : Situation) → BranchesEval first second s r t
        → Shows r t
    chosen_shows r t ran = of_chosen s Shows (λ v m loser place t saved it. tt) (λ e m shows. shows)
        (λ f g both m n combined here there is. ⊎_elim (λ want. want_shows_nothing want.1 is)
        (λ spared. ⊎_elim here there
        (spared_shows f.0 g.0 both.0 (failure.Stdout doc full) spared.1 is)) combined) ran.a ran.sa
        ran.b ran.sb r t ran.chosen (branch_shows one ran.a ran.sa ran.first_ran)
        (branch_shows other ran.b ran.sb ran.second_ran)

  -- a choice of two shows what one of them does
  pub choice_hands_on : HandsOn showing (ChoiceOutcome first second)
  choice_hands_on = record {
    all = λ s e t doc full o is. ⊎_elim (λ ran. chosen_shows s doc full (Err e) t ran is)
        (λ want. absurd (true≢false (sym want.0 ∙ ap is_memory is))) o;
  }

-- an end of a run that is handed on as what is shown shows it
end_is_shown : (f : Failure) (doc : List Piece) (full : Bool)
    → end_message f ≡ inner_answer doc full → f ≡ failure.Stdout doc full
end_is_shown failure.Memory doc full is = cc
end_is_shown (failure.Stdout text more) doc full is = cc
end_is_shown (failure.Stderr text) doc full is = cc

-- that a command's part is missing shows nothing
missing_shows_nothing : {shows : Part → Type 0} (s : Situation) {m : Message} {doc : List Piece}
    {full : Bool} → IsMissingPart shows s m → ¬ (m ≡ inner_answer doc full)
missing_shows_nothing s {m} lacks is =
    ⊎_elim (λ want. absurd cc) (λ part. let other : m ≡ Missing part.1 = part.3 in absurd cc) lacks

module _ (describes : Shape → Type 0) (info : RunInfo) {T : Type 0} {inner : Outcome T}
    {reads : Readings T} (law : Lawful T inner reads) {showing : Showing}
    (handed : HandsOn showing inner) (plain : info.help_if_no_args ≡ false) where
  -- what runs behind the word shows or hands on
  abbrev Behind : Showing
  Behind = RunShows describes info showing

  -- how it ends
  abbrev Ends : Ending
  Ends = EndsRun describes info

  module _ {s : Situation} {from : ℕ} {doc : List Piece} {full : Bool} where
    -- an attempt shows what it was asked for, or what the parser does
    attempt_shows : {end : ℕ} {t : Situation} → IsStretchFrom s from end
        → Attempt T inner Ends s from end (Err (failure.Stdout doc full)) t
        → CameTo Behind s doc full
    attempt_shows {end} run ran =
        came_from (keeps_stretch s from end run.present) (run_shows law handed plain ran)

    -- what follows an attempt shows what it was asked for, or what the parser does
    retry_shows : {end : ℕ} {f : Failure} {t u : Situation} → IsStretchFrom s from end
        → Attempt T inner Ends s from end (Err f) t
        → Retry T inner Ends s from end f t (Err (failure.Stdout doc full)) u
        → CameTo Behind s doc full
    retry_shows run ran (nothing_left told taken) = attempt_shows run ran
    retry_shows run ran (second_fails h stop w told left again other) = attempt_shows run ran

    -- attempts show what they were asked for, or what the parser does
    attempts_show : {u : Situation}
        → Attempts T inner Ends s from (Err (failure.Stdout doc full)) u → CameTo Behind s doc full
    attempts_show (first_fails f end t r w run ran retry) = retry_shows run ran retry

  -- what is shown behind the word
  behind : {called : Called} {s : Situation} {p : ℕ} {doc : List Piece} {full : Bool}
      → IsOpenedAt (opening_words called) s p → CameTo Behind (inside called s p) doc full
      → CameTo (BehindWord called Behind) s doc full
  behind {s = s} {p} at came = record {
    there = s;
    keeps = keeps_refl s;
    shown = record { place = p; word = at; run = came };
  }

  module _ (called : Called) (shows : Part → Type 0) where
    -- each command shows what its own run was asked for, or hands on
    pub command_hands_on : (adjacent : Bool) → HandsOn (BehindWord called Behind)
        (EitherCommandOutcome adjacent T inner Ends called shows)
    command_hands_on true = record { all = adjacent_shows }
      where
        adjacent_shows : (s : Situation) (e : Error) (t : Situation) (doc : List Piece)
            (full : Bool) → AdjacentOutcome T inner Ends called shows s (Err e) t
            → e.0 ≡ inner_answer doc full → CameTo (BehindWord called Behind) s doc full
        adjacent_shows s e t doc full (failed f told p left at ran same) is =
            behind at (attempts_show (rw (end_is_shown f doc full (sym same ∙ is)) at ran))
        adjacent_shows s e t doc full (unnamed told none same) is =
            absurd (missing_shows_nothing s same is)
        adjacent_shows s e t doc full (no_path told p at same) is = want_shows_nothing same is
    command_hands_on false = record { all = plain_shows }
      where
        plain_shows : (s : Situation) (e : Error) (t : Situation) (doc : List Piece)
            (full : Bool) → CommandOutcome T inner Ends called shows s (Err e) t
            → e.0 ≡ inner_answer doc full → CameTo (BehindWord called Behind) s doc full
        plain_shows s e t doc full (ended f told p left at ran same) is = behind at
            (run_shows law handed plain (rw (end_is_shown f doc full (sym same ∙ is)) at ran))
        plain_shows s e t doc full (missing told none same) is =
            absurd (missing_shows_nothing s same is)
        plain_shows s e t doc full (no_memory told p at same) is = want_shows_nothing same is

-- what is shown behind a word may be shown there by what may show more
pub behind_also : {called : Called} {showing other : Showing} → IsAlsoShown showing other
    → IsAlsoShown (BehindWord called showing) (BehindWord called other)
behind_also also s doc full behind =
    record { place = behind.place; word = behind.word; run = came_also also behind.run }
