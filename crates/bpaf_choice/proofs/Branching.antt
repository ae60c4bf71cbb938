-- Branches of a choice: both begin at its start, and each can go back to it.
use Rattle.std.proofs.Common.{◌≡◌, ◌⊎◌, Result, ap, sym, subst, ◌∙◌}
use Rattle.bpaf_line.specs.Marks.{KeepsMarks, undone, redone}
use Rattle.bpaf_line.specs.{declared.error.Error.Error, Situation.Situation, Situation.open_count}
use Rattle.bpaf_line.proofs.Marks.{fits_undone, undone_twice}
use Rattle.bpaf_laws.specs.{Choice.Chosen, Choice.ChoiceOutcome, Choice.IsMemoryAnswer}
use Rattle.bpaf_laws.specs.{Reading.Outcome}
use Rattle.bpaf_laws.proofs.ChoiceLaws.{choice_within}
use Rattle.bpaf_choice.specs.Branches.{HasAnswered, IsStart, LedTo, start_of, end_of}
use Rattle.bpaf_choice.specs.{declared.branch.Branch.Branch}
use Rattle.bpaf_choice.specs.{declared.branch.Start.Start}

-- what lies behind a situation that can go back to a start can go back to it too
pub start_behind : {start : Start} {t : Situation} → IsStart start t
    → IsStart start (start_of start t)
start_behind {start} {t} begins = record {
  fits = fits_undone start.mark t begins.fits;
  left = begins.left ∙ sym (ap open_count (undone_twice start.mark t));
}

module _ {s : Situation} {start : Start} (begins : IsStart start s)
    (back : undone start.mark s ≡ s) where
  -- an evaluation that keeps the marks can go back to the start
  pub start_back : {t : Situation} → KeepsMarks s t → undone start.mark t ≡ s
  start_back keeps = keeps.same start.mark begins.fits ∙ back

  -- which lies behind it
  pub start_kept : {t : Situation} → KeepsMarks s t → IsStart start t
  start_kept keeps = record {
    fits = keeps.fit start.mark begins.fits;
    left = begins.left ∙ sym (ap open_count (keeps.same start.mark begins.fits));
  }

  -- a choice of what was answered there is one of the branch that answered
  pub answered_choice : {T : Type 0} (first second : Outcome T) {a : Result T Error} {t : Situation}
      (r : Result T Error) (u : Situation) → first s a t → KeepsMarks s t
      → ChoiceOutcome (HasAnswered (start_of start t) a t) second (start_of start t) r u
      → ChoiceOutcome first second s r u
  answered_choice first second {a} {t} r u ran keeps chosen =
      choice_within (HasAnswered s a t) second first second
      (λ w v b was spared. rw (was.0, was.1, was.2) ran) (λ w v b ran spared. ran) s u r
      (rw (start_back keeps) at chosen)

  module _ {branch : Branch} {sa t : Situation} (led : LedTo branch s sa)
      (keeps : KeepsMarks s t) where
    -- what is chosen is chosen of where both branches led
    pub chosen_kept : {T : Type 0} (a b r : Result T Error) (u : Situation)
        → Chosen (start_of start t) a (end_of start branch t) b t r u
        ⊎ IsMemoryAnswer (start_of start t) r u → Chosen s a sa b t r u ⊎ IsMemoryAnswer s r u
    chosen_kept a b r u answer =
        subst (λ w. Chosen s a w b t r u ⊎ IsMemoryAnswer s r u) led.there
        (subst (λ o. Chosen o a (redone branch.steps o) b t r u ⊎ IsMemoryAnswer o r u)
        (start_back keeps) answer)
