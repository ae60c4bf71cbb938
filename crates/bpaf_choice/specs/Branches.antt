-- Branches: where they begin, where each led to, and the failure of two attempts.
use Rattle.std.specs.Prelude.{◌≡◌, length, Result}
use Rattle.bpaf_line.specs.Marks.{Fits, CanRedo, undone, redone}
use Rattle.bpaf_line.specs.{Situation.Situation, Situation.open_count, declared.error.Error.Error}
use Rattle.bpaf_laws.specs.Reading.{Outcome}
use Rattle.std.specs.Prelude.{◌⊎◌, false}
use Rattle.bpaf_line.specs.{Messages.is_memory, Failure.end_message}
use Rattle.bpaf_line.specs.declared.failure.ParseFailure.{ParseFailure}
use Rattle.bpaf_line.specs.declared.failure.ParseFailure.TheVariants as failure
use Rattle.bpaf_choice.specs.{declared.branch.Start.Start}
use Rattle.bpaf_choice.specs.{declared.branch.Branch.Branch}

-- a parse can go back to the start, in which so many items are present
pub record IsStart (start : Start) (t : Situation) : Type 0 where
  pub fits : Fits start.mark t
  pub left : start.left ≡ open_count (undone start.mark t)

-- the branch led from a situation to another
pub record LedTo (branch : Branch) (s t : Situation) : Type 0 where
  pub redo : CanRedo branch.steps s
  pub there : redone branch.steps s ≡ t
  pub left : branch.left ≡ open_count t
  pub depth : branch.depth ≡ length t.path

-- where the start is that lies behind a situation
abbrev pub start_of : Start → Situation → Situation
start_of start t = undone start.mark t

-- where the branch leads to from the start that lies behind a situation
abbrev pub end_of : Start → Branch → Situation → Situation
end_of start branch t = redone branch.steps (start_of start t)

-- a branch begins at the start that lies behind a situation
abbrev pub IsBranch : Start → Branch → Situation → Type 0
IsBranch start branch t = LedTo branch (start_of start t) (end_of start branch t)

-- what was answered from a situation, and where that led
abbrev pub HasAnswered : {T : Type 0} → Situation → Result T Error → Situation → Outcome T
HasAnswered s a t from r u = (from ≡ s) × (r ≡ a) × (u ≡ t)

-- an end of a run that isn't want of memory
abbrev pub IsTold : ParseFailure → Type 0
IsTold f = is_memory (end_message f) ≡ false

-- the failure that stands where the second attempt failed too: the first one, there where the first
-- attempt led; or want of memory, back where both began
abbrev pub GivesBack : ParseFailure → ParseFailure → Situation → Situation → ParseFailure
    → Situation → Type 0
GivesBack first second back there f t =
    (IsTold second × (f ≡ first) × (t ≡ there)) ⊎ ((f ≡ failure.Memory) × (t ≡ back))
