-- Marks: how far a parse was, what it is when it goes back, and what it did since.
use Rattle.std.specs.Prelude.{ℕ, List, Option, ◌≡◌, ◌≤◌, ◌++◌, length, take, drop, IfSome}
use Rattle.bpaf_line.specs.{Situation.Situation, Situation.PresentInTurn, declared.mark.Mark.Mark}

-- the places that were taken, the conflicts and the names, in order, and what was left
pub record Changes : Type 0 where
  pub taken : List ℕ
  pub conflicts : List (ℕ × ℕ)
  pub path : List (List ℕ)
  pub start : ℕ
  pub end : ℕ
  pub current : Option ℕ

-- Marks: how far a parse was, what it is when it goes back, and what it did since.

-- how far a parse is
abbrev pub mark_of : Situation → Mark
mark_of s = record {
  taken = length s.trail;
  conflicts = length s.conflicts;
  depth = length s.path;
  start = s.start;
  end = s.end;
  current = s.current;
}

-- a parse is at least as far as the mark
pub record HasReached (mark : Mark) (s : Situation) : Type 0 where
  pub taken : mark.taken ≤ length s.trail
  pub conflicts : mark.conflicts ≤ length s.conflicts
  pub depth : mark.depth ≤ length s.path

-- a parse can go back to the mark: it reached it, its scope lies in the line, its path has the name
pub record Fits (mark : Mark) (s : Situation) : Type 0 where
  pub reached : HasReached mark s
  pub ordered : mark.start ≤ mark.end
  pub inside : mark.end ≤ length s.context.line
  pub named : IfSome s.context.name (λ _. 1 ≤ mark.depth)

-- the parse gone back to the mark
abbrev pub undone : Mark → Situation → Situation
undone mark s = record s {
  trail = take mark.taken s.trail;
  conflicts = take mark.conflicts s.conflicts;
  path = take mark.depth s.path;
  start = mark.start;
  end = mark.end;
  current = mark.current;
}

-- each mark that fits the first fits the second, which goes back to the same
pub record KeepsMarks (s t : Situation) : Type 0 where
  pub fit : (mark : Mark) → Fits mark s → Fits mark t
  pub same : (mark : Mark) → Fits mark s → undone mark t ≡ undone mark s

-- what was done since the mark
abbrev pub steps_since : Mark → Situation → Changes
steps_since mark s = record {
  taken = drop mark.taken s.trail;
  conflicts = drop mark.conflicts s.conflicts;
  path = drop mark.depth s.path;
  start = s.start;
  end = s.end;
  current = s.current;
}

-- the steps can be done: each place is present in its turn, and their scope lies in the line
pub record CanRedo (steps : Changes) (s : Situation) : Type 0 where
  pub present : PresentInTurn s steps.taken
  pub ordered : steps.start ≤ steps.end
  pub inside : steps.end ≤ length s.context.line

-- the parse with these steps done
abbrev pub redone : Changes → Situation → Situation
redone steps s = record s {
  trail = s.trail ++ steps.taken;
  conflicts = s.conflicts ++ steps.conflicts;
  path = s.path ++ steps.path;
  start = steps.start;
  end = steps.end;
  current = steps.current;
}
