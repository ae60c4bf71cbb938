-- What a parser of a caller's own says of itself, with its laws.
use Rattle.std.specs.Prelude.{Result, ◌⊎◌, true, Err, Ok, ◌≡◌}
use Rattle.bpaf_doc.specs.Shape.{Shape}
use Rattle.bpaf_words.specs.Line.{ShortNames}
use Rattle.bpaf_line.specs.{declared.error.Error.Error, Messages.is_memory, Situation.Situation}
use Rattle.bpaf_laws.specs.{Laws.Lawful, Laws.ShowsNames, Reading.Outcome, Reading.Readings}

-- what it is
pub record Own (T : Type 0) : Type 1 where
  -- what one evaluation may answer, and which situation it leaves
  pub outcome : Outcome T
  -- which values may be read off which places of a line
  pub reads : Readings T
  -- what it may show of itself
  pub describes : Shape → Type 0
  -- the short names that it shows
  pub shorts : ShortNames
  -- what is so of an answer, since nothing inside catches want of memory or tells it as another
  -- refusal
  pub spared : Outcome T
  -- it keeps to the laws
  pub lawful : Lawful T outcome reads
  -- whichever shape it shows, these are its short names
  pub shows : ShowsNames describes shorts
  -- it catches no want of memory
  pub spares : (s t : Situation) (r : Result T Error) → outcome s r t → spared s r t

-- a value made of the inner one; an inner refusal is passed on, or memory for it is wanted
abbrev pub MadeOutcome : {A B : Type 0} → Outcome A → (A → B → Type 0) → Outcome B
MadeOutcome {A} inner makes s (Ok v) t = (x : A) × inner s (Ok x) t × makes x v
MadeOutcome {A} inner makes s (Err e) t =
    inner s (Err e) t ⊎ ((x : A) × inner s (Ok x) t × (is_memory e.0 ≡ true))
