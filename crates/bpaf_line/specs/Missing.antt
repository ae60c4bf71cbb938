-- What parsers looked for in vain, as contracts see it.
use Rattle.std.specs.Prelude.{ℕ}
use Rattle.bpaf_doc.specs.Shape.{Part, part_of}
use Rattle.bpaf_line.specs.declared.missing.MissingItem.{MissingItem}

-- an item, the place from which it was looked for, and the scope in which it was
pub record Missed : Type 0 where
  pub item : Part
  pub position : ℕ
  pub start : ℕ
  pub «end» : ℕ

-- that of a value of the program
abbrev pub missed_of : MissingItem → Missed
missed_of m = record {
  item = part_of m.item;
  position = m.position;
  start = m.scope.start;
  «end» = m.scope.«end»;
}
