use Rattle.std.proofs.Common.{◌≡◌, take}
use Rattle.bpaf_line.proofs.construct.copy_items.Given as goal

abbrev pub invariant-loop-item : goal.invariant-loop-item
invariant-loop-item l = l.copy.items ≡ take l.item-index l.items
