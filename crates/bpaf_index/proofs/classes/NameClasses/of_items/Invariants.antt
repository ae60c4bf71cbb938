use Rattle.bpaf_index.specs.Chained.{AreGiven}
use Rattle.bpaf_index.proofs.classes.NameClasses.of_items.Given as goal

abbrev pub invariant-loop-place : goal.invariant-loop-place
invariant-loop-place l = AreGiven l.names l.items l.place l.classes.items
