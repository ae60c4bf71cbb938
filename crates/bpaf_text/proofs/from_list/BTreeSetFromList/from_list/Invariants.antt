-- The values so far were inserted one after another.
use Rattle.std.proofs.Common.{◌≡◌, []}
use Rattle.bpaf_text.specs.Meaning.{inserted}
use Rattle.bpaf_text.proofs.from_list.BTreeSetFromList.from_list.Given as goal

abbrev pub invariant-loop-item : goal.invariant-loop-item
invariant-loop-item g l = l.set.keys ≡ inserted g.T.Ord.cmp [] l.yielded
