use Rattle.std.proofs.Common.{rules}
use Rattle.bpaf.proofs.leaves.look.take_item.Goals as goal

pub returns-then-attached : goal.returns-then-attached
returns-then-attached c = search rules
