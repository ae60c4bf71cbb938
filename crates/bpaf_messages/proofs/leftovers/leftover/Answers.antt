use Rattle.std.proofs.Common.{arith}
use Rattle.bpaf_base.proofs.Count.{count_below-none}
use Rattle.bpaf_messages.proofs.leftovers.leftover.Goals as goal

pub returns-in-None : goal.returns-in-None
returns-in-None c = count_below-none _ _ (λ q below. c.in-None.ensures.next q (omega arith))
