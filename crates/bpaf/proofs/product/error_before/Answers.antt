use Rattle.std.proofs.Common.{rules}
use Rattle.bpaf.proofs.product.error_before.Goals as goal

pub returns-in-Ok : goal.returns-in-Ok
returns-in-Ok g c = search rules
