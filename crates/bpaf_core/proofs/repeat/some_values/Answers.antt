use Rattle.std.proofs.{lemmas.Grind.common_steps, Common.arith}
use Rattle.bpaf_core.proofs.repeat.some_values.Goals as goal

pub returns-then-is_empty : goal.returns-then-is_empty
returns-then-is_empty g c = grind (arith, common_steps)
