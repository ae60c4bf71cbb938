use Rattle.std.proofs.{lemmas.Grind.common_steps, Common.arith}
use Rattle.bpaf_keys.proofs.names.CommandNames.take.Goals as goal

pub returns-then-is_some-2 : goal.returns-then-is_some-2
returns-then-is_some-2 c = grind (arith, common_steps)

pub returns : goal.returns
returns c = grind (arith, common_steps)
