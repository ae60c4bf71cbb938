use Rattle.std.proofs.{lemmas.Grind.common_steps, Common.arith}
use Rattle.bpaf_keys.proofs.names.take_short.Goals as goal

pub loop-short-preserved : goal.loop-short-preserved
loop-short-preserved c = grind (arith, common_steps)

pub returns : goal.returns
returns c = grind (arith, common_steps)
