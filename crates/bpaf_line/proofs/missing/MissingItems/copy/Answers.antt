use Rattle.std.proofs.{lemmas.Grind.common_steps, Common.arith}
use Rattle.bpaf_line.proofs.missing.MissingItems.copy.Goals as goal

pub loop-missed-preserved : goal.loop-missed-preserved
loop-missed-preserved c = grind (arith, common_steps)

pub returns : goal.returns
returns c = grind (arith, common_steps)
