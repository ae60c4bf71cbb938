use Rattle.std.proofs.{lemmas.Grind.common_steps, Common.arith}
use Rattle.bpaf_pages.proofs.help.usage_words.Goals as goal

pub loop-entry-preserved : goal.loop-entry-preserved
loop-entry-preserved c = grind (arith, common_steps)

pub returns : goal.returns
returns c = grind (arith, common_steps)
