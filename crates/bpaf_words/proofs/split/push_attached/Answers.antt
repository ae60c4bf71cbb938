use Rattle.std.proofs.{lemmas.Grind.common_steps, Common.arith}
use Rattle.bpaf_words.proofs.split.push_attached.Goals as goal

pub returns : goal.returns
returns c = grind (arith, common_steps)
