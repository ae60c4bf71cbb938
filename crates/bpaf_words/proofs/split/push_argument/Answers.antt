use Rattle.std.proofs.{lemmas.Grind.common_steps, Common.arith}
use Rattle.bpaf_words.proofs.split.push_argument.Goals as goal

pub returns-in_ok-push_word : goal.returns-in_ok-push_word
returns-in_ok-push_word c = grind (arith, common_steps)
