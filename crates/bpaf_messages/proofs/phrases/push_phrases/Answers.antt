use Rattle.std.proofs.{lemmas.List.drop_all, Common.arith}
use Rattle.bpaf_messages.proofs.Followed.{text_behind}
use Rattle.bpaf_messages.proofs.phrases.push_phrases.Goals as goal

pub returns : goal.returns
returns c = grind (arith, drop_all, text_behind)
