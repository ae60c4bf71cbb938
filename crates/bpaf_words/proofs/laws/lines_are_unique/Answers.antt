use Rattle.bpaf_words.proofs.OneLine.{one_lines}
use Rattle.bpaf_words.proofs.laws.lines_are_unique.Goals as goal

pub returns : goal.returns
returns c = one_lines
