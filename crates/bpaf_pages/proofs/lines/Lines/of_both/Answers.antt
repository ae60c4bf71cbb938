use Rattle.std.proofs.Common.{rules}
use Rattle.bpaf_pages.proofs.lines.Lines.of_both.Goals as goal

pub returns-clause-all : goal.returns-clause-all
returns-clause-all c = search rules

pub returns-clause-titles : goal.returns-clause-titles
returns-clause-titles c = search rules
