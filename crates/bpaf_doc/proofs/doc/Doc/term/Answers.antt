use Rattle.std.proofs.{lemmas.Grind.common_steps, Common.arith}
use Rattle.bpaf_doc.proofs.doc.Doc.term.Goals as goal

pub returns-clause-printed : goal.returns-clause-printed
returns-clause-printed c = grind (arith, common_steps)
