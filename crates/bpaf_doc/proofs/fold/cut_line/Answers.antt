use Rattle.std.proofs.{Common.arith, lemmas.Str.Pattern.split_parts}
use Rattle.bpaf_doc.proofs.fold.cut_line.Goals as goal

pub returns : goal.returns
returns c = split_parts 10 _ _ c.split_once.ensures.cases (omega arith)
