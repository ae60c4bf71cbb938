use Rattle.std.proofs.{lemmas.Grind.common_steps, Common.arith}
use Rattle.bpaf_words.proofs.args.Words.at.Goals as goal

pub offset_bounds-words-index : goal.offset_bounds-words-index
offset_bounds-words-index c = grind (arith, common_steps)

pub bounds-words-index : goal.bounds-words-index
bounds-words-index c = grind (arith, common_steps)

pub offset_bounds-words-index-in-Strings : goal.offset_bounds-words-index-in-Strings
offset_bounds-words-index-in-Strings c = grind (arith, common_steps)

pub bounds-words-index-in-Strings : goal.bounds-words-index-in-Strings
bounds-words-index-in-Strings c = grind (arith, common_steps)
