use Rattle.bpaf_words.specs.{Arguments.words_in, Splitting.BeginsByAny}
use Rattle.bpaf_words.proofs.line.split_front.Given as goal

abbrev pub invariant-loop-index : goal.invariant-loop-index
invariant-loop-index l = BeginsByAny l.numbers (words_in l.words) l.items.items l.index
