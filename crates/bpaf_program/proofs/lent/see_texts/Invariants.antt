use Rattle.std.proofs.Common.{IsUtf8}
use Rattle.std.specs.List.{AllWithin}
use Rattle.bpaf_words.specs.Arguments.{words_in}
use Rattle.bpaf_program.proofs.lent.see_texts.Given as goal

abbrev pub invariant-loop-index : goal.invariant-loop-index
invariant-loop-index l = AllWithin IsUtf8 (words_in l.words) 0 l.index
