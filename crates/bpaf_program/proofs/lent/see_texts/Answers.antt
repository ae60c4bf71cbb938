use Rattle.std.proofs.Common.{rules, All, IsUtf8, subst}
use Rattle.bpaf_words.specs.Arguments.{words_in}
use Rattle.bpaf_words.proofs.LineLemmas.{texts_more}
use Rattle.bpaf_program.proofs.lent.see_texts.Goals as goal

pub loop-index-preserved : goal.loop-index-preserved
loop-index-preserved c = texts_more (words_in c.words-words.result) 0 c.loop-index.index
    c.at-text.result.now c.loop-index.invariant c.at-text.ensures c.at-text.utf8

pub returns : goal.returns
returns c = subst (All IsUtf8) c.words-words.ensures (search rules)
