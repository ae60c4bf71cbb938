use Rattle.bpaf_words.specs.Arguments.{words_in}
use Rattle.bpaf_words.proofs.LineLemmas.{line_of_front, texts_all}
use Rattle.bpaf_words.proofs.line.Front.line_by.Goals as goal

pub returns-clause-texts : goal.returns-clause-texts
returns-clause-texts c = texts_all (words_in c.args.words) c.in_ok-before.before
    c.in_ok-before.ensures.0.texts c.in_ok-line_behind.ensures.texts

pub returns-clause-answer : goal.returns-clause-answer
returns-clause-answer c = rw (c.in_ok-line_behind.ensures.items, c.in_ok-line_behind.ensures.marker)
    (line_of_front _ (words_in c.args.words) _ c.in_ok-before.before c.in_ok-before.ensures.0
    c.in_ok-before.ensures.1)
