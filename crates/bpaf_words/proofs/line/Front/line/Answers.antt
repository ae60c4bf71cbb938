use Rattle.bpaf_words.specs.{Arguments.words_in, Line.known_at}
use Rattle.bpaf_words.proofs.LineLemmas.{line_of_front}
use Rattle.bpaf_words.proofs.line.Front.line.Goals as goal

pub returns : goal.returns
returns c names = rw (c.in_ok-line.ensures.items, c.in_ok-line.ensures.marker)
    (line_of_front (known_at c.args.self.numbers names) (words_in c.args.words) _ _
    (c.requires.front names) c.requires.whole)
