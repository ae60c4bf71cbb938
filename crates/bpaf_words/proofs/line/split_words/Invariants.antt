use Rattle.bpaf_words.specs.{Arguments.words_in, Splitting.Begins, Line.known_at}
use Rattle.bpaf_words.proofs.line.split_words.Given as goal

abbrev pub invariant-loop-index : goal.invariant-loop-index
invariant-loop-index l = Begins
    (known_at l.numbers (record { flags = l.flags; arguments = l.arguments })) (words_in l.words)
    l.items.items l.index
