use Rattle.bpaf_words.specs.Line.{known_at}
use Rattle.bpaf_words.proofs.LineLemmas.{joined_word}
use Rattle.bpaf_words.proofs.split.split_word.Goals as goal

pub returns-in-None : goal.returns-in-None
returns-in-None c = (rw c.in-None.is at c.in_ok-split_alone.ensures)
    (record { flags = c.args.flags.now; arguments = c.args.arguments.now })

pub returns-in-Some : goal.returns-in-Some
returns-in-Some c =
    let found = rw c.in-Some.is at c.in_ok-split_alone.ensures in
    joined_word
    (known_at c.args.numbers (record {
      flags = c.args.flags.now;
      arguments = c.args.arguments.now;
    }))
    c.args.word.now c.in-Some.letters.now _ _ _ _ found.0 found.1 found.2 c.split_joined.ensures
