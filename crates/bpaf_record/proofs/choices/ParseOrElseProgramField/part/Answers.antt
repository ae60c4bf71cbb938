use Rattle.bpaf_record.proofs.Parts.{choice_part_is}
use Rattle.bpaf_record.proofs.choices.ParseOrElseProgramField.part.Goals as goal

pub returns : goal.returns
returns g c variables =
    let this = g.A.Parser.grammar c.args.self.now.this in
    let that = g.B.Parser.grammar c.args.self.now.that in
    rw (
      c.or_else.ensures,
      c.all_keys-keys_apart.ensures,
      c.all_words-words_apart.ensures,
      c.part.ensures variables,
      c.part-2.ensures variables,
    ) (choice_part_is this that variables)
