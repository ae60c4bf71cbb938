use Rattle.bpaf_record.proofs.Parts.{both_part_is}
use Rattle.bpaf_record.proofs.product.BothProgramFieldsTuple2.fields_part.Goals as goal

pub returns : goal.returns
returns g c variables =
    let first = g.A.Parser.grammar c.args.self.now.first in
    let rest = g.R.Fields.grammar c.args.self.now.rest in
    rw (
      c.then.ensures,
      c.all_keys-apart.ensures,
      c.all_keys-no_key_behind.ensures,
      c.field.ensures,
      c.part.ensures variables,
      c.fields_part-rest.ensures variables,
    ) (both_part_is first rest variables)
