use Rattle.bpaf_program.proofs.Running.{line_told}
use Rattle.bpaf_program.proofs.ending.refuse.Goals as goal

pub returns : goal.returns
returns g c =
    line_told c.write_message.result c.write_message.ensures.whole c.write_message.ensures.part
