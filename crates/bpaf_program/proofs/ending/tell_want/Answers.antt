use Rattle.bpaf_program.proofs.Running.{line_told}
use Rattle.bpaf_program.proofs.ending.tell_want.Goals as goal

pub returns : goal.returns
returns g c =
    line_told c.write_text.result (rw c.as_bytes.ensures.value at c.write_text.ensures.whole)
    (rw c.as_bytes.ensures.value at c.write_text.ensures.part)
