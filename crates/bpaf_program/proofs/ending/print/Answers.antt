use Rattle.bpaf_program.specs.Ending.{given, in_part, told, whole}
use Rattle.bpaf_program.proofs.Running.{ended_status, ended_value}
use Rattle.bpaf_program.proofs.ending.print.Goals as goal

pub returns-in-Ok-write_text : goal.returns-in-Ok-write_text
returns-in-Ok-write_text g c =
    let i = ended_value (rw c.in-Ok.is at c.end.ensures) in
    rw i.0 (given (whole (rw (i.1.0, c.as_bytes.ensures.value, c.as_str.ensures.value) at
    c.in-Ok-write_text.ensures.whole)) i.1.1)

pub returns-in-Ok : goal.returns-in-Ok
returns-in-Ok g c =
    let i = ended_value (rw c.in-Ok.is at c.end.ensures) in
    rw i.0 (given (in_part (rw (i.1.0, c.as_bytes.ensures.value, c.as_str.ensures.value) at
    c.in-Err-write_text.ensures.part)) i.1.1)

pub returns : goal.returns
returns g c = let i = ended_status (rw c.in-Err.is at c.end.ensures) in rw i.1 (told {f = i.0} i.2)
