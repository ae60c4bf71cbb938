use Rattle.std.proofs.Common.{refl}
use Rattle.bpaf_program.specs.Ending.{with_status, with_value}
use Rattle.bpaf_program.proofs.ending.end.Goals as goal

pub returns-in-Ok : goal.returns-in-Ok
returns-in-Ok g c = rw c.in-Ok.is (with_value refl refl)

pub returns-in-Err : goal.returns-in-Err
returns-in-Err g c = rw c.in-Err.is (with_status c.tell.ensures)
