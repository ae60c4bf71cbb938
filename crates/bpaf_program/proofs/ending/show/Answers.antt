use Rattle.bpaf_program.specs.Ending.{in_part, whole}
use Rattle.bpaf_program.proofs.ending.show.Goals as goal

pub returns-in-Ok : goal.returns-in-Ok
returns-in-Ok g c = whole c.in-Ok.ensures.whole

pub returns : goal.returns
returns g c = in_part c.in-Err.ensures.part
