use Rattle.bpaf_program.proofs.Running.{runs_to_said}
use Rattle.example_guide.proofs.remove.run.Goals as goal

pub returns : goal.returns
returns g c =
    runs_to_said _ _ c.print.ensures c.lines_of.ensures.lines c.lines_of.ensures.page
