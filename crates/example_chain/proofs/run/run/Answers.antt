use Rattle.bpaf_program.proofs.Running.{runs_to}
use Rattle.example_chain.proofs.run.run.Goals as goal

pub returns : goal.returns
returns g c = runs_to c.print.ensures c.lines_of.ensures
