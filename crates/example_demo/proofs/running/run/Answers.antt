use Rattle.bpaf_program.proofs.Running.{prints_text, runs_to}
use Rattle.example_demo.proofs.running.run.Goals as goal

pub returns : goal.returns
returns g c = record {
  answers = runs_to c.print.ensures c.lines_of.ensures.answer;
  exact = prints_text c.print.ensures c.lines_of.ensures.exact;
}
