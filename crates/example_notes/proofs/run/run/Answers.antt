use Rattle.bpaf_program.proofs.OfCommands as of
use Rattle.example_notes.proofs.run.run.Goals as goal

pub returns : goal.returns
returns g c = record {
  answers = of.runs_to c.print.ensures c.lines_of.ensures.answer;
  exact = of.prints_text c.print.ensures c.lines_of.ensures.exact;
}
