use Rattle.example_guide.proofs.row.answer_row.Goals as goal

pub returns : goal.returns
returns g c = (c.run_program.ensures.exact c.requires.agrees).answered c.see_texts.ensures
