use Rattle.std.proofs.Common.{inl, refl}
use Rattle.bpaf_program.proofs.OfCommands as of
use Rattle.example_notes.proofs.Alike.{same_lines}
use Rattle.example_notes.proofs.print.lines_of.Goals as goal

pub returns-in_err-notes : goal.returns-in_err-notes
returns-in_err-notes c =
    let refused = c.in_err-notes.ensures in
    of.refused_page (same_lines c.args.words.now) refused.1 refused.0 c.from_residual.ensures

pub returns : goal.returns
returns c =
    let read = c.in_ok-notes.ensures.0 in
    of.given_text (same_lines c.args.words.now) (inl (_, read.sound, refl)) read _ c.text_of.ensures
