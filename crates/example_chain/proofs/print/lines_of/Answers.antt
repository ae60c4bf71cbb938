use Rattle.std.proofs.Common.{map, string_bytes}
use Rattle.bpaf_program.proofs.OfCommands as of
use Rattle.example_chain.specs.Running.{Answers, help, steps, IsHelpAsked}
use Rattle.example_chain.proofs.print.lines_of.Goals as goal

pub returns-in_err-steps : goal.returns-in_err-steps
returns-in_err-steps c =
    let words = map string_bytes c.args.words.now in
    of.handed_on (of.AnswersText (Answers words)) c.from_residual.result c.from_residual.ensures
    (λ f is. rw is (of.refusal_answers (Answers words) (IsHelpAsked words) _
    (λ doc full is. help doc full) c.in_err-steps.ensures.asked))

pub returns : goal.returns
returns c = of.text_answers (Answers (map string_bytes c.args.words.now)) _
    (steps c.in_ok-steps.steps c.in_ok-steps.ensures.dealt) _
    (rw c.as_slice.ensures.value at c.text_of.ensures)
