use Rattle.std.proofs.Common.{map, string_bytes}
use Rattle.bpaf_program.proofs.Running.{are_texts, given_text, refusal_answers, refused_text}
use Rattle.example_launch.specs.Running.{Answers, help, launch, IsHelpAsked}
use Rattle.example_launch.proofs.Dealing.{same_lines}
use Rattle.example_launch.proofs.print.lines_of.Goals as goal

pub returns-in_err-launch : goal.returns-in_err-launch
returns-in_err-launch c =
    let words = map string_bytes c.args.words.now in
    let refused = c.in_err-launch.ensures in
    refused_text (same_lines _ (are_texts c.args.words.now))
    (refusal_answers (Answers words) (IsHelpAsked words) _ (λ doc full is. help doc full)
    refused.asked) refused.exact c.from_residual.ensures

pub returns : goal.returns
returns c =
    let read = c.in_ok-launch.ensures in
    given_text (same_lines _ (are_texts c.args.words.now))
    (launch c.in_ok-launch.launch read.launch) read.exact _ c.text_of.ensures
