use Rattle.std.proofs.Common.{map, string_bytes}
use Rattle.bpaf_program.proofs.Running.{are_texts, given_text, refusal_answers, refused_text}
use Rattle.example_demo.specs.Running.{Answers, help, options, IsHelpAsked}
use Rattle.example_demo.proofs.Alike.{same_lines}
use Rattle.example_demo.proofs.print.lines_of.Goals as goal

pub returns-in_err-options : goal.returns-in_err-options
returns-in_err-options c =
    let words = map string_bytes c.args.words.now in
    let refused = c.in_err-options.ensures in
    refused_text (same_lines _ (are_texts c.args.words.now))
    (refusal_answers (Answers words) (IsHelpAsked words) _ (λ doc full is asked. help doc full asked
    (λ v there. let memory = refused.exact.complete v there in absurd cc)) refused.asked)
    refused.exact c.from_residual.ensures

pub returns : goal.returns
returns c =
    let read = c.in_ok-options.ensures in
    given_text (same_lines _ (are_texts c.args.words.now))
    (options c.in_ok-options.options read.dealt read.exact.sound) read.exact _ c.text_of.ensures
