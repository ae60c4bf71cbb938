use Rattle.bpaf_core.proofs.Commanding.{inside_answers, inside_refuses, refused_inside}
use Rattle.bpaf_core.proofs.commands.entering.ParseCommandParser.eval.Goals as goal

pub returns-in_err-enter : goal.returns-in_err-enter
returns-in_err-enter g c = refused_inside _ _ _ _ _ c.args.self.now.adjacent _
    c.from_residual.ensures c.in_err-enter.ensures

pub returns-in-Ok : goal.returns-in-Ok
returns-in-Ok g c = inside_answers _ _ _ _ _ c.in_ok-enter.field-0 _ _
    c.in_ok-enter.ensures c.args.self.now.adjacent _ c.in-Ok.ensures

pub returns-in-Err : goal.returns-in-Err
returns-in-Err g c = inside_refuses _ _ _ _ _ c.in_ok-enter.field-0 _ _
    c.in_ok-enter.ensures c.args.self.now.adjacent _ c.in-Err.ensures c.into_message.ensures
