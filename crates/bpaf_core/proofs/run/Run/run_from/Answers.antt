use Rattle.bpaf_grammar.specs.{Ending.leftover, Run.refused, Run.value, Run.leftover as left_over}
use Rattle.bpaf_core.proofs.run.Run.run_from.Goals as goal

pub returns-in_default : goal.returns-in_default
returns-in_default g c = value _ _ c.in-Ok.ensures c.in_default.ensures

pub returns-in-Some : goal.returns-in-Some
returns-in-Some g c =
    left_over _ _ _ _ c.in-Ok.ensures (leftover _ _ _ _ _ c.in-Some.ensures c.tell.ensures)

pub returns-in-Err : goal.returns-in-Err
returns-in-Err g c = refused _ _ _ _ c.in-Err.ensures
    (c.end_refused.ensures c.args.state.now c.wants_usage-usage.ensures)
