use Rattle.std.proofs.Common.{◌∙◌}
use Rattle.bpaf_grammar.specs.Command.{first_counts}
use Rattle.bpaf_core.proofs.Commanding.{then_retried}
use Rattle.bpaf_core.proofs.run.Run.attempts.Goals as goal

pub returns-in-Ok : goal.returns-in-Ok
returns-in-Ok g c =
    first_counts _ _ _ c.adjacently_available_from-end.ensures.stretch c.in-Ok.ensures.runs

pub returns-in-Err : goal.returns-in-Err
returns-in-Err g c = then_retried c.adjacently_available_from-end.ensures.stretch
    c.in-Err.ensures.runs (c.in-Err.ensures.marks.same c.mark-mark.result c.mark-mark.ensures.fits
    ∙ c.mark-mark.ensures.back) c.retry.ensures
