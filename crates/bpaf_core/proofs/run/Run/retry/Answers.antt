use Rattle.std.proofs.Common.{sym, ◌∙◌}
use Rattle.bpaf_grammar.specs.Command.{nothing_left, second_counts}
use Rattle.bpaf_core.proofs.Commanding.{back_again, led_again, memory_end, memory_refused}
use Rattle.bpaf_core.proofs.Commanding.{memory_wanted, second_refuses}
use Rattle.bpaf_core.proofs.run.Run.retry.Goals as goal

pub returns-then-is_memory : goal.returns-then-is_memory
returns-then-is_memory g c = memory_wanted
    (memory_end c.args.failure (sym c.is_memory.ensures ∙ c.if-is_memory.true))
    c.undo.ensures.undone

pub returns-in_default : goal.returns-in_default
returns-in_default g c =
    nothing_left (sym c.is_memory.ensures ∙ c.if-is_memory.false)
    c.in_default.ensures

pub returns-in_err-steps : goal.returns-in_err-steps
returns-in_err-steps g c = memory_refused c.from_residual.ensures c.undo-2.ensures.undone

pub returns-in-Ok : goal.returns-in-Ok
returns-in-Ok g c = second_counts _ _ _
    (sym c.is_memory.ensures ∙ c.if-is_memory.false)
    c.in-Some.ensures (rw c.undo-2.ensures.undone at c.in-Ok.ensures.runs)

pub returns-in-Err : goal.returns-in-Err
returns-in-Err g c =
    let gone = c.undo-2.ensures in
    let marks = c.in-Err.ensures.marks in
    second_refuses (sym c.is_memory.ensures ∙ c.if-is_memory.false)
    c.in-Some.ensures
    gone.undone c.in-Err.ensures.runs
    (led_again c.args.state.now gone.undone gone.fits gone.back marks _ c.in_ok-steps.ensures.again)
    (back_again c.args.state.now gone.undone gone.fits gone.back marks) c.first_failure.ensures
