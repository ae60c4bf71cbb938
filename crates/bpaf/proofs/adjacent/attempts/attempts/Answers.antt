use Rattle.std.proofs.Common.{refl, ap, ◌∙◌, Ok, arith, ◌≤◌, length}
use Rattle.bpaf_laws.specs.Adjacent.{whole, refused}
use Rattle.bpaf.proofs.Remembering.{whole_answers, left_narrows}
use Rattle.bpaf.proofs.adjacent.attempts.attempts.Goals as goal

pub loop-value-init : goal.loop-value-init
loop-value-init g c =
    let told = c.stretch_end-end.ensures in
    record { same = refl; narrowed = whole _ told.stretch; inside = told.inside c.requires.inside }

pub returns-in-Err : goal.returns-in-Err
returns-in-Err g c = refused _ _ _ c.loop-value.invariant.narrowed
    (rw (c.loop-value.invariant.same, c.in-Err.is) at c.attempt.ensures)

pub returns-in-Ok-Whole : goal.returns-in-Ok-Whole
returns-in-Ok-Whole g c = whole_answers c.loop-value.invariant.same c.loop-value.invariant.narrowed
    (c.in-Ok-Whole.is ∙ ap Ok c.in-Ok-Whole.field-0-is) c.attempt.ensures

pub loop-value-preserved : goal.loop-value-preserved
loop-value-preserved g c =
    let left = left_narrows c.loop-value.invariant.same c.loop-value.invariant.narrowed
    (c.in-Ok-Left.is ∙ ap Ok c.in-Ok-Left.field-0-is) c.attempt.ensures in
    let before : c.loop-value.end ≤ length c.args.state.now.context.line =
    c.loop-value.invariant.inside in
    record { same = left.0; narrowed = left.1; inside = omega arith }
