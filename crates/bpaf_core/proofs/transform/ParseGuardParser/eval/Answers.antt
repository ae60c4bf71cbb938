use Rattle.std.proofs.Common.{refl, inr}
use Rattle.bpaf_core.proofs.transform.ParseGuardParser.eval.Goals as goal

pub returns-then-check : goal.returns-then-check
returns-then-check g c = (
  c.in_ok-value.ensures,
  record { shown = _; shows = refl; says = record { met = c.if-check.ensures } },
)

pub returns-else-check : goal.returns-else-check
returns-else-check g c =
    inr (
      c.in_ok-value.value,
      c.in_ok-value.ensures,
      record { shown = _; shows = refl; says = record { met = c.if-check.ensures } },
      c.guard_failed.ensures,
    )
