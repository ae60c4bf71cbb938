use Rattle.std.proofs.Common.{refl}
use Rattle.bpaf_doc.proofs.defaults.formatted.Goals as goal

pub returns : goal.returns
returns g c = (
  c.in_ok-text.text,
  record { shown = _; shows = refl; says = record { met = c.in_ok-text.ensures } },
  rw c.as_str.ensures.value at c.in_ok-shown_default.ensures,
)
