use Rattle.std.proofs.Common.{refl}
use Rattle.bpaf.proofs.cargo.CargoHelperParser.eval.Goals as goal

pub returns : goal.returns
returns g c = (
  c.eval_fields-values.new.state,
  c.in_ok-values.field-0,
  c.in_ok-values.ensures,
  refl,
  c.set_current.ensures.current,
)
