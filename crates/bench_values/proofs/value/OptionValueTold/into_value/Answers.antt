use Rattle.std.proofs.Common.{rules, refl}
use Rattle.bench_values.proofs.value.OptionValueTold.into_value.Goals as goal

pub returns-in_ok-new-in-Some : goal.returns-in_ok-new-in-Some
returns-in_ok-new-in-Some c = rw c.in-Some.is (c.in_ok-new-in-Some.field-0, refl, search rules)
