use Rattle.std.proofs.Common.{rules, refl}
use Rattle.bench_rows.proofs.one_text.accept_text.Goals as goal

pub returns-then-eq : goal.returns-then-eq
returns-then-eq c = (search rules, (c.args.text, refl, refl))
