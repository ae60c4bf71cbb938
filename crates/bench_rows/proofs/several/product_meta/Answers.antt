use Rattle.std.proofs.Common.{arith, rules}
use Rattle.bench_rows.proofs.Grouping.{others_show}
use Rattle.bench_rows.proofs.several.product_meta.Goals as goal

pub returns-in_default : goal.returns-in_default
returns-in_default g c = first_of (search (rules, others_show), grind (arith, others_show))
