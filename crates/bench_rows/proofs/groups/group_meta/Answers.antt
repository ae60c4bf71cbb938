use Rattle.std.proofs.Common.{arith, rules}
use Rattle.bench_rows.proofs.Grouping.{group_shows, other_groups_show}
use Rattle.bench_rows.proofs.groups.group_meta.Goals as goal

pub returns-in-len2 : goal.returns-in-len2
returns-in-len2 g c = group_shows _ _ c.in-len2.len_at_least (omega (arith, c.in-len2.len_below)) _
    c.joined_meta.ensures

pub returns-in-len3 : goal.returns-in-len3
returns-in-len3 g c = group_shows _ _ (omega (arith, c.in-len3.len_at_least)) c.in-len3.len_below _
    c.joined_meta-in-len3.ensures

pub returns-in_default : goal.returns-in_default
returns-in_default g c =
    first_of (search (rules, other_groups_show), grind (arith, other_groups_show))
