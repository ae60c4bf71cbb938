use Rattle.bench_rows.proofs.Grouping.{two_members, three_members, four_members}
use Rattle.bench_rows.proofs.several.product.Goals as goal

pub returns-in-len2 : goal.returns-in-len2
returns-in-len2 g c =
    let members =
    two_members _ _ _ c.in-len2.len_at_least c.in-len2.len_below c.a-item.is c.b-item.is in
    rw (members, ← c.two_fields.ensures.a, ← c.two_fields.ensures.b) c.nested.ensures

pub returns-in-len3 : goal.returns-in-len3
returns-in-len3 g c =
    let members = three_members _ _ _ _ c.in-len3.len_at_least c.in-len3.len_below
    c.a-item-then-parsers-lt4.is c.b-item-then-parsers-lt4.is c.c-item.is in
    let fields = c.three_fields.ensures in
    rw (members, ← fields.a, ← fields.b, ← fields.c) c.nested-in-len3.ensures

pub returns-in-len4 : goal.returns-in-len4
returns-in-len4 g c =
    let members = four_members _ _ _ _ _ c.in-len4.len_at_least c.in-len4.len_below
    c.a-item-then-parsers-lt5.is c.b-item-then-parsers-lt5.is c.c-item-then-parsers-lt5.is
    c.d-item.is in
    let fields = c.four_fields.ensures in
    rw (members, ← fields.a, ← fields.b, ← fields.c, ← fields.d) c.nested-in-len4.ensures
