use Rattle.std.proofs.Common.{arith, None, rules, Some}
use Rattle.std.proofs.lemmas.Str.Pattern.{split_parts}
use Rattle.example_pages.proofs.Reading.{ranges_around, ranges_without}
use Rattle.example_pages.proofs.ranges.are_ranges.Goals as goal

pub returns-then-not-is_range : goal.returns-then-not-is_range
returns-then-not-is_range c =
    let cut = split_parts 44 _ (Some (c.in-Some.part, c.in-Some.more))
    c.in-Some.ensures.cases (omega arith) in
    let both = ranges_around _ _ _ cut.0 cut.1 in
    let kept = c.loop-part.invariant.0 in
    grind arith

pub loop-part-preserved : goal.loop-part-preserved
loop-part-preserved c =
    let cut = split_parts 44 _ (Some (c.in-Some.part, c.in-Some.more))
    c.in-Some.ensures.cases (omega arith) in
    let both = ranges_around _ _ _ cut.0 cut.1 in
    let kept = c.loop-part.invariant.0 in
    (grind arith, search rules)

pub returns : goal.returns
returns c =
    let one = ranges_without _ (split_parts 44 _ None c.in_default.ensures.cases (omega arith)) in
    let kept = c.loop-part.invariant.0 in
    grind arith
