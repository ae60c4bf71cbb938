use Rattle.std.proofs.Common.{ap, arith, None, Some, sym, ◌∙◌}
use Rattle.std.proofs.lemmas.Str.Pattern.{split_parts}
use Rattle.example_pages.specs.Ranges.{ends}
use Rattle.example_pages.proofs.Reading.{ends_around, ends_without}
use Rattle.example_pages.proofs.ranges.ends.Goals as goal

pub returns-in-None : goal.returns-in-None
returns-in-None c = sym (ends_without _
    (split_parts 45 _ None c.in-None.ensures.cases (omega arith)))

pub returns-in-Some : goal.returns-in-Some
returns-in-Some c =
    let cut = split_parts 45 _ (Some c.in-Some.ends) c.in-Some.ensures.cases (omega arith) in
    sym (ap ends cut.0 ∙ ends_around _ _ cut.1)
