use Rattle.std.proofs.Common.{◌∙◌}
use Rattle.bpaf.proofs.LeafLemmas.{passed_more}
use Rattle.bpaf.proofs.leaves.look.first_match.Goals as goal

pub loop-place-preserved : goal.loop-place-preserved
loop-place-preserved g c =
    let text = c.as_str.ensures ∙ c.item_text.ensures in
    let here = rw (text, c.in_default.is) at c.in_ok-value.ensures in (
      tt,
      tt,
      passed_more _ _ _ c.in-Some.ensures.steps c.loop-place.invariant.2 here
          c.if-not-anywhere.false,
    )
