use Rattle.std.proofs.Common.{rules, ◌∙◌}
use Rattle.bpaf_doc.proofs.Folding.{folded_more, folded_end}
use Rattle.bpaf_doc.proofs.fold.folded_lines.Goals as goal

pub loop-line-preserved : goal.loop-line-preserved
loop-line-preserved c =
    let kept = c.loop-line.invariant.0 in
    let is_cut = c.in-Some.ensures in
    let put = c.in_ok-push_str.ensures.bytes in
    let put_break = c.in_ok-push_break.ensures in
    (folded_more _ _ _ _ _ _ _ _ kept is_cut.0 is_cut.1 put put_break, search rules)

pub returns : goal.returns
returns c =
    let put = c.from.ensures ∙ c.in_ok-push_str-2.ensures.bytes in
    folded_end _ _ _ _ _ c.loop-line.invariant.0 c.in_default.ensures put
