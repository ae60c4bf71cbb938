use Rattle.std.proofs.Common.{◌+◌, arith, drop, if◌then◌else◌, not}
use Rattle.std.proofs.lemmas.List.Sums.{sum_by-cons}
use Rattle.bpaf_doc.specs.{Print.is_empty, Shape.member_shapes, Shape.shape_of}
use Rattle.bpaf_doc.proofs.Folding.{members_from}
use Rattle.bpaf_pages.specs.Help.{usage_text, usage_texts}
use Rattle.bpaf_pages.proofs.Paging.{shows}
use Rattle.bpaf_pages.proofs.usage.+usage.Goals as goal

pub usage_of_all-loop-member-preserved : goal.usage_of_all-loop-member-preserved
usage_of_all-loop-member-preserved t c =
    let kept = rw (members_from c.args.all.now c.loop-member.member-index c.member-item.result
    c.loop-member-test.true c.member-item.is) at c.loop-member.invariant in
    let same = shows _ c.in_ok-text.text c.in_ok-text.ensures in
    let others = usage_texts (member_shapes
    (drop (c.loop-member.member-index + 1) c.args.all.now)) in
    let counted = sum_by-cons (λ text. if not (is_empty text) then 1 else 0)
    (usage_text (shape_of c.member-item.result)) others in
    (grind arith, grind arith, grind arith)
