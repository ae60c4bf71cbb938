use Rattle.std.proofs.Common.{◌≡◌, ◌||◌, Bool, arith, false, refl, true}
use Rattle.bpaf_doc.proofs.Folding.{members_from}
use Rattle.bpaf_doc.proofs.+order.Goals as goal
use Rattle.bpaf_doc.proofs.+order.Goals.{order::each_in_order-then-seen_in_any}
use Rattle.bpaf_doc.proofs.+order.Goals.{order::each_in_order-else-seen_in_any}

pub order::all_in_order-loop-member-preserved : goal.order::all_in_order-loop-member-preserved
order::all_in_order-loop-member-preserved t c =
    let kept = rw (members_from c.args.all.now c.loop-member.member-index c.member-item.result
    c.loop-member-test.true c.member-item.is) at c.loop-member.invariant in
    grind arith

-- what was seen before all members counts beside what is seen in one
seen_before : (s h r a : Bool) → (h || r) ≡ (s || a) → ((s || h) || r) ≡ (s || a)
seen_before true h r a e = refl
seen_before false h r a e = e

pub order::each_in_order-loop-member-preserved : goal.order::each_in_order-loop-member-preserved
order::each_in_order-loop-member-preserved t c =
    let kept = rw (members_from c.args.all.now c.loop-member.member-index c.member-item.result
    c.loop-member-test.true c.member-item.is) at c.loop-member.invariant in (
      grind arith,
      elim c.if-seen_in_any.branch [
        | order::each_in_order-then-seen_in_any w ↦ grind arith
        | order::each_in_order-else-seen_in_any w ↦
            rw (w.seen_in_any-is, c.in_order-here.ensures.seen)
            (seen_before c.args.seen _ _ _ (rw w.if-seen_in_any.false at kept.1))
      ],
    )
