use Rattle.std.proofs.Common.{◌≡◌, ◌&&◌, ◌||◌, drop}
use Rattle.bpaf_doc.specs.Shape.{member_shapes, all_in_order, each_in_order, any_has_word}
use Rattle.bpaf_doc.proofs.+order.Given as goal

-- the members so far, and the others behind them, give the answer for all
abbrev pub invariant-order::all_in_order-loop-member :
    goal.invariant-order::all_in_order-loop-member
invariant-order::all_in_order-loop-member l =
    let all = member_shapes l.all in
    let others = member_shapes (drop l.member-index l.all) in
    ((l.good && all_in_order others l.seen) ≡ all_in_order all l.initial.seen)
    × ((l.seen || any_has_word others) ≡ (l.initial.seen || any_has_word all))

-- the members so far, and the others by themselves, give the answer for each
abbrev pub invariant-order::each_in_order-loop-member :
    goal.invariant-order::each_in_order-loop-member
invariant-order::each_in_order-loop-member l =
    let all = member_shapes l.all in
    let others = member_shapes (drop l.member-index l.all) in
    ((l.good && each_in_order others l.seen) ≡ each_in_order all l.seen)
    × ((l.seen_in_any || any_has_word others) ≡ (l.seen || any_has_word all))
