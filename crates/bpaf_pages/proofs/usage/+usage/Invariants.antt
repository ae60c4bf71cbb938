use Rattle.std.proofs.Common.{◌≡◌, ◌≤◌, ◌+◌, drop}
use Rattle.bpaf_doc.specs.{Shape.member_shapes, Print.prints}
use Rattle.bpaf_pages.specs.Help.{joined, joined_behind, usage_texts, how_many}
use Rattle.bpaf_pages.proofs.usage.+usage.Given as goal

-- the usage texts so far, and those of the others behind them, are those of all
abbrev pub invariant-usage_of_all-loop-member : goal.invariant-usage_of_all-loop-member
invariant-usage_of_all-loop-member l =
    let others = usage_texts (member_shapes (drop l.member-index l.all)) in
    let all = usage_texts (member_shapes l.all) in
    (joined_behind l.between (prints l.doc) others ≡ joined l.between all)
    × (l.shown + how_many others ≡ how_many all) × (l.shown ≤ l.member-index)
