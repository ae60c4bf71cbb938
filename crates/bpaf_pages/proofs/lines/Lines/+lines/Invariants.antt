use Rattle.std.proofs.Common.{◌≡◌, ◌++◌, length, drop, map}
use Rattle.bpaf_doc.specs.Shape.{member_shapes}
use Rattle.bpaf_pages.specs.{Help.lines_of_all, Help.titles_of_all, InsideLine.line_of}
use Rattle.bpaf_pages.proofs.lines.Lines.+lines.Given as goal

-- what was gathered so far, and what the other members give, is what all of them give
abbrev pub invariant-collect_all-loop-member : goal.invariant-collect_all-loop-member
invariant-collect_all-loop-member l =
    let others = member_shapes (drop l.member-index l.all) in
    let all = member_shapes l.all in
    let met = l.self.titles.items in
    let before = l.initial.self.titles.items in
    (map line_of l.self.all.items ++ lines_of_all others l.home (length met)
    ≡ map line_of l.initial.self.all.items ++ lines_of_all all l.home (length before))
    × (met ++ titles_of_all others ≡ before ++ titles_of_all all)
