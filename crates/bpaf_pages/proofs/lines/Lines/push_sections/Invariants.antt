use Rattle.std.proofs.Common.{◌≡◌, drop, map, codes}
use Rattle.bpaf_doc.specs.Print.{prints}
use Rattle.bpaf_pages.specs.{Help.joined_behind, Help.sections, InsideLine.line_of}
use Rattle.bpaf_pages.proofs.lines.Lines.push_sections.Given as goal

-- the page so far, and the other sections behind it
abbrev pub invariant-loop-number : goal.invariant-loop-number
invariant-loop-number l =
    let all = map line_of l.self.all.items in
    let titles = l.self.titles.items in
    joined_behind (codes "\n") (prints l.page)
    (sections l.width all l.number (drop l.number titles))
    ≡ joined_behind (codes "\n") (prints l.initial.page) (sections l.width all 0 titles)
