use Rattle.std.proofs.Common.{◌≡◌, Bool, ◌++◌, drop, map}
use Rattle.bpaf_doc.specs.Print.{printed}
use Rattle.bpaf_pages.specs.{Help.lines_at, Help.rows, InsideLine.line_of}
use Rattle.bpaf_pages.proofs.lines.Lines.rows.Given as goal

-- what was printed so far, and the other lines there, are all lines there
abbrev pub invariant-loop-line : goal.invariant-loop-line
invariant-loop-line l =
    let place = l.place in
    let others = lines_at place (map line_of (drop l.line-index l.line-items)) in
    let all = lines_at place (map line_of l.self.all.items) in
    (full : Bool) → printed full l.doc ++ rows l.width others full ≡ rows l.width all full
