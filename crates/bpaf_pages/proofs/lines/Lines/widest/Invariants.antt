use Rattle.std.proofs.Common.{◌≡◌, drop, map}
use Rattle.std.specs.List.{fold}
use Rattle.bpaf_pages.specs.{Help.wider, Help.widest, InsideLine.line_of}
use Rattle.bpaf_pages.proofs.lines.Lines.widest.Given as goal

-- the greatest width so far and of the other names is that of all
abbrev pub invariant-loop-line : goal.invariant-loop-line
invariant-loop-line l =
    fold wider l.widest (map line_of (drop l.line-index l.line-items))
    ≡ widest (map line_of l.self.all.items)
