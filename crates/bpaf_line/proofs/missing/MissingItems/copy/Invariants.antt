use Rattle.std.proofs.Common.{◌≡◌, map, take}
use Rattle.bpaf_line.specs.Missing.{missed_of}
use Rattle.bpaf_line.proofs.missing.MissingItems.copy.Given as goal

abbrev pub invariant-loop-missed : goal.invariant-loop-missed
invariant-loop-missed l = map missed_of l.items.items ≡ map missed_of
    (take l.missed-index l.missed-items)
