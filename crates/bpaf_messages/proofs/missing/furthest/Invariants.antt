use Rattle.std.proofs.Common.{◌≡◌, drop, map}
use Rattle.bpaf_line.specs.{Missing.missed_of}
use Rattle.bpaf_messages.specs.Rendering.{furthest}
use Rattle.bpaf_messages.proofs.missing.furthest.Given as goal

abbrev pub invariant-loop-item : goal.invariant-loop-item
invariant-loop-item l =
    furthest (missed_of l.far) (map missed_of (drop l.item-index l.more))
    ≡ furthest (missed_of l.first) (map missed_of l.more)
