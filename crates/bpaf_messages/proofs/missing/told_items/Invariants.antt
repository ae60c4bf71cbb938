use Rattle.std.proofs.Common.{◌≡◌, ◌++◌, drop, filter, map, true}
use Rattle.bpaf_doc.specs.{Shape.part_text, Print.printed}
use Rattle.bpaf_line.specs.Missing.{missed_of}
use Rattle.bpaf_messages.specs.Rendering.{in_one_scope, one_command, told_parts}
use Rattle.bpaf_messages.proofs.missing.told_items.Given as goal

abbrev pub invariant-loop-missed : goal.invariant-loop-missed
invariant-loop-missed l =
    map (printed true) l.docs.items
    ++ map part_text (one_command l.after (map (λ m. m.item)
    (filter (in_one_scope (missed_of l.far)) (map missed_of (drop l.missed-index l.items)))))
    ≡ map part_text (told_parts (missed_of l.far) (map missed_of l.items))
