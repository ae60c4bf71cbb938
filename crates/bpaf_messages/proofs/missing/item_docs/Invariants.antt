use Rattle.std.proofs.Common.{◌≡◌, map, take, true}
use Rattle.bpaf_doc.specs.{Shape.part_text, Shape.part_of, Print.printed}
use Rattle.bpaf_messages.proofs.missing.item_docs.Given as goal

abbrev pub invariant-loop-item : goal.invariant-loop-item
invariant-loop-item l =
    map (printed true) l.docs.items ≡ map part_text (map part_of (take l.item-index l.items))
