use Rattle.std.proofs.Common.{◌≡◌, map, take}
use Rattle.bpaf_doc.specs.Shape.{shape_of}
use Rattle.bpaf_doc.proofs.+copy.Given as goal

-- the copies so far show what their members do
abbrev pub invariant-copies::copy_all-loop-member : goal.invariant-copies::copy_all-loop-member
invariant-copies::copy_all-loop-member l =
    map shape_of l.copies.items ≡ map shape_of (take l.member-index l.all.items)
