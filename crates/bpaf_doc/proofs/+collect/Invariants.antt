use Rattle.std.proofs.Common.{◌≡◌, ◌++◌, drop}
use Rattle.bpaf_doc.specs.Shape.{And, member_shapes, flag_shorts, argument_shorts}
use Rattle.bpaf_doc.proofs.+collect.Given as goal

-- the names of the members so far, and those of the others, are those of all
abbrev pub invariant-walks::collect_all-loop-member : goal.invariant-walks::collect_all-loop-member
invariant-walks::collect_all-loop-member l =
    let others = And (member_shapes (drop l.member-index l.all)) in
    let all = And (member_shapes l.all) in
    (l.flags.items ++ flag_shorts others ≡ l.initial.flags.items ++ flag_shorts all)
    × (l.arguments.items ++ argument_shorts others
    ≡ l.initial.arguments.items ++ argument_shorts all)
