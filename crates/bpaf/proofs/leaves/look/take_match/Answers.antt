use Rattle.bpaf_laws.proofs.LeafLaws.{match_placed}
use Rattle.bpaf.proofs.leaves.look.take_match.Goals as goal

pub take_item-requires : goal.take_item-requires
take_item-requires g c =
    let at = rw c.in-Some.is at c.in_ok-place.ensures in
    (match_placed (g.L.Look.looks c.args.look.now) c.args.anywhere c.args.state.now _ at.0 _ at.1).0
