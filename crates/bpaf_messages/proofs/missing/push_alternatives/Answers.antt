use Rattle.std.proofs.{lemmas.Grind.common_steps, Common.arith}
use Rattle.bpaf_messages.proofs.Followed.{two_told}
use Rattle.bpaf_messages.proofs.missing.push_alternatives.Goals as goal

pub returns-in-len2-up : goal.returns-in-len2-up
returns-in-len2-up c =
    rw (two_told c.args.docs.now _ _ c.in-len2-up.len_at_least c.a-item-2.is c.b-item-2.is)
    c.push_phrases-in-len2-up.ensures

pub returns-in-len1 : goal.returns-in-len1
returns-in-len1 c = grind (arith, common_steps)

pub returns-in-len2 : goal.returns-in-len2
returns-in-len2 c = grind (arith, common_steps)
