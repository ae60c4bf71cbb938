use Rattle.std.proofs.Common.{sym, ◌∙◌}
use Rattle.bpaf_messages.specs.Leftover.{conflict, not_expected, only_once}
use Rattle.bpaf_messages.proofs.leftovers.message_of.Goals as goal

pub returns-in-Some : goal.returns-in-Some
returns-in-Some c = conflict _ _ c.requires (sym c.conflict_at.ensures ∙ c.in-Some.is)

pub returns-in-Some-earlier_key : goal.returns-in-Some-earlier_key
returns-in-Some-earlier_key c =
    only_once _ _ c.requires (sym c.conflict_at.ensures ∙ c.in_default.is)
    c.in-Some-earlier_key.ensures

pub returns-in-None : goal.returns-in-None
returns-in-None c =
    not_expected _ c.requires (sym c.conflict_at.ensures ∙ c.in_default.is) c.in-None.ensures
