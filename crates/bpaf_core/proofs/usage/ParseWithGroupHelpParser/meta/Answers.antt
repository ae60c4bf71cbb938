use Rattle.std.proofs.Common.{sym, ap, ◌∙◌}
use Rattle.bpaf_laws.proofs.CombinatorLaws.{titled_shape}
use Rattle.bpaf_core.proofs.usage.ParseWithGroupHelpParser.meta.Goals as goal

pub returns : goal.returns
returns g c = (
  c.new.result,
  c.in_ok-title.title,
  rw c.new.ensures c.in_ok-inner.ensures,
  c.in_ok-title.ensures,
  titled_shape c.new.result _ c.in_ok-title.title
      (c.in_ok-new.ensures.ok ∙ sym (ap (λ lent. lent.now) c.new.ensures)),
)
