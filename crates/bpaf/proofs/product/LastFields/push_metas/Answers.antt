use Rattle.bpaf_laws.proofs.Keeping.{last_shape}
use Rattle.bpaf.proofs.product.LastFields.push_metas.Goals as goal

pub returns : goal.returns
returns g c = last_shape _ _ _ _ c.in_ok-push.ensures.items c.in_ok-meta.ensures
