use Rattle.bpaf_core.proofs.Running.{default_shown}
use Rattle.bpaf_core.proofs.fallback.ParseFallbackParser.meta.Goals as goal

pub returns : goal.returns
returns g c = default_shown _ _ _ c.in_ok-meta.ensures c.default_meta.ensures
