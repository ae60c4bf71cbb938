use Rattle.bpaf_laws.proofs.Keeping.{flag_kept}
use Rattle.example_guide.proofs.keys.level.Goals as goal

pub returns : goal.returns
returns c = flag_kept (λ own v same. same) _ _ _ _ _ _ c.eval.ensures
