use Rattle.std.proofs.Common.{rules}
use Rattle.bpaf_keys.proofs.environment.is_present.Goals as goal

pub returns-then-found : goal.returns-then-found
returns-then-found c = search rules
