use Rattle.std.proofs.Common.{rules}
use Rattle.bpaf_keys.proofs.environment.take_argument.Goals as goal

pub returns-in-Some : goal.returns-in-Some
returns-in-Some g c = search rules
