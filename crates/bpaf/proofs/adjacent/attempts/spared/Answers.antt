use Rattle.std.proofs.Common.{rules}
use Rattle.bpaf.proofs.adjacent.attempts.spared.Goals as goal

pub returns-else-is_memory : goal.returns-else-is_memory
returns-else-is_memory g c = search rules
