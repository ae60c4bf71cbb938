use Rattle.std.proofs.Common.{rules}
use Rattle.bpaf_program.proofs.ending.tell.Goals as goal

pub returns-in-Stdout : goal.returns-in-Stdout
returns-in-Stdout g c = search rules
