use Rattle.std.proofs.Common.{rules}
use Rattle.bpaf_record.proofs.part.ProgramPart.or_else.Goals as goal

pub returns-after-wide : goal.returns-after-wide
returns-after-wide c = search rules
