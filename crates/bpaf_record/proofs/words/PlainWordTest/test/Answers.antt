use Rattle.std.proofs.Common.{rules}
use Rattle.bpaf_record.proofs.words.PlainWordTest.test.Goals as goal

pub returns-in-len1-up : goal.returns-in-len1-up
returns-in-len1-up c = search rules
