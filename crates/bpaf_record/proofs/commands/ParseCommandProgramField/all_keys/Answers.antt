use Rattle.std.proofs.Common.{rules}
use Rattle.bpaf_record.proofs.Parts.{keys_entered}
use Rattle.bpaf_record.proofs.commands.ParseCommandProgramField.all_keys.Goals as goal

pub returns-else-is_deep : goal.returns-else-is_deep
returns-else-is_deep g c = search (rules, keys_entered)
