use Rattle.std.proofs.Common.{length}
use Rattle.bpaf_record.proofs.choices.+all_keys_of.Given as goal

abbrev pub decreases-all_keys_of : goal.decreases-all_keys_of
decreases-all_keys_of g l = length l.parsers.now
