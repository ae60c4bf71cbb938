use Rattle.std.proofs.Common.{length}
use Rattle.bpaf_record.proofs.words.+shorts_pass.Given as goal

abbrev pub decreases-shorts_pass : goal.decreases-shorts_pass
decreases-shorts_pass g l = length l.shorts.now
