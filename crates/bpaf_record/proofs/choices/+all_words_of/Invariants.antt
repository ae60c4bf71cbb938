use Rattle.std.proofs.Common.{length}
use Rattle.bpaf_record.proofs.choices.+all_words_of.Given as goal

abbrev pub decreases-all_words_of : goal.decreases-all_words_of
decreases-all_words_of g l = length l.parsers.now
