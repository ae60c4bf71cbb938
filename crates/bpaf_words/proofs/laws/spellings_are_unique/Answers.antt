use Rattle.bpaf_words.proofs.OneSpelling.{one_spelling}
use Rattle.bpaf_words.proofs.laws.spellings_are_unique.Goals as goal

pub returns : goal.returns
returns c = one_spelling
