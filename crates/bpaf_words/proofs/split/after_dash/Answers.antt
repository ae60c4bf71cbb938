use Rattle.std.proofs.{Common.lit<, lemmas.Str.Pattern.strip_prefix_char}
use Rattle.bpaf_words.proofs.split.after_dash.Goals as goal

pub returns-in-Some-eq45 : goal.returns-in-Some-eq45
returns-in-Some-eq45 c = strip_prefix_char 45 c.args.word.now c.strip_prefix.result
    c.strip_prefix.ensures.cases (lit< tt)
