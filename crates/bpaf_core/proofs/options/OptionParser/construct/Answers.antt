use Rattle.bpaf_words.proofs.LineLemmas.{marker_of_line}
use Rattle.bpaf_core.proofs.Running.{starts_at}
use Rattle.bpaf_core.proofs.options.OptionParser.construct.Goals as goal

pub of_line-requires : goal.of_line-requires
of_line-requires g c = marker_of_line _ _ _ _ c.in_ok-line.ensures

pub returns : goal.returns
returns g c = starts_at c.in_ok-line.line c.words.ensures c.in_ok-line.ensures
    c.in_ok-of_line.ensures
