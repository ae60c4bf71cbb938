use Rattle.bpaf_index.proofs.BitSets.{zeros_first}
use Rattle.bpaf_index.proofs.bits.zeros.Goals as goal

pub returns : goal.returns
returns c =
    zeros_first c.args.word c.args.low c.min.result c.ranges.word.fits c.requires c.min.ensures
