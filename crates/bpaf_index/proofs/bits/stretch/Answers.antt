use Rattle.bpaf_index.proofs.BitSets.{first_flipped}
use Rattle.bpaf_index.proofs.bits.stretch.Goals as goal

pub returns : goal.returns
returns c = rw c.if-bit.false
    (first_flipped c.args.word c.args.low _ c.ranges.word.fits c.zeros-2.ensures)
