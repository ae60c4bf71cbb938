use Rattle.std.proofs.Common.{take}
use Rattle.bpaf_index.specs.Bits.{ChangesBits}
use Rattle.bpaf_index.proofs.bits.write_all.Given as goal

abbrev pub invariant-loop-place : goal.invariant-loop-place
invariant-loop-place l = ChangesBits l.fn.words l.words (take l.place-index l.places) l.bit
