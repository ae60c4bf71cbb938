use Rattle.std.proofs.Common.{take}
use Rattle.bpaf_index.specs.Bits.{is_on_as, IsLeastIn}
use Rattle.bpaf_index.proofs.bits.least.Given as goal

abbrev pub invariant-loop-place : goal.invariant-loop-place
invariant-loop-place l = IsLeastIn (is_on_as l.words (take l.place-index l.places) l.bit) l.least
