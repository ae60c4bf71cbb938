use Rattle.std.proofs.Common.{◌%◌, ◌==◌, ap, ◌∙◌, arith, w64, length-set}
use Rattle.std.proofs.lemmas.Nat.Bits.{bit_at_set_same, bit_at_set_other}
use Rattle.bpaf_index.proofs.BitSets.{has_bit_written, has_bit_others}
use Rattle.bpaf_index.proofs.bits.set.Goals as goal

pub returns : goal.returns
returns c = record {
  kept = length-set _ _ _;
  here = has_bit_written _ _ _ c.requires
      ∙ ap (λ b. b == 1) (bit_at_set_same w64 _ (c.args.place % 64) (omega arith));
  others = has_bit_others _ _ _ c.requires
      (λ i within other. bit_at_set_other w64 _ (c.args.place % 64) (omega arith) i other);
}
