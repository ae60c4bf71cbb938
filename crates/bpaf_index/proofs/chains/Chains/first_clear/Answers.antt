use Rattle.std.proofs.Common.{◌∙◌, sym, arith}
use Rattle.bpaf_index.specs.Bits.{has_bit}
use Rattle.bpaf_index.proofs.Chained.{walked_none, walked_more}
use Rattle.bpaf_index.proofs.chains.Chains.first_clear.Goals as goal

pub loop-place-init : goal.loop-place-init
loop-place-init c = walked_none c.args.self.now.classes (has_bit c.args.words.now) c.args.from

pub loop-place-preserved : goal.loop-place-preserved
loop-place-preserved c =
    walked_more c.args.self.now.classes (has_bit c.args.words.now) c.args.from c.loop-place.place
    c.after-place.result c.loop-place.invariant
    (omega (arith, c.loop-place-test.true, c.len.ensures))
    (sym c.is_set.ensures ∙ c.if-is_set.true) c.after-place.ensures
