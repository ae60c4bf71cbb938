use Rattle.std.proofs.Common.{◌∙◌, ap, not, sym, slice_index, take}
use Rattle.std.proofs.{lemmas.List.take_more, Math.Bool.beq}
use Rattle.bpaf_index.proofs.BitSets.{on_at, least_take, least_skip}
use Rattle.bpaf_index.proofs.bits.least.Goals as goal

pub is_set-requires : goal.is_set-requires
is_set-requires c = c.requires _
    (on_at c.args.places.now c.loop-place.place-index c.loop-place-test.true)

pub loop-place-preserved-then-is_set-bit : goal.loop-place-preserved-then-is_set-bit
loop-place-preserved-then-is_set-bit c =
    let i = c.loop-place.place-index in
    rw (take_more c.args.places.now i 0 c.loop-place-test.true)
    (least_skip c.args.words.now (take i c.args.places.now) (slice_index c.args.places.now i)
    c.args.bit c.loop-place.least c.loop-place.invariant
    (ap (λ b. not (beq b c.args.bit)) (sym c.is_set.ensures) ∙ c.if-is_set-bit.true))

pub loop-place-preserved : goal.loop-place-preserved
loop-place-preserved c =
    let i = c.loop-place.place-index in
    rw (c.lesser.ensures, take_more c.args.places.now i 0 c.loop-place-test.true)
    (least_take c.args.words.now (take i c.args.places.now) (slice_index c.args.places.now i)
    c.args.bit c.loop-place.least c.loop-place.invariant
    (ap (λ b. not (beq b c.args.bit)) (sym c.is_set.ensures) ∙ c.if-is_set-bit.false))
