use Rattle.std.proofs.{Common.arith, lemmas.List.take_more}
use Rattle.bpaf_index.proofs.BitSets.{changes_more, on_at}
use Rattle.bpaf_index.proofs.bits.write_all.Goals as goal

pub write-requires : goal.write-requires
write-requires c = omega (
  arith,
  c.loop-place.invariant.kept,
  c.requires _ (on_at c.args.places.now c.loop-place.place-index c.loop-place-test.true),
)

pub loop-place-preserved : goal.loop-place-preserved
loop-place-preserved c =
    rw (take_more c.args.places.now c.loop-place.place-index 0 c.loop-place-test.true)
    (changes_more _ _ _ _ _ _ c.loop-place.invariant c.write.ensures)
