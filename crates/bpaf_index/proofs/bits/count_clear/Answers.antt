use Rattle.std.proofs.Common.{◌+◌, arith}
use Rattle.bpaf_index.proofs.BitSets.{count_clear-word, count_clear-most}
use Rattle.bpaf_index.proofs.bits.count_clear.Goals as goal

pub overflow_add-count : goal.overflow_add-count
overflow_add-count c =
    omega (
      arith,
      c.loop-place.invariant.counted,
      c.clear_within-count.ensures,
      count_clear-word c.args.words.now c.args.from c.loop-place.place c.min-wide.result
          c.loop-place.invariant.above (omega arith),
      count_clear-most c.args.words.now c.args.from (c.loop-place.place + c.min-wide.result),
    )
