use Rattle.std.proofs.Common.{take, []}
use Rattle.bpaf_line.specs.{Taking.IsFirstAmong, Inside.is_sought}
use Rattle.bpaf_line.proofs.state.State.first_chained.Given as goal

abbrev pub invariant-loop-short : goal.invariant-loop-short
invariant-loop-short l = IsFirstAmong (is_sought l.key)
    (record { shorts = take l.short-index l.key.shorts.now; longs = [] }) l.self l.end l.place

abbrev pub invariant-loop-long : goal.invariant-loop-long
invariant-loop-long l = IsFirstAmong (is_sought l.key)
    (record { shorts = l.key.shorts.now; longs = take l.long-index l.key.longs.now }) l.self l.end
    l.place
