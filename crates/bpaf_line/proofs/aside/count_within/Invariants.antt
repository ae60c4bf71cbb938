use Rattle.std.proofs.Common.{◌≡◌, ◌+◌, ◌≤◌, drop}
use Rattle.bpaf_line.specs.Inside.{count_within}
use Rattle.bpaf_line.proofs.aside.count_within.Given as goal

abbrev pub invariant-loop-place : goal.invariant-loop-place
invariant-loop-place l = record {
  rest : l.count + count_within l.start l.end (drop l.place-index l.places)
      ≡ count_within l.start l.end l.places;
  within : l.count ≤ l.place-index;
}
