use Rattle.std.proofs.Common.{◌≡◌, drop}
use Rattle.bpaf_line.specs.Taking.{entry_of}
use Rattle.bpaf_line.proofs.state.value_of.Given as goal

abbrev pub invariant-loop-key : goal.invariant-loop-key
invariant-loop-key l = entry_of (drop l.key-index l.entries) l.name ≡ entry_of l.entries l.name
