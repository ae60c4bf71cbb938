use Rattle.std.proofs.{Common.arith, lemmas.Int.ints, lemmas.Int.clamps}
use Rattle.bpaf_batteries.proofs.verbosity.level.Goals as goal

pub returns : goal.returns
returns c = omega (arith, ints, clamps)
