use Rattle.std.proofs.{Common.arith, lemmas.Int.ints, lemmas.Int.clamps}
use Rattle.bpaf_batteries.proofs.verbosity.place.Goals as goal

pub returns-clause-level : goal.returns-clause-level
returns-clause-level c = omega (arith, ints, clamps)
