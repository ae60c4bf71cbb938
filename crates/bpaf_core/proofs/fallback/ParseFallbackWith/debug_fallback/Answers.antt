use Rattle.std.proofs.Common.{arith}
use Rattle.bpaf_core.proofs.fallback.ParseFallbackWith.debug_fallback.Goals as goal

pub returns-in_default-clause-shown : goal.returns-in_default-clause-shown
returns-in_default-clause-shown g c = grind arith

pub returns-clause-shown : goal.returns-clause-shown
returns-clause-shown g c = grind arith
