use Rattle.bpaf_core.proofs.Running.{want_runs}
use Rattle.bpaf_grammar.proofs.Naming.{want_named}
use Rattle.bpaf_core.proofs.parser.Parser.run_once.Goals as goal

pub returns-in_err-to_options-clause-outcome : goal.returns-in_err-to_options-clause-outcome
returns-in_err-to_options-clause-outcome g c = want_runs c.from_residual.ensures.1

pub returns-in_err-to_options-clause-named : goal.returns-in_err-to_options-clause-named
returns-in_err-to_options-clause-named g c = want_named _ _ _ _ _ _ c.from_residual.ensures.1
