-- Each turn so far answered a value, and those are the list.
use Rattle.bpaf_grammar.specs.Grammar.{outcome_of}
use Rattle.std.proofs.Common.{◌+◌, true, if◌then◌else◌}
use Rattle.bpaf_line.specs.Situation.{open_count}
use Rattle.bpaf_laws.specs.Combinators.{Turns, is_nil}
use Rattle.bpaf_core.proofs.repeat.values_until_stop.Given as goal

abbrev pub invariant-loop-values : goal.invariant-loop-values
invariant-loop-values g l =
    Turns (outcome_of (g.P.Parser.grammar l.parser)) l.catches true l.fn.state l.values.items
    l.state

abbrev pub decreases-loop-values : goal.decreases-loop-values
decreases-loop-values g l = open_count l.state + (if is_nil l.values.items then 1 else 0)
