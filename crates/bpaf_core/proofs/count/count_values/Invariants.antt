-- Each turn so far answered a value and took an item, and these are counted.
use Rattle.bpaf_grammar.specs.Grammar.{outcome_of}
use Rattle.std.proofs.Common.{◌≡◌, List, length, false}
use Rattle.bpaf_line.specs.Situation.{open_count}
use Rattle.bpaf_laws.specs.Combinators.{EndsIn, Turns}
use Rattle.bpaf_core.proofs.count.count_values.Given as goal

abbrev pub invariant-loop-last : goal.invariant-loop-last
invariant-loop-last g l = ((values : List g.row.T.Denot)
    × Turns (outcome_of (g.P.Parser.grammar l.parser)) false
    false l.fn.state values l.state × (l.count ≡ length values) × EndsIn values l.last)
    × (l.left ≡ open_count l.state) × (l.present_at_start ≡ open_count l.fn.state)

abbrev pub decreases-loop-last : goal.decreases-loop-last
decreases-loop-last g l = open_count l.state
