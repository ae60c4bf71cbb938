use Rattle.std.proofs.Common.{take}
use Rattle.bpaf_laws.specs.Choice.{Nested}
use Rattle.bpaf_grammar.specs.Grammar.{choice, outcome_of}
use Rattle.bpaf.proofs.choices.choose_from.Given as goal

abbrev pub invariant-loop-parser : goal.invariant-loop-parser
invariant-loop-parser g l = outcome_of
    (Nested choice g.P.Parser.grammar (g.P.Parser.grammar l.first)
    (take l.parser-index l.rest)) l.fn.state l.answer l.state
