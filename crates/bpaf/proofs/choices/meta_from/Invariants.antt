use Rattle.std.proofs.Common.{take}
use Rattle.bpaf_doc.specs.Shape.{shape_of}
use Rattle.bpaf_laws.specs.Choice.{Nested}
use Rattle.bpaf_grammar.specs.Grammar.{choice, describes_of}
use Rattle.bpaf.proofs.choices.meta_from.Given as goal

abbrev pub invariant-loop-parser : goal.invariant-loop-parser
invariant-loop-parser g l = describes_of (Nested choice g.P.Parser.grammar
    (g.P.Parser.grammar l.first) (take l.parser-index l.rest)) (shape_of l.shown)
