use Rattle.std.proofs.{lemmas.List.take_more, Common.take}
use Rattle.bpaf_grammar.proofs.Choices.{shown_more}
use Rattle.bpaf.proofs.choices.meta_from.Goals as goal

pub loop-parser-preserved : goal.loop-parser-preserved
loop-parser-preserved g c = rw (
  take_more c.args.rest.now c.loop-parser.parser-index c.parser-item.result c.loop-parser-test.true,
  ← c.parser-item.is,
) (shown_more g.P.Parser.grammar (g.P.Parser.grammar c.args.first.now)
    (take c.loop-parser.parser-index c.args.rest.now) _ _
    (_, _, c.loop-parser.invariant, c.in_ok-meta.ensures, c.in_ok-shown-2.ensures))
