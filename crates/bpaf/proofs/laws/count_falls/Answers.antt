use Rattle.bpaf_laws.proofs.Keeping.{lawful_falls}
use Rattle.bpaf_grammar.specs.Laws.{lawful_of}
use Rattle.bpaf.proofs.laws.count_falls.Goals as goal

pub returns : goal.returns
returns g c = lawful_falls (lawful_of (g.P.Parser.grammar c.args.parser.now))
