use Rattle.bpaf_laws.proofs.Keeping.{keeps_of}
use Rattle.bpaf_choice.proofs.Branching.{answered_choice, start_kept}
use Rattle.bpaf_grammar.specs.{Grammar.outcome_of, Laws.lawful_of}
use Rattle.bpaf_core.proofs.choice.ParseOrElseParser.eval.Goals as goal

pub or_parser-requires-clause-start : goal.or_parser-requires-clause-start
or_parser-requires-clause-start g c =
    start_kept c.of-start.ensures.start c.of-start.ensures.back (keeps_of
    (lawful_of (g.A.Parser.grammar c.args.self.now.this)) c.args.state.now c.eval-first.result
    c.eval-first.new.state c.eval-first.ensures).marks

pub returns : goal.returns
returns g c = answered_choice c.of-start.ensures.start c.of-start.ensures.back
    (outcome_of (g.A.Parser.grammar c.args.self.now.this))
    (outcome_of (g.B.Parser.grammar c.args.self.now.that))
    c.or_parser.result c.or_parser.new.state c.eval-first.ensures (keeps_of
    (lawful_of (g.A.Parser.grammar c.args.self.now.this)) c.args.state.now c.eval-first.result
    c.eval-first.new.state c.eval-first.ensures).marks c.or_parser.ensures
