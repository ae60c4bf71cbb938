use Rattle.bpaf_grammar.specs.{Ending.run_ending, Laws.lawful_of}
use Rattle.bpaf_core.proofs.Commanding.{attempt_keeps}
use Rattle.bpaf_core.proofs.run.Run.attempt.Goals as goal

pub returns-clause-marks : goal.returns-clause-marks
returns-clause-marks g c = (attempt_keeps (lawful_of (g.P.Parser.grammar c.args.self.now.inner.now))
    (run_ending _ _) c.args.state.now c.set_scope.ensures.scope c.run_from.ensures).1

pub returns-clause-context : goal.returns-clause-context
returns-clause-context g c = (attempt_keeps
    (lawful_of (g.P.Parser.grammar c.args.self.now.inner.now))
    (run_ending _ _) c.args.state.now c.set_scope.ensures.scope c.run_from.ensures).0
