use Rattle.bpaf_grammar.specs.{Ending.run_ending, Laws.lawful_of}
use Rattle.bpaf_core.proofs.Commanding.{still_inside}
use Rattle.bpaf_core.proofs.run.Run.run_adjacent.Goals as goal

pub set_scope-requires-clause-inside : goal.set_scope-requires-clause-inside
set_scope-requires-clause-inside g c =
    still_inside (lawful_of (g.P.Parser.grammar c.args.self.now.inner.now)) (run_ending _ _)
    c.in-Ok.ensures
    c.scope-scope.ensures.inside
