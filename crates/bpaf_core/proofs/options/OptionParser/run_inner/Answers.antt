use Rattle.bpaf_grammar.specs.{Laws.lawful_of, Run.ran}
use Rattle.bpaf_core.proofs.Running.{line_refused, if_dealt}
use Rattle.bpaf_grammar.proofs.{Naming.words_are_named, Sparing.words_spared}
use Rattle.bpaf_core.proofs.options.OptionParser.run_inner.Goals as goal

pub returns-in-Ok-clause-outcome : goal.returns-in-Ok-clause-outcome
returns-in-Ok-clause-outcome g c =
    ran c.in-Ok.ensures.0 _ _ c.in-Ok.ensures.1 (rw c.in-Ok.ensures.2 at c.run_from.ensures)

pub returns-in-Err-clause-outcome : goal.returns-in-Err-clause-outcome
returns-in-Err-clause-outcome g c = line_refused _ c.in-Err.ensures c.tell_fault.ensures

pub returns-in-Ok-clause-dealt : goal.returns-in-Ok-clause-dealt
returns-in-Ok-clause-dealt g c =
    if_dealt (lawful_of (g.P.Parser.grammar c.args.self.now.inner))
    (returns-in-Ok-clause-outcome g c)

pub returns-in-Ok-clause-named : goal.returns-in-Ok-clause-named
returns-in-Ok-clause-named g c =
    words_are_named _ _ _ (lawful_of (g.P.Parser.grammar c.args.self.now.inner))
    (returns-in-Ok-clause-outcome g c)

pub returns-in-Err-clause-named : goal.returns-in-Err-clause-named
returns-in-Err-clause-named g c =
    words_are_named _ _ _ (lawful_of (g.P.Parser.grammar c.args.self.now.inner))
    (returns-in-Err-clause-outcome g c)

pub returns-in-Ok-clause-memory_is_never_caught : goal.returns-in-Ok-clause-memory_is_never_caught
returns-in-Ok-clause-memory_is_never_caught g c = words_spared (returns-in-Ok-clause-outcome g c)

pub returns-in-Err-clause-memory_is_never_caught : goal.returns-in-Err-clause-memory_is_never_caught
returns-in-Err-clause-memory_is_never_caught g c = words_spared (returns-in-Err-clause-outcome g c)
