use Rattle.bpaf.proofs.Remembering.{told_end}
use Rattle.bpaf.proofs.adjacent.attempts.stretch_end.Goals as goal

pub returns-then-len-scope-clause-stretch : goal.returns-then-len-scope-clause-stretch
returns-then-len-scope-clause-stretch c =
    told_end c.scope-scope.ensures.start c.scope-scope.ensures.stop c.scope-scope.ensures.inside
    c.in-Some.ensures c.if-first-place.true c.len.ensures c.if-len-scope.true
