use Rattle.std.proofs.Common.{◌∙◌}
use Rattle.bpaf_laws.proofs.Keeping.{keeps_of}
use Rattle.bpaf_grammar.specs.Laws.{lawful_of}
use Rattle.bpaf.proofs.Remembering.{takes_from}
use Rattle.bpaf.proofs.adjacent.attempts.takes_item.Goals as goal

pub count_present-left-requires-clause-inside : goal.count_present-left-requires-clause-inside
count_present-left-requires-clause-inside g c =
    let kept = keeps_of (lawful_of (g.P.Parser.grammar c.args.parser.now)) c.set_scope.new.self
    c.eval-answer.result c.eval-answer.new.state c.eval-answer.ensures in
    rw (kept.context, c.set_scope.ensures.scope) c.requires.inside

pub undo-requires : goal.undo-requires
undo-requires g c =
    let kept = keeps_of (lawful_of (g.P.Parser.grammar c.args.parser.now)) c.set_scope.new.self
    c.eval-answer.result c.eval-answer.new.state c.eval-answer.ensures in
    let mark = c.mark-mark.result in
    rw c.count_present-left.ensures.same
    (kept.marks.fit mark (c.set_scope.ensures.marks.fit mark c.mark-mark.ensures.fits))

pub returns-clause-takes : goal.returns-clause-takes
returns-clause-takes g c =
    takes_from (lawful_of (g.P.Parser.grammar c.args.parser.now)) _ c.spared.result
    c.set_scope.ensures.scope c.eval-answer.ensures c.len-present.ensures
    c.count_present-left.ensures.count c.spared.ensures

pub returns-clause-same : goal.returns-clause-same
returns-clause-same g c =
    let kept = keeps_of (lawful_of (g.P.Parser.grammar c.args.parser.now)) c.set_scope.new.self
    c.eval-answer.result c.eval-answer.new.state c.eval-answer.ensures in
    let mark = c.mark-mark.result in
    let moved = c.set_scope.ensures.marks in
    (rw c.count_present-left.ensures.same at c.undo.ensures.undone)
    ∙ (kept.marks.same mark (moved.fit mark c.mark-mark.ensures.fits)
    ∙ (moved.same mark c.mark-mark.ensures.fits ∙ c.mark-mark.ensures.back))
