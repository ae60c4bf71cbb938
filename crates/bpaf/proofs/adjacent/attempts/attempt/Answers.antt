use Rattle.bpaf_grammar.specs.Laws.{lawful_of}
use Rattle.std.proofs.Common.{◌∙◌, refl}
use Rattle.bpaf_laws.proofs.Keeping.{keeps_of}
use Rattle.bpaf.proofs.adjacent.attempts.attempt.Goals as goal

pub set_scope-requires-2-clause-inside : goal.set_scope-requires-2-clause-inside
set_scope-requires-2-clause-inside g c =
    let kept = keeps_of (lawful_of (g.P.Parser.grammar c.args.parser.now)) c.set_scope.new.self
    c.eval.result c.eval.new.state c.eval.ensures in
    rw (kept.context, c.set_scope.ensures.scope) c.requires.inside

pub set_scope-requires-in-None-clause-inside : goal.set_scope-requires-in-None-clause-inside
set_scope-requires-in-None-clause-inside g c =
    let kept = keeps_of (lawful_of (g.P.Parser.grammar c.args.parser.now)) c.set_scope.new.self
    c.eval.result c.eval.new.state c.eval.ensures in
    rw (c.set_scope-2.ensures.scope, kept.context, c.set_scope.ensures.scope)
    c.scope-scope.ensures.inside

pub undo-requires : goal.undo-requires
undo-requires g c =
    let mark = c.mark-mark.result in
    let kept = keeps_of (lawful_of (g.P.Parser.grammar c.args.parser.now)) c.set_scope.new.self
    c.eval.result
    c.eval.new.state c.eval.ensures in
    c.set_scope-2.ensures.marks.fit mark
    (kept.marks.fit mark (c.set_scope.ensures.marks.fit mark c.mark-mark.ensures.fits))

pub returns-in-None : goal.returns-in-None
returns-in-None g c =
    let t = c.eval.new.state in (
      t,
      rw c.set_scope.ensures.scope at c.in_ok-value.ensures,
      rw c.set_scope-2.ensures.scope at c.in-None.ensures,
      c.set_scope-in-None.ensures.scope ∙ rw
          (c.set_scope-2.ensures.scope, c.scope-scope.ensures.start, c.scope-scope.ensures.stop)
          refl,
    )

pub returns-in-Some : goal.returns-in-Some
returns-in-Some g c =
    let t = c.eval.new.state in
    let mark = c.mark-mark.result in
    let moved = c.set_scope.ensures.marks in
    let kept = keeps_of (lawful_of (g.P.Parser.grammar c.args.parser.now)) c.set_scope.new.self
    c.eval.result
    t c.eval.ensures in
    let fits = moved.fit mark c.mark-mark.ensures.fits in (
      c.in_ok-value.value,
      t,
      rw c.set_scope.ensures.scope at c.in_ok-value.ensures,
      rw c.set_scope-2.ensures.scope at c.in-Some.ensures,
      c.undo.ensures.undone
          ∙ (c.set_scope-2.ensures.marks.same mark (kept.marks.fit mark fits)
          ∙ (kept.marks.same mark fits
          ∙ (moved.same mark c.mark-mark.ensures.fits ∙ c.mark-mark.ensures.back))),
    )
