use Rattle.std.proofs.Common.{arith, inl, sym, ◌∙◌}
use Rattle.bpaf_laws.proofs.Keeping.{keeps_of}
use Rattle.bpaf_grammar.specs.Laws.{lawful_of}
use Rattle.bpaf_core.proofs.fallback.attempt.Goals as goal

pub undo-requires : goal.undo-requires
undo-requires g c = grind (arith, keeps_of (lawful_of (g.P.Parser.grammar c.args.parser.now)))

pub returns-then-can_catch : goal.returns-then-can_catch
returns-then-can_catch g c =
    let kept = keeps_of (lawful_of (g.P.Parser.grammar c.args.parser.now)) _ _ _ c.eval.ensures in (
      (
        c.in-Err.error,
        c.eval.new.state,
        c.in-Err.ensures,
        sym c.can_catch.ensures ∙ c.if-can_catch.true,
      ),
      c.undo.ensures.undone ∙ (kept.marks.same c.mark-mark.result c.mark-mark.ensures.fits
          ∙ c.mark-mark.ensures.back),
    )

pub returns-else-can_catch : goal.returns-else-can_catch
returns-else-can_catch g c =
    let kept = keeps_of (lawful_of (g.P.Parser.grammar c.args.parser.now)) _ _ _ c.eval.ensures in (
      inl (
        c.eval.new.state,
        c.in-Err.ensures,
        sym c.can_catch.ensures ∙ c.if-can_catch.false,
      ),
      c.undo.ensures.undone ∙ (kept.marks.same c.mark-mark.result c.mark-mark.ensures.fits
          ∙ c.mark-mark.ensures.back),
    )
