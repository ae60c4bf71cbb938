use Rattle.bpaf_grammar.specs.Laws.{lawful_of}
use Rattle.std.proofs.Common.{◌∙◌, arith, inl, inr, rules, sym}
use Rattle.bpaf_laws.proofs.Keeping.{keeps_of}
use Rattle.bpaf_core.proofs.optional.parse_option.Goals.{then-first, else-first}
use Rattle.bpaf_core.proofs.optional.parse_option.Goals as goal

pub returns-then-len-left : goal.returns-then-len-left
returns-then-len-left g c = (
  c.in-Ok.ensures,
  elim c.if-first.branch [
    | then-first w ↦ inl w.if-first.true
    | else-first w ↦ inr (search rules)
  ],
)

pub returns-then-stops_step : goal.returns-then-stops_step
returns-then-stops_step g c =
    let kept = keeps_of (lawful_of (g.P.Parser.grammar c.args.parser.now)) _ _ _ c.eval.ensures in
    inr (
      (
        c.in-Err.error,
        c.eval.new.state,
        c.in-Err.ensures,
        sym (rw (c.len-in-Err.ensures, c.len-left.ensures) at c.stops_step.ensures)
            ∙ c.if-stops_step.true,
      ),
      c.undo.ensures.undone ∙ (kept.marks.same c.mark-mark.result c.mark-mark.ensures.fits
          ∙ c.mark-mark.ensures.back),
    )

pub returns-else-stops_step : goal.returns-else-stops_step
returns-else-stops_step g c =
    inl (
      c.in-Err.ensures,
      sym (rw (c.len-in-Err.ensures, c.len-left.ensures) at c.stops_step.ensures)
          ∙ c.if-stops_step.false,
    )

pub returns-else-len-left : goal.returns-else-len-left
returns-else-len-left g c = grind arith

pub undo-requires : goal.undo-requires
undo-requires g c = grind (arith, keeps_of (lawful_of (g.P.Parser.grammar c.args.parser.now)))
