use Rattle.std.proofs.Common.{◌∙◌, ap, sym, arith, not}
use Rattle.bpaf_index.proofs.Chained.{walked_more}
use Rattle.bpaf_line.proofs.Places.{first_along}
use Rattle.bpaf_line.proofs.state.State.first_along.Goals as goal

pub loop-place-preserved : goal.loop-place-preserved
loop-place-preserved g c =
    let chains = c.args.chains.now in
    walked_more chains.classes _ c.args.start c.loop-place.place c.after-place.result
    c.loop-place.invariant (omega (arith, c.loop-place-test.true, c.requires.inside))
    (ap not (sym c.passes_at.ensures ∙ c.if-passes_at.false)) c.after-place.ensures

pub returns-then-passes_at : goal.returns-then-passes_at
returns-then-passes_at g c =
    first_along _ c.args.self.now c.args.chains.now.classes c.args.start c.args.end
    c.loop-place.place c.loop-place.place c.loop-place.invariant (omega arith)
    (omega (arith, c.loop-place-test.true)) (λ below. sym c.passes_at.ensures ∙ c.if-passes_at.true)
