use Rattle.std.proofs.Common.{[], ◌∷◌, ◌++◌, take, ap, sym, ◌∙◌, false, append-nil}
use Rattle.std.proofs.lemmas.List.{take_more}
use Rattle.bpaf_base.specs.declared.arg.Arg.TheVariants.{Short, Long}
use Rattle.bpaf_line.specs.Inside.{is_sought}
use Rattle.bpaf_line.proofs.Places.{among_more}
use Rattle.bpaf_line.proofs.state.State.first_chained.Goals as goal

pub loop-short-preserved : goal.loop-short-preserved
loop-short-preserved c =
    let names = c.args.key.now.shorts.now in
    let i = c.loop-short.short-index in
    let name = c.short-item.result in
    rw (take_more names i name c.loop-short-test.true
    ∙ ap (λ n. take i names ++ n ∷ []) (sym c.short-item.is))
    (among_more (is_sought c.args.key.now) _ (Short name false []) c.args.self.now c.args.chains.now
    _
    c.args.end _ _ c.requires.chains c.requires.inside c.first_short.ensures c.loop-short.invariant
    c.first_along-place.ensures)

pub loop-long-preserved : goal.loop-long-preserved
loop-long-preserved c =
    let names = c.args.key.now.longs.now in
    let i = c.loop-long.long-index in
    let name = c.long-item.result in
    rw (take_more names i name c.loop-long-test.true
    ∙ ap (λ n. take i names ++ n ∷ []) (sym c.long-item.is))
    (rw (append-nil c.args.key.now.shorts.now) at (among_more (is_sought c.args.key.now) _
    (Long name false []) c.args.self.now c.args.chains.now _ c.args.end _ _ c.requires.chains
    c.requires.inside c.first_long.ensures c.loop-long.invariant
    c.first_along-place-in-loop-long.ensures))
