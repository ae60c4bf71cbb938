use Rattle.std.proofs.Common.{arith, rules, ◌++◌, ◌∷◌, [], refl}
use Rattle.bpaf_laws.proofs.ArgumentLaws.{pair_fewer, texts_more}
use Rattle.bpaf_keys.proofs.environment.take_all_keys.Goals as goal

pub loop-last-init : goal.loop-last-init
loop-last-init g c = search rules

pub loop-last-smaller : goal.loop-last-smaller
loop-last-smaller g c = grind (arith, pair_fewer)

pub loop-last-preserved : goal.loop-last-preserved
loop-last-preserved g c =
    let run = c.loop-last.invariant in (
      run.0 ++ c.in-Some.text ∷ [],
      texts_more c.args.argument.now c.args.state.now c.loop-last.state c.take_first_key.new.state
          run.0 c.in-Some.text run.1 (rw c.in-Some.is at c.in_ok-text.ensures),
      (run.0, refl),
    )
