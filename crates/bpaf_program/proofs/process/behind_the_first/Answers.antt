-- What is left behind the first word is collected.
use Rattle.std.proofs.Common.{◌≡◌, ◌∙◌, Option, Some, None, drop, [], ap, refl, sym}
use Rattle.std.specs.declared.vec.IntoIter.{IntoIter}
use Rattle.std.specs.Vec.Iter.{into_iter_items, into_iter_steps}
use Rattle.std.proofs.{IntoIterSteps.All-taken, lemmas.Result.IfOk-weaker}
use Rattle.bpaf_program.proofs.process.behind_the_first.Goals as goal

-- what one more word leaves
one_taken : {X A : Type 0} (s : IntoIter X A) (r : Option X) (t : IntoIter X A)
    → into_iter_steps s r t → into_iter_items t ≡ drop 1 (into_iter_items s)
one_taken s (Some x) t step = ap (drop 1) (sym step.0)
one_taken s None t step = sym (All-taken t [] (t, (t, refl, (step.1, step.1))))
    ∙ ap (drop 1) (All-taken s [] (t, (s, refl, step)))

pub returns : goal.returns
returns c = IfOk-weaker c.collect.result _ _ (λ words h.
    let end = h.1.2 tt in
    h.2.0 ∙ (All-taken c.next.new.self h.0 (end.0, (h.1.0, h.1.1, end.1)) ∙ one_taken c.args.all
    c.next.result c.next.new.self c.next.ensures.cases)) c.collect.ensures.ran
