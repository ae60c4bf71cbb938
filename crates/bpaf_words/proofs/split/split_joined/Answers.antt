use Rattle.std.proofs.Common.{sym, ◌∙◌, ap, [], ◌∷◌, ◌++◌, arith}
use Rattle.bpaf_words.proofs.LineLemmas.{walked_more, walked_bound, ends, stops_both}
use Rattle.bpaf_words.proofs.LineLemmas.{stops_neither, stops_argument, taken_back, first_text}
use Rattle.bpaf_words.proofs.split.split_joined.Goals.{then-count-eq0, else-count-eq0}
use Rattle.bpaf_base.specs.declared.arg.Arg.TheVariants.{Word}
use Rattle.bpaf_words.proofs.split.split_joined.Goals as goal

pub overflow_add-result : goal.overflow_add-result
overflow_add-result c = omega (arith, walked_bound c.loop-c.invariant _ _ c.in-Some.ensures.steps.0)

pub returns-in-true-true : goal.returns-in-true-true
returns-in-true-true c =
    stops_both c.loop-c.invariant _ _ c.in-Some.ensures.steps.0
    (record {
      as_flag = sym c.in-true-true.ensures.value;
      as_argument = sym c.in-true-true.ensures'.value;
    })

pub returns-in-false-true : goal.returns-in-false-true
returns-in-false-true c =
    stops_argument c.loop-c.invariant _ _ c.in-Some.ensures.steps.0 _
    (record {
      as_flag = sym c.in-false-true.ensures.value;
      as_argument = sym c.in-false-true.ensures'.value;
    })
    (rw (← c.as_str.ensures) c.in_ok-push_argument-in-false-true.ensures)

pub returns-in-false-false : goal.returns-in-false-false
returns-in-false-false c = stops_neither c.loop-c.invariant _ _
    c.in-Some.ensures.steps.0 _ (record {
      as_flag = sym c.in-false-false.ensures.value;
      as_argument = sym c.in-false-false.ensures'.value;
    })
    (c.in_ok-push_word-in-false-false.ensures
    ∙ ap (λ x. x ++ Word c.args.word.now ∷ [])
    (c.truncate.ensures.items ∙ taken_back _ _ _ _
    (c.len-before.ensures ∙ c.args.items.now.ok.0) c.loop-c.invariant.items))

pub overflow_add-count : goal.overflow_add-count
overflow_add-count c = omega (arith, walked_bound c.loop-c.invariant _ _ c.in-Some.ensures.steps.0)

pub loop-c-preserved : goal.loop-c-preserved
loop-c-preserved c = walked_more c.loop-c.invariant _ _ c.in-Some.ensures.steps.0 _ _
    (record {
      as_flag = sym c.in-true-false.ensures.value;
      as_argument = sym c.in-true-false.ensures'.value;
    })
    (first_text c.args.word.now c.if-count-eq0.text.now c.loop-c.count
    (λ z. elim c.if-count-eq0.branch
    [ then-count-eq0 w ↦ ap (λ r. r.now) w.text-is | else-count-eq0 w ↦ absurd (omega arith) ])
    (λ n. elim c.if-count-eq0.branch
    [ then-count-eq0 w ↦ absurd (omega arith) | else-count-eq0 w ↦ ap (λ r. r.now) w.text-is ]))
    c.in_ok-push_flag-in-true-false.ensures

pub returns : goal.returns
returns c cs l = ends c.loop-c.invariant cs c.in_default.ensures.steps.0.0 l
