use Rattle.std.proofs.Common.{◌∙◌, ap, sym, subst, drop}
use Rattle.std.proofs.lemmas.List.{take_rest}
use Rattle.bpaf_index.specs.Bits.{count_clear}
use Rattle.bpaf_line.specs.Inside.{situation_of, count_within, IsSoundAt}
use Rattle.bpaf_line.proofs.Sound.{survey_narrowed, survey_counted, survey_recalled, gone_were_left}
use Rattle.bpaf_line.proofs.state.State.survey.Goals as goal

pub returns-then-start-self : goal.returns-then-start-self
returns-then-start-self c = rw (← c.self.view_is)
    (survey_narrowed (situation_of c.self.inside) c.args.start c.args.end _ _
    c.self.invariant.counted c.self.invariant.first c.if-end-self.true c.if-self-start.true
    c.if-start-self.true)

pub overflow_sub-result : goal.overflow_sub-result
overflow_sub-result c = gone_were_left c.self.inside _ c.self.invariant c.args.start c.args.end
    c.count_within-gone.result (sym c.is_of.ensures ∙ c.if-is_of.true)
    (c.count_within-gone.ensures ∙ ap (count_within c.args.start c.args.end)
    (take_rest c.deref.result.now c.self.inside.aside.taken
    ∙ ap (drop c.self.inside.aside.taken) c.deref.ensures.value))

pub returns-then-is_of : goal.returns-then-is_of
returns-then-is_of c =
    survey_recalled c.self.inside _
    (subst (IsSoundAt c.self.inside) c.self.view_is c.self.invariant) c.args.start c.args.end
    c.count_within-gone.result (sym c.is_of.ensures ∙ c.if-is_of.true)
    (c.count_within-gone.ensures ∙ ap (count_within c.args.start c.args.end)
    (take_rest c.deref.result.now c.self.inside.aside.taken
    ∙ ap (drop c.self.inside.aside.taken)
    (c.deref.ensures.value ∙ ap (λ t. t.trail) c.self.view_is)))
    c.first_clear-first.result c.requires.inside
    (rw c.deref-then-is_of.ensures.value at c.first_clear-first.ensures)

pub returns : goal.returns
returns c =
    survey_counted c.self.inside _
    (subst (IsSoundAt c.self.inside) c.self.view_is c.self.invariant) c.args.start c.args.end _ _
    c.requires.ordered c.requires.inside
    (c.count_clear-left.ensures
    ∙ ap (λ words. count_clear words c.args.start c.args.end) c.deref-2.ensures.value)
    (rw c.deref-3.ensures.value at c.first_clear-first-2.ensures)
