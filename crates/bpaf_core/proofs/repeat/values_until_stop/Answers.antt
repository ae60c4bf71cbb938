use Rattle.bpaf_grammar.specs.{Grammar.outcome_of, Laws.lawful_of}
use Rattle.std.proofs.Common.{arith, sym, subst, true, ◌∙◌}
use Rattle.bpaf_laws.specs.Combinators.{Turns}
use Rattle.bpaf_laws.proofs.CombinatorLaws.{vec_nil, steps_refused, not_nil, step_falls, steps_more}
use Rattle.bpaf_core.proofs.repeat.values_until_stop.Goals as goal

pub loop-values-preserved : goal.loop-values-preserved
loop-values-preserved g c =
    let step = rw (c.in-Some.is, c.is_empty.ensures ∙ vec_nil c.loop-values.values)
    at c.in_ok-value.ensures in
    let more = steps_more (outcome_of (g.P.Parser.grammar c.args.parser.now)) c.args.catches true
    c.args.state.now c.loop-values.state c.loop-values.values.items c.in-Some.value
    c.parse_option.new.state c.loop-values.invariant step in
    subst (λ vs. Turns (outcome_of (g.P.Parser.grammar c.args.parser.now)) c.args.catches true
    c.args.state.now
    vs c.parse_option.new.state) (sym c.in_ok-push_value.ensures) more

pub returns-in_err-push_value : goal.returns-in_err-push_value
returns-in_err-push_value g c =
    let step = rw (c.in-Some.is, c.is_empty.ensures ∙ vec_nil c.loop-values.values)
    at c.in_ok-value.ensures in
    let more = steps_more (outcome_of (g.P.Parser.grammar c.args.parser.now)) c.args.catches true
    c.args.state.now c.loop-values.state c.loop-values.values.items c.in-Some.value
    c.parse_option.new.state c.loop-values.invariant step in
    steps_refused _ _ _ _ _ _ more c.from_residual-in_err-push_value.ensures.1

pub loop-values-smaller : goal.loop-values-smaller
loop-values-smaller g c =
    let step = rw (c.in-Some.is, c.is_empty.ensures ∙ vec_nil c.loop-values.values)
    at c.in_ok-value.ensures in
    let falls = step_falls (lawful_of (g.P.Parser.grammar c.args.parser.now)) c.args.catches _
    c.loop-values.state c.in-Some.value c.parse_option.new.state step in
    let nil = not_nil c.push_value.new.values.items c.loop-values.values.items c.in-Some.value
    c.in_ok-push_value.ensures in
    omega arith
