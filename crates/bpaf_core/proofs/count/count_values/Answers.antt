use Rattle.bpaf_grammar.specs.Laws.{lawful_of}
use Rattle.std.proofs.Common.{◌≡◌, ◌≤◌, ◌+◌, ◌++◌, ◌∷◌, [], List, ℕ, length, arith, length-append}
use Rattle.std.proofs.Common.{⊎_elim, ◌⊎◌, refl}
use Rattle.bpaf_line.specs.Situation.{open_count}
use Rattle.bpaf_laws.specs.Combinators.{stops}
use Rattle.bpaf_laws.proofs.CombinatorLaws.{none_nil, rests_here, goes_on, fits_more}
use Rattle.bpaf_core.proofs.count.count_values.Goals as goal

-- one value more is counted
counted_more : {T : Type 0} (n : ℕ) (xs : List T) (v : T) → n ≡ length xs
    → n + 1 ≡ length (xs ++ v ∷ [])
counted_more n xs v counted = omega (arith, length-append xs (v ∷ []))

pub overflow_add-count : goal.overflow_add-count
overflow_add-count g c =
    let run = c.loop-last.invariant in
    let step = rw (c.in-Some.is, none_nil _ _ _ c.is_none.ensures run.0.3)
    at c.in_ok-value.ensures in
    let fits : (length run.0.0 ≡ 0) ⊎ (length run.0.0 + 1 ≤ open_count c.args.state.now) =
    fits_more (lawful_of (g.P.Parser.grammar c.args.parser.now)) c.args.state.now c.loop-last.state
    run.0.0
    c.in-Some.value _ run.0.1 step in
    ⊎_elim (λ none. omega arith) (λ room. omega arith) fits

pub returns-then-len-left-clause-ok : goal.returns-then-len-left-clause-ok
returns-then-len-left-clause-ok g c =
    let run = c.loop-last.invariant in
    let step = rw (c.in-Some.is, none_nil _ _ _ c.is_none.ensures run.0.3)
    at c.in_ok-value.ensures in (
      run.0.0 ++ c.in-Some.value ∷ [],
      rests_here (lawful_of (g.P.Parser.grammar c.args.parser.now)) c.args.state.now
          c.loop-last.state
          run.0.0 c.in-Some.value _ run.0.1 step (cc),
      counted_more _ _ _ run.0.2,
      (run.0.0, refl),
    )

pub loop-last-smaller : goal.loop-last-smaller
loop-last-smaller g c =
    let run = c.loop-last.invariant in
    let step = rw (c.in-Some.is, none_nil _ _ _ c.is_none.ensures run.0.3)
    at c.in_ok-value.ensures in
    (goes_on (lawful_of (g.P.Parser.grammar c.args.parser.now)) c.args.state.now c.loop-last.state
    run.0.0
    c.in-Some.value _ run.0.1 step (λ same. c.if-len-left.false (cc))).1

pub loop-last-preserved : goal.loop-last-preserved
loop-last-preserved g c =
    let run = c.loop-last.invariant in
    let step = rw (c.in-Some.is, none_nil _ _ _ c.is_none.ensures run.0.3)
    at c.in_ok-value.ensures in
    let on = goes_on (lawful_of (g.P.Parser.grammar c.args.parser.now)) c.args.state.now
    c.loop-last.state
    run.0.0 c.in-Some.value _ run.0.1 step (λ same. c.if-len-left.false (cc)) in (
      (run.0.0 ++ c.in-Some.value ∷ [], on.0, counted_more _ _ _ run.0.2, (run.0.0, refl)),
      c.len-left.ensures,
      run.2,
    )

pub returns-clause-ok : goal.returns-clause-ok
returns-clause-ok g c =
    let run = c.loop-last.invariant in (
      run.0.0,
      stops (record {
        last = c.loop-last.state;
        steps = run.0.1;
        stop = rw (c.in_default.is, none_nil _ _ _ c.is_none.ensures run.0.3)
            at c.in_ok-value.ensures;
      }),
      run.0.2,
      run.0.3,
    )
