use Rattle.std.proofs.Common.{ℕ, ◌++◌, ◌∷◌, [], ◌∙◌, ap, get_or, append_assoc, arith}
use Rattle.std.proofs.lemmas.List.{take_all, take_more}
use Rattle.bpaf_index.proofs.BitSets.{is_on_push}
use Rattle.bpaf_line.proofs.Marks.{last_of-append}
use Rattle.bpaf_line.proofs.state.State.exclude.Goals as goal

pub loop-place-preserved-then-is_taken : goal.loop-place-preserved-then-is_taken
loop-place-preserved-then-is_taken c =
    let so_far = c.loop-place.invariant in
    let more = take_more c.args.taken.now c.loop-place.place-index 0 c.loop-place-test.true in
    (so_far.0, so_far.1, rw more (λ p. grind (arith, is_on_push, so_far.2)))

pub loop-place-preserved : goal.loop-place-preserved
loop-place-preserved c =
    let so_far = c.loop-place.invariant in
    let more = take_more c.args.taken.now c.loop-place.place-index 0 c.loop-place-test.true in
    let pair : ℕ × ℕ = (get_or c.args.taken.now c.loop-place.place-index 0, c.args.winner) in (
      so_far.0 ++ pair ∷ [],
      c.in_default.ensures.items ∙ (ap (λ pairs. pairs ++ pair ∷ []) so_far.1
          ∙ append_assoc c.args.conflicts.now.items so_far.0 (pair ∷ [])),
      rw more (λ p. grind (arith, is_on_push, last_of-append, so_far.2)),
    )

pub returns-clause-ok : goal.returns-clause-ok
returns-clause-ok c =
    let so_far = c.loop-place.invariant in
    let whole = take_all c.loop-place.place-index c.args.taken.now
    (omega (arith, c.loop-place-test.false)) in
    (so_far.0, so_far.1, rw whole at so_far.2)
