use Rattle.std.proofs.lemmas.Grind.{common_steps}
use Rattle.std.proofs.Common.{◌∙◌, ◌≡◌, sym, subst, arith, length, slice_index}
use Rattle.std.proofs.lemmas.List.{length-take-le, with_items_is}
use Rattle.bpaf_index.specs.Chained.{HasNoKeyFrom, IsNextOf}
use Rattle.bpaf_index.proofs.Chained.{behind_nothing, classes_of_front}
use Rattle.bpaf_index.proofs.chains.Chains.of_long_line.Goals as goal

pub returns : goal.returns
returns c =
    let line = c.args.items.now in
    let names = c.in_ok-names.names in
    let classes = c.in_ok-names.classes.items in
    let size : length classes ≡ c.args.keys =
    c.in_ok-names.ensures.size ∙ length-take-le c.args.keys line c.requires.within in
    rw c.in_ok-new.ensures.ok (behind_nothing _ line (omega (arith, size, c.requires.within))
    (classes_of_front names line c.args.keys classes size c.requires.within
    c.in_ok-names.ensures.are)
    (subst (HasNoKeyFrom line) (sym size) c.requires.keyless)
    (λ p below. subst (λ heads. IsNextOf classes (slice_index classes p) 0
    (slice_index heads (slice_index classes p)))
    (sym (with_items_is c.in_ok-heads.heads c.link.new.heads
    (c.link.auto.heads ∙ c.deref_mut-2.ensures.len)))
    (subst (λ all. IsNextOf all (slice_index classes p) 0
    (slice_index c.link.new.heads (slice_index classes p))) c.deref.ensures.value
    (c.link.ensures.first (slice_index classes p) (omega (
      arith,
      c.in_ok-names.ensures.low p (omega (arith, below, c.in_ok-names.ensures.size)),
      length-take-le c.args.keys line c.requires.within,
      c.deref_mut-2.ensures.len,
      c.in_ok-heads.ensures.len,
    ))))))

pub invariant_of-result : goal.invariant_of-result
invariant_of-result c = grind (arith, common_steps)
