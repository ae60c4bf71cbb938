use Rattle.std.proofs.{Common.◌∙◌, Common.ap, Common.sym, lemmas.List.with_items_is}
use Rattle.bpaf_line.specs.Situation.{is_marker}
use Rattle.bpaf_index.proofs.BitSets.{has_bit_one}
use Rattle.bpaf_line.proofs.construct.first_bits.Goals as goal

pub returns-clause-bits : goal.returns-clause-bits
returns-clause-bits c p =
    let zeros = c.in_ok-words.ensures.items_if_clones_equal (λ y e. e) in
    rw (with_items_is c.in_ok-words.words c.set.new.words
    (c.set.ensures.kept ∙ c.deref_mut.ensures.len))
    (has_bit_one _ c.in-Some.place c.set.new.words
    (rw (c.deref_mut.ensures.value ∙ zeros) at c.set.ensures) p
    ∙ ap (λ m. is_marker m p) (sym c.in-Some.is))
