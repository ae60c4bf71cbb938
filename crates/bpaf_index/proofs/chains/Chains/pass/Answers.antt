use Rattle.std.proofs.Common.{get_or, ◌∙◌, ◌≡◌, ◌<◌, ap, sym, subst, arith, length, slice_index}
use Rattle.std.proofs.lemmas.List.{get_or_read}
use Rattle.bpaf_index.specs.{Bits.has_bit, Chained.AreBehind, Chained.HasWalked}
use Rattle.bpaf_index.proofs.Chained.{linked_passed, behind_passed}
use Rattle.bpaf_index.proofs.chains.Chains.pass.Goals.{After-self-1}
use Rattle.bpaf_index.proofs.chains.Chains.pass.Goals as goal

-- the place is one of the chains'
within : (c : After-self-1) → c.args.place < length c.self.inside.links.value.classes.items
within c =
    omega (arith, ap (λ t. length t.classes) c.self.view_is, c.len.ensures, c.if-place-len.true)

-- its class is the one that was read
of_class : (c : After-self-1)
    → c.index-class.result.now ≡ slice_index c.self.inside.links.value.classes.items c.args.place
of_class c =
    get_or_read c.self.inside.links.value.classes.items c.args.place _ (within c)
    (c.index-class.ensures ∙ ap (λ links. get_or links.classes.items c.args.place
    c.index-class.result.now) c.deref.ensures) 0

-- the chain begins where that is written
begins : (c : After-self-1)
    → c.index-head.result.now ≡ slice_index c.self.inside.heads.items c.index-class.result.now
begins c = get_or_read c.self.inside.heads.items c.index-class.result.now _
    (omega (arith, of_class c, c.self.invariant.numbered c.args.place (within c)))
    c.index-head.ensures 0

-- it was walked from there
walked : (c : After-self-1) → HasWalked c.self.inside.links.value.classes.items
    (has_bit c.args.words.now) c.index-head.result.now c.first_clear-first.result
walked c = subst (λ t. HasWalked t.classes (has_bit c.args.words.now) c.index-head.result.now
    c.first_clear-first.result) (sym c.self.view_is) c.first_clear-first.ensures

pub invariant_of-self : goal.invariant_of-self
invariant_of-self c =
    linked_passed c.self.invariant (within c) (of_class c) (begins c) (walked c).same

pub returns-then-place-len : goal.returns-then-place-len
returns-then-place-len c =
    let inside : c.index-class.result.now < length c.self.inside.heads.items =
    omega (arith, of_class c, c.self.invariant.numbered c.args.place (within c)) in
    behind_passed (subst (AreBehind c.args.items.now (has_bit c.args.words.now))
    (sym c.self.view_is) c.requires.behind) inside (begins c)
    (rw (begins c) (c.self.invariant.headed c.index-class.result.now inside)) (walked c)
