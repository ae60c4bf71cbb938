use Rattle.std.proofs.Common.{◌∙◌, ◌-◌, arith, ap, true}
use Rattle.std.proofs.lemmas.Grind.{common_steps}
use Rattle.bpaf_line.proofs.Sound.{sound_put, behind_put, clear_first, left_enough, pushed_place}
use Rattle.std.specs.Int.{from_bool}
use Rattle.bpaf_index.specs.Bits.{has_bit}
use Rattle.bpaf_line.specs.{Inside.situation_of, Situation.is_taken, Situation.with_trail}
use Rattle.bpaf_line.proofs.{Places.put, Sound.bit_written}
use Rattle.bpaf_line.proofs.state.State.put.Goals as goal

pub overflow_sub-self : goal.overflow_sub-self
overflow_sub-self c = left_enough c.self.inside _ c.self.invariant c.args.place c.from.result
    (ap (λ s. is_taken s c.args.place) c.self.view_is ∙ c.requires)
    (c.from.ensures ∙ ap from_bool c.lies_within.ensures)

pub first_without-self-inside-requires-clause-clear :
    goal.first_without-self-inside-requires-clause-clear
first_without-self-inside-requires-clause-clear c below other =
    let s = c.self.inside in
    let written = bit_written s c.args.place true _ _ c.deref_mut.ensures.value c.set.ensures in
    ap (λ words. has_bit words s.first) (c.deref-2.ensures.value ∙ written.1)
    ∙ clear_first s _ c.self.invariant c.args.place c.set.new.words written.0 below other

pub pass-requires-clause-behind : goal.pass-requires-clause-behind
pass-requires-clause-behind c =
    let s = c.self.inside in
    let written = bit_written s c.args.place true _ _ c.deref_mut.ensures.value c.set.ensures in
    rw (c.deref-3.ensures.value, c.deref-4.ensures.value ∙ written.1)
    (behind_put s _ c.self.invariant c.args.place c.set.new.words written.0)

pub invariant_of-self : goal.invariant_of-self
invariant_of-self c =
    let s = c.self.inside in
    let free = ap (λ s. is_taken s c.args.place) c.self.view_is ∙ c.requires in
    let written = bit_written s c.args.place true _ _ c.deref_mut.ensures.value c.set.ensures in
    sound_put s c.args.place c.set.new.words c.push.new.self _ _ _ c.pass.new.chains
    c.self.invariant free written.0
    (pushed_place s c.args.place c.push.new.self _ c.self.invariant free c.push.ensures.succeeds
    c.push.ensures.items) c.push.ensures.capacity
    (ap (λ n. s.left - n) (c.from.ensures ∙ ap from_bool c.lies_within.ensures))
    (rw (c.deref-2.ensures.value ∙ written.1) at c.first_without-self-inside.ensures)
    (omega (arith, c.len.ensures, s.items.ok.0, c.pass_taken-self-inside.ensures.within))
    (rw (c.deref.ensures.value ∙ written.1) at c.pass_taken-self-inside.ensures.set)
    (rw (c.deref-3.ensures.value, c.deref-4.ensures.value ∙ written.1) at c.pass.ensures)

pub returns : goal.returns
returns c =
    let free = ap (λ s. is_taken s c.args.place) c.self.view_is ∙ c.requires in
    ap (with_trail (situation_of c.self.inside))
    (pushed_place c.self.inside c.args.place c.push.new.self _ c.self.invariant free
    c.push.ensures.succeeds c.push.ensures.items) ∙ ap (λ s. put s c.args.place) c.self.view_is

pub first_without-self-inside-requires-clause-set :
    goal.first_without-self-inside-requires-clause-set
first_without-self-inside-requires-clause-set c = grind (arith, common_steps)
