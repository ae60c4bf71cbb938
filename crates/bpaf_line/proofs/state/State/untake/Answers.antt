use Rattle.std.proofs.Common.{◌≡◌, ◌+◌, ◌-◌, ◌<◌, ◌∙◌, ap, arith, length, min, if◌then◌else◌}
use Rattle.bpaf_line.proofs.Sound.{sound_untake, left_below_count, last_read}
use Rattle.std.specs.Int.{from_bool}
use Rattle.bpaf_line.proofs.state.State.untake.Goals as goal

pub overflow_add-self : goal.overflow_add-self
overflow_add-self c =
    let some : 0 < length c.self.inside.trail.items =
    (let e = ap (λ s. length s.trail) c.self.view_is in omega (arith, e, c.requires)) in
    let fewer = left_below_count c.self.inside _ c.self.invariant c.index-place.result.now
    c.from.result some
    (last_read c.self.inside _ _ c.len-last.ensures some c.index-place.ensures)
    (c.from.ensures ∙ ap from_bool c.lies_within-within.ensures) in
    omega (arith, fewer)

pub invariant_of-self : goal.invariant_of-self
invariant_of-self c =
    let s = c.self.inside in
    let p = c.index-place.result.now in
    let some : 0 < length s.trail.items = (let e = ap (λ s. length s.trail) c.self.view_is in
    omega (arith, e, c.requires)) in
    let shorter : c.len-last.result - 1 ≡ length s.trail.items - 1 =
    omega (arith, c.len-last.ensures, s.trail.ok.0) in
    sound_untake s p c.clear.new.words c.truncate.new.self _ _ _ c.up_to-self-inside.result
    c.reach_back.new.chains c.self.invariant some
    (last_read s _ _ c.len-last.ensures some c.index-place.ensures)
    (rw c.deref_mut.ensures.value at c.clear.ensures)
    (rw (← shorter) c.truncate.ensures.items) (omega (arith, c.truncate.ensures.capacity))
    (ap (λ n. s.left + n) (c.from.ensures ∙ ap from_bool c.lies_within-within.ensures))
    (c.earlier-self-inside.ensures ∙ ap (λ b.
    if b then min s.first p else s.first) c.lies_within-within.ensures)
    c.earlier-self-inside-2.ensures (rw (← shorter) c.up_to-self-inside.ensures)
    c.reach_back.ensures
