use Rattle.std.proofs.Common.{◌≡◌, ◌∙◌, ◌++◌, ap, arith, map, string_bytes, refl}
use Rattle.bpaf_line.proofs.Sound.{sound_copy}
use Rattle.bpaf_line.proofs.state.State.copy.Goals as goal

pub invariant_of-result : goal.invariant_of-result
invariant_of-result c =
    let s = c.self.inside in
    let items : c.in_ok-items.items.items ≡ s.items.items =
    c.in_ok-items.ensures ∙ c.as_slice.ensures.value in
    let trail : c.extend_from_slice.new.self.items ≡ s.trail.items =
    c.in_ok-extend_from_slice.ensures.items
    ∙ (ap (λ xs. xs ++ c.as_slice-3.result.now) c.in_ok-trail.ensures.items
    ∙ c.as_slice-3.ensures.value) in
    let conflicts : c.in_ok-conflicts.conflicts.items ≡ s.conflicts.items =
    c.in_ok-conflicts.ensures.items ∙ c.as_slice-4.ensures.value in
    let path : map string_bytes c.in_ok-path.path.items ≡ map string_bytes s.path.items =
    c.in_ok-path.ensures ∙ ap (map string_bytes) c.as_slice-5.ensures.value in
    sound_copy _ s
    (rw (items, c.in_ok-env.ensures, trail, conflicts, path, c.in_ok-name.ensures) refl)
    refl refl (rw (c.deref.ensures.value ∙ items) at c.in_ok-chains.ensures)
    (c.in_ok-bits.ensures.items ∙ c.as_slice-2.ensures.value) refl refl c.nothing.ensures
    (omega (
      arith,
      c.in_ok-trail.ensures.capacity,
      c.in_ok-extend_from_slice.ensures.capacity,
      c.len.ensures,
      s.items.ok.0,
    )) c.self.invariant
