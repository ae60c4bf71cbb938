-- Steps that keep a state sound, right what is kept of a scope that a parse has left, and how a run
-- begins.
use Rattle.std.proofs.Common.{◌≡◌, ℕ, zero, suc, ◌+◌, ◌-◌, ◌<◌, ◌≤◌, ◌==◌, ◌&&◌, ◌||◌, Bool, true}
use Rattle.std.proofs.Common.{false, not, ◌∷◌, [], length, take, drop, slice_index, refl, ap, sym}
use Rattle.std.proofs.Common.{◌∙◌, subst, arith, ⊎_elim, if◌then◌else◌, nat_le, nat_lt}
use Rattle.std.proofs.Common.{length-append, map, string_bytes, None, ◌≢◌, List, ◌++◌, Vec, String}
use Rattle.std.proofs.Common.{vec_capacity, vec_len, get_or, Option, Some, slice_get, min, max}
use Rattle.std.proofs.Common.{IfSome, ◌*◌, is_some, option_to_list}
use Rattle.std.proofs.lemmas.Bool.{and_left, and_right, or_left, le-ltb, leb-true, cases_lt}
use Rattle.std.proofs.lemmas.Bool.{cases_eq, cond-true, lt-ltb, or_right, eq-eqb}
use Rattle.std.proofs.lemmas.List.{take-append-le, take-append-drop, take-take, take_all, take_more}
use Rattle.std.proofs.lemmas.List.{drop_all, drop_more, length-take-le, with_items_is, get_or_read}
use Rattle.bpaf_line.specs.Inside.{no_aside, count_within, IsSurvey, IsAside, situation_of}
use Rattle.bpaf_line.specs.Inside.{BitsOf, IsSound, AreChainsOf, IsSoundAt, shared_entries}
use Rattle.bpaf_line.specs.Situation.{Situation, cut_to, with_trail, with_scope, is_on, is_open}
use Rattle.bpaf_line.specs.Situation.{is_taken, in_scope, open_count, TakenInTurn, IsFirstPresent}
use Rattle.bpaf_line.specs.Situation.{is_marker, HasNoneOpen, Context, beginning, is_dealt_place}
use Rattle.bpaf_base.proofs.Count.{count_below-none, count_below-same, count_below-cut}
use Rattle.bpaf_base.proofs.Count.{count_below-most, count_below-all, count_below-fewer}
use Rattle.bpaf_line.proofs.Places.{put, open_count-put, put_here, put_other, put_stays}
use Rattle.bpaf_line.proofs.Places.{in_turn_put, room_on_trail, last_put, in_turn_cut, open_in_line}
use Rattle.bpaf_line.proofs.Places.{first_without, open_not_taken}
use Rattle.bpaf_index.specs.Bits.{has_bit, is_clear_from, count_clear, ChangesBit, IsFirstClear}
use Rattle.bpaf_index.specs.Chained.{Chained, AreBehind, ReachBack, IfChained, HasNoKeyFrom}
use Rattle.std.proofs.{lemmas.Option.slice_get-get_or, lemmas.List.Folds.list_any-append}
use Rattle.std.proofs.lemmas.Bool.Decides.{nat_tests}
use Rattle.std.specs.{Int.from_bool, Vec.with_items, declared.alloc.Global.Global}
use Rattle.std.specs.Prelude.{string_bytes}
use Rattle.bpaf_line.specs.{Taking.open_item, declared.aside.Aside.Aside}
use Rattle.bpaf_line.specs.declared.state.State.TheInside.{Inside}
use Rattle.bpaf_base.specs.declared.arg.Arg.{Arg}

-- of a scope of no places all is known
pub remembers_nothing : (s : Situation) → IsAside s no_aside
remembers_nothing s = grind (arith, count_below-none, and_left, and_right, le-ltb)

-- where the first taken places are the same
remembers_front : (s t : Situation) (aside : Aside) → aside.taken ≤ length t.trail
    → cut_to t aside.taken ≡ cut_to s aside.taken → IsAside s aside → IsAside t aside
remembers_front s t aside taken same h = record { taken = taken; survey = rw same h.survey }

-- one place more may be taken
pub remembers_put : (s : Situation) (p : ℕ) (aside : Aside) → IsAside s aside
    → IsAside (put s p) aside
remembers_put s p aside h = grind (arith, remembers_front, put, length-append, take-append-le)

-- what is kept aside of a longer trail is kept as long as no more places were taken then
pub remembers_cut : (s : Situation) (n : ℕ) (aside : Aside) → n ≤ length s.trail
    → IsAside s aside
    → IsAside (cut_to s n) (if nat_le aside.taken n then aside else no_aside)
remembers_cut s n aside within h = by_test (nat_le aside.taken n) refl
  where
    by_test : (b : Bool) → nat_le aside.taken n ≡ b
        → IsAside (cut_to s n) (if b then aside else no_aside)
    by_test false e = remembers_nothing (cut_to s n)
    by_test true e =
        let fewer : aside.taken ≤ n = leb-true aside.taken n e in
        remembers_front s (cut_to s n) aside (omega (arith, length-take-le n s.trail within))
        (ap (with_trail s) (take-take aside.taken n s.trail fewer)) h

-- a scope that begins later, no later than the first present place, has the same present places
pub survey_narrowed : (s : Situation) (start end left first : ℕ) → left ≡ open_count s
    → IsFirstPresent s first → end ≡ s.end → s.start ≤ start → start ≤ first
    → IsSurvey s start end left first
survey_narrowed s start end left first counted is_first same later in_front = record {
  counted = counted ∙ count_below-same (is_open s) (is_open (with_scope s start end))
      (length s.context.line)
      (λ q _. narrowed s.start s.end start end first q (is_taken s q) (is_first.passed q) same later
      in_front);
  first = record {
    from = in_front;
    within = omega (arith, is_first.within);
    present = λ below. is_first.present (omega arith);
    passed = λ q above below. is_first.passed q (omega arith) below;
  };
}
  where
    narrowed : (low high start end first q : ℕ) (taken : Bool)
        → (low ≤ q → q < first → taken ≡ true) → end ≡ high → low ≤ start → start ≤ first
        → ((nat_le low q && nat_lt q high) && not taken)
        ≡ ((nat_le start q && nat_lt q end) && not taken)
    narrowed low high start end first q taken passed same later in_front = grind (arith, nat_tests)

-- what was taken when fewer places were is taken
taken_since : (s : Situation) (n q : ℕ) → is_taken (cut_to s n) q ≡ true → is_taken s q ≡ true
taken_since s n q = by_parts _ _ (is_on (take n s.trail) q) (is_on s.trail q) (λ on.
    ap (λ trail. is_on trail q) (sym (take-append-drop n s.trail))
    ∙ (list_any-append (λ r. r == q) (take n s.trail) (drop n s.trail) ∙ or_left _ _ on))
  where
    by_parts : (past marker front on : Bool) → (front ≡ true → on ≡ true)
        → (past || (marker || front)) ≡ true → (past || (marker || on)) ≡ true
    by_parts past marker front on h e = grind arith

-- the places of a scope that were taken since are present there no more
count_since : (s : Situation) (start end : ℕ) → TakenInTurn s → (d n : ℕ) → d + n ≡ length s.trail
    → open_count (with_scope s start end) + count_within start end (drop n s.trail)
    ≡ open_count (with_scope (cut_to s n) start end)
count_since s start end turns zero n all =
    rw (take_all n s.trail (omega arith), drop_all n s.trail (omega arith)) (omega arith)
count_since s start end turns (suc d) n all =
    let p = slice_index s.trail n in
    let t = cut_to s n in
    let later = count_since s start end turns d (n + 1) (omega arith) in
    let step : cut_to s (n + 1) ≡ put t p =
    ap (with_trail s) (take_more s.trail n 0 (omega arith)) in
    rw (drop_more s.trail n 0 (omega arith)) (omega (
      arith,
      later,
      open_count-put (with_scope t start end) p (turns n (omega arith)),
      ap (λ u. open_count (with_scope u start end)) step,
    ))

-- Steps that keep a state sound.

-- the bits of a situation with one place more
pub bits_put : (s : Situation) (old new : List ℕ) (p : ℕ) → BitsOf s old
    → ChangesBit old new p true → BitsOf (put s p) new
bits_put s old new p bits change q within = grind (arith, put, put_here, put_other, cases_eq)

-- the first present place is found by the bits, from a place up to which all are taken
pub first_by_bits : (s : Situation) (words : List ℕ) (from p : ℕ) → s.end ≤ length s.context.line
    → BitsOf s words → s.start ≤ from → ((q : ℕ) → s.start ≤ q → q < from → is_taken s q ≡ true)
    → IsFirstClear words from s.end p → IsFirstPresent s p
first_by_bits s words from p inside bits above passed first = grind (arith, cases_lt)

-- what chains passed is in another set too, where that has all of the line that is in the first
pub behind_since : (line : List Arg) (old new : ℕ → Bool) (chains : Option Chained)
    → ((q : ℕ) → q < length line → old q ≡ true → new q ≡ true)
    → IfSome chains (AreBehind line old) → IfSome chains (AreBehind line new)
behind_since line old new chains grown h = grind arith

-- chains that stand behind nothing are those of any situation on the line
pub chains_anew : (s : Situation) (chains : Option Chained)
    → IfSome chains (AreBehind s.context.line (λ p. false)) → IfSome chains (AreChainsOf s)
chains_anew s chains h =
    behind_since s.context.line (λ p. false) (is_taken s) chains (λ q within e. cc) h

-- chains that begin no later don't stand behind a place that is taken no more
pub chains_untake : (s : Situation) (p : ℕ) (old new : Option Chained)
    → IfSome old (AreChainsOf (put s p)) → IfChained (ReachBack p) old new
    → IfSome new (AreChainsOf s)
chains_untake s p old new h back = grind (arith, put_other, cases_eq)

-- a state with other bits and another trail, counted anew, and what is kept of a left scope
abbrev pub with_parts : Inside → List ℕ → Vec ℕ Global → ℕ → ℕ → ℕ → Option Chained → Aside → Inside
with_parts s words trail left first behind chains aside =
    record s {
      bits = with_items s.bits words;
      trail = trail;
      left = left;
      first = first;
      behind = behind;
      chains = chains;
      aside = aside;
    }

-- the bit of a place that is changed in the words of a state, which have as many items then
pub bit_written : (s : Inside) (p : ℕ) (bit : Bool) (old new : List ℕ) → old ≡ s.bits.items
    → ChangesBit old new p bit
    → ChangesBit s.bits.items new p bit × ((with_items s.bits new).items ≡ new)
bit_written s p bit old new is change = grind (arith, with_items_is)

-- it is sound with one place more
pub sound_put : (s : Inside) (p : ℕ) (words : List ℕ) (trail : Vec ℕ Global)
    (left first behind : ℕ) (chains : Option Chained) → IsSound s
    → is_taken (situation_of s) p ≡ false → ChangesBit s.bits.items words p true
    → trail.items ≡ s.trail.items ++ p ∷ [] → vec_capacity s.trail ≤ vec_capacity trail
    → left ≡ s.left - from_bool (in_scope (situation_of s) p)
    → IsFirstClear words s.first s.end first → behind ≤ length s.items.items
    → ((q : ℕ) → s.behind ≤ q → q < behind → has_bit words q ≡ true)
    → IfSome chains (AreBehind s.items.items (has_bit words))
    → IsSound (with_parts s words trail left first behind chains s.aside)
sound_put s p words trail left first behind chains h free change pushed grown counted next inside
    set passed =
    let old = situation_of s in
    let new = put old p in
    let written : (with_items s.bits words).items ≡ words = with_items_is s.bits words
    (change.kept ∙ sym s.bits.ok.0) in
    let bits : BitsOf new words = bits_put old s.bits.items words p h.bits change in
    let fewer = open_count-put old p free in
    subst (IsSoundAt (with_parts s words trail left first behind chains s.aside))
    (ap (with_trail old) (sym pushed)) (record {
      bit_for_each = rw written (omega (arith, h.bit_for_each, change.kept));
      bits = rw written bits;
      room = omega (arith, h.room);
      in_turn = in_turn_put old p h.in_turn free;
      ordered = h.ordered;
      inside = h.inside;
      counted = omega (arith, h.counted);
      first = first_by_bits new words s.first first h.inside bits h.first.from
          (λ q lower upper. put_stays old p q (h.first.passed q lower upper)) next;
      aside = remembers_put old p s.aside h.aside;
      chained = behind_since new.context.line (has_bit words) (is_taken new) chains
          (λ q within set. sym (bits q within) ∙ set) passed;
      keyless = h.keyless;
      behind = λ q low high. ⊎_elim
          (λ (before : q < s.behind). put_stays old p q (h.behind q low before))
          (λ (past : s.behind ≤ q). sym (bits q (omega arith)) ∙ set q past high)
          (cases_lt q s.behind);
      behind_inside = inside;
      named = h.named;
    })

-- a place that is pushed onto the trail of a sound state is on it, since the trail has room for it
pub pushed_place : (s : Inside) (p : ℕ) (trail : Vec ℕ Global) (pushed : Bool) → IsSound s
    → is_taken (situation_of s) p ≡ false → (vec_len s.trail < vec_capacity s.trail → pushed ≡ true)
    → trail.items ≡ (if pushed then s.trail.items ++ p ∷ [] else s.trail.items)
    → trail.items ≡ s.trail.items ++ p ∷ []
pushed_place s p trail pushed h free succeeds is = is ∙ cond-true pushed _ _ (succeeds
    (omega (arith, s.trail.ok.0, h.room, room_on_trail (situation_of s) p h.in_turn free)))

-- the bits of a situation with one place fewer
bits_untake : (s : Situation) (old new : List ℕ) (p : ℕ) → BitsOf (put s p) old
    → ChangesBit old new p false → is_taken s p ≡ false → BitsOf s new
bits_untake s old new p bits change free q within = grind (arith, put_other, cases_eq)

-- it is sound without the last place
pub sound_untake : (s : Inside) (p : ℕ) (words : List ℕ) (trail : Vec ℕ Global)
    (left first behind : ℕ) (aside : Aside) (chains : Option Chained) → IsSound s
    → 0 < length s.trail.items → p ≡ slice_index s.trail.items (length s.trail.items - 1)
    → ChangesBit s.bits.items words p false
    → trail.items ≡ take (length s.trail.items - 1) s.trail.items
    → vec_capacity s.trail ≤ vec_capacity trail
    → left ≡ s.left + from_bool (in_scope (situation_of s) p)
    → first ≡ (if in_scope (situation_of s) p then min s.first p else s.first)
    → behind ≡ (if nat_le s.keys_end p then min s.behind p else s.behind)
    → aside ≡ (if nat_le s.aside.taken (length s.trail.items - 1) then s.aside else no_aside)
    → IfChained (ReachBack p) s.chains chains
    → IsSound (with_parts s words trail left first behind chains aside)
sound_untake s p words trail left first behind aside chains h some last change shorter same counted
    next reached kept back =
    let old = situation_of s in
    let n = length s.trail.items - 1 in
    let new = cut_to old n in
    let was : IsSoundAt s (put new p) = subst (IsSoundAt s)
    (sym (ap (put new) last ∙ last_put old some)) h in
    let free : is_taken new p ≡ false = ap (is_taken new) last ∙ h.in_turn n (omega arith) in
    let written : (with_items s.bits words).items ≡ words = with_items_is s.bits words
    (change.kept ∙ sym s.bits.ok.0) in
    let more = open_count-put new p free in
    subst (IsSoundAt (with_parts s words trail left first behind chains aside))
    (ap (with_trail old) (sym shorter)) (record {
      bit_for_each = rw written (omega (arith, h.bit_for_each, change.kept));
      bits = rw written (bits_untake new s.bits.items words p was.bits change free);
      room = omega (arith, h.room);
      in_turn = in_turn_cut old n h.in_turn (omega arith);
      ordered = h.ordered;
      inside = h.inside;
      counted = omega (arith, was.counted);
      first = rw next (first_without new p s.first was.first free);
      aside = rw kept (remembers_cut old n s.aside (omega arith) h.aside);
      chained = chains_untake new p s.chains chains was.chained back;
      keyless = h.keyless;
      behind = λ q low high.
          let early = passed_early s.keys_end s.behind p behind q reached low high in
          sym (put_other new p q early.1) ∙ was.behind q low early.0;
      behind_inside = at_most s.keys_end s.behind p behind (length s.items.items) reached
          h.behind_inside;
      named = h.named;
    })
  where
    passed_early : (keys was p behind q : ℕ) → behind ≡ (if nat_le keys p then min was p else was)
        → keys ≤ q → q < behind → (q < was) × (q ≢ p)
    passed_early keys was p behind q reached low high = grind (arith, nat_tests)

    at_most : (keys was p behind end : ℕ)
        → behind ≡ (if nat_le keys p then min was p else was) → was ≤ end → behind ≤ end
    at_most keys was p behind end reached inside = grind (arith, nat_tests)

-- the places of a scope that are clear are those that are open in it
count_clear-open : (s : Situation) (words : List ℕ) (start end : ℕ) → BitsOf s words → end
    ≤ length s.context.line → count_clear words start end ≡ open_count (with_scope s start end)
count_clear-open s words start end bits inside =
    let set = is_open (with_scope s start end) in
    count_below-same (is_clear_from words start) set end
    (λ q within. ap (λ b. nat_le start q && not b) (bits q (omega arith))
    ∙ in_it start end q (is_taken s q) within)
    ∙ sym (count_below-cut set end (length s.context.line) inside
    (λ q past _. and_left _ _ (and_right _ _ (le-ltb q end past))))
  where
    in_it : (start end q : ℕ) (taken : Bool) → q < end
        → (nat_le start q && not taken) ≡ ((nat_le start q && nat_lt q end) && not taken)
    in_it start end q taken within = grind (arith, nat_tests)

module _ (i : Inside) (s : Situation) (h : IsSoundAt i s) where
  -- the bit of the first place isn't set with one place more, where that isn't the place
  pub clear_first : (p : ℕ) (words : List ℕ) → ChangesBit i.bits.items words p true
      → i.first < s.end → i.first ≢ p → has_bit words i.first ≡ false
  clear_first p words change below other = change.others i.first other
      ∙ (h.bits i.first (omega (arith, h.inside)) ∙ h.first.present below)

  -- with one place more the bits of what the chains passed are set
  pub behind_put : (p : ℕ) (words : List ℕ) → ChangesBit i.bits.items words p true
      → IfSome i.chains (AreBehind s.context.line (has_bit words))
  behind_put p words change = grind (arith, behind_since, bits_put, put_stays)

  -- what is subtracted from the count of those left is no more than they are
  pub left_enough : (p n : ℕ) → is_taken s p ≡ false → n ≡ from_bool (in_scope s p) → n ≤ i.left
  left_enough p n free e = omega (arith, h.counted, open_count-put s p free)

  -- with one place fewer the count of those left fits too
  pub left_below_count : (p n : ℕ) → 0 < length s.trail
      → p ≡ slice_index s.trail (length s.trail - 1) → n ≡ from_bool (in_scope s p)
      → i.left + n ≤ length s.context.line
  left_below_count p n some last is =
      let new = cut_to s (length s.trail - 1) in
      let free : is_taken new p ≡ false = ap (is_taken new) last
      ∙ h.in_turn (length s.trail - 1) (omega arith) in
      omega (
        arith,
        h.counted,
        ap open_count (ap (put new) last ∙ last_put s some),
        open_count-put new p free,
        count_below-most (is_open new) (length s.context.line),
      )

  -- a count by the bits is that of another scope
  pub survey_counted : (start end left first : ℕ) → start ≤ end → end ≤ length s.context.line
      → left ≡ count_clear i.bits.items start end
      → IsFirstClear i.bits.items start end first → IsSurvey s start end left first
  survey_counted start end left first ordered inside counted clear =
      grind (arith, count_clear-open, first_by_bits)

  module _ (start end gone : ℕ) (same : (i.aside.start == start && i.aside.end == end) ≡ true)
      (counted : gone ≡ count_within start end (drop i.aside.taken s.trail)) where
    -- the places of the remembered scope that were present are those that are so and those taken
    -- since
    left_then : open_count (with_scope s start end) + gone ≡ i.aside.left
    left_then =
        let scope : (i.aside.start ≡ start) × (i.aside.end ≡ end) = grind (arith, nat_tests) in
        omega (
          arith,
          counted,
          count_since s start end h.in_turn (length s.trail - i.aside.taken) i.aside.taken
              (omega (arith, h.aside.taken)),
          rw (scope.0, scope.1) at h.aside.survey.counted,
        )

    -- no more places of it were taken since than were present
    pub gone_were_left : gone ≤ i.aside.left
    gone_were_left = omega (arith, left_then)

    -- what is remembered of it, without those, is so now
    pub survey_recalled : (first : ℕ) → end ≤ length s.context.line
        → IsFirstClear i.bits.items i.aside.first end first
        → IsSurvey s start end (i.aside.left - gone) first
    survey_recalled first inside clear =
        grind (arith, nat_tests, left_then, first_by_bits, taken_since)

  -- it is sound with other conflict notes, and another path that begins with the set name
  pub sound_path : (conflicts : Vec (ℕ × ℕ) Global) (path : Vec (String Global) Global)
      → IfSome s.context.name (λ n. slice_get (map string_bytes path.items) 0 ≡ Some n)
      → IsSoundAt (record i { conflicts = conflicts; path = path })
      (record s { conflicts = conflicts.items; path = map string_bytes path.items })
  sound_path conflicts path named = assumption (named, h)

  -- an open place is not that of the marker, so its item is the one that the line has there
  pub open_item_is : (p : ℕ) (item : Arg) → is_open s p ≡ true
      → item ≡ get_or s.context.line p item → open_item s p ≡ Some item
  open_item_is p item o there =
      let no_marker : is_marker s.context.marker p ≡ false = not_marker
      (not (nat_lt p (length s.context.line))) (is_marker s.context.marker p)
      (is_on s.trail p) (open_not_taken s p o) in
      rw (o, no_marker, slice_get-get_or s.context.line p item (open_in_line s p o), ← there) refl
    where
      not_marker : (past marker on : Bool) → (past || (marker || on)) ≡ false → marker ≡ false
      not_marker past marker on e = grind arith

  -- no place is open where a walk begins behind the scope, or no place of the scope is present
  pub none_behind : (from : ℕ) → s.end ≤ max from i.first → HasNoneOpen s from
  none_behind from past q lower =
      none_there s.start s.end i.first from q (is_taken s q) (h.first.passed q) past lower
    where
      none_there : (low high first from q : ℕ) (taken : Bool)
          → (low ≤ q → q < first → taken ≡ true) → high ≤ max from first → from ≤ q
          → ((nat_le low q && nat_lt q high) && not taken) ≡ false
      none_there low high first from q taken passed past lower = grind (arith, nat_tests)

-- what is read at the trail's end is its last place
pub last_read : (s : Inside) (n p : ℕ) → n ≡ vec_len s.trail → 0 < length s.trail.items → p
    ≡ get_or s.trail.items (n - 1) p → p ≡ slice_index s.trail.items (length s.trail.items - 1)
last_read s n p is some read = grind (arith, get_or_read, get_or)

-- a path that is cut begins with the set name, where it is not cut to nothing
pub path_cut : (name : Option (List ℕ)) (path : List (List ℕ)) (n : ℕ)
    → IfSome name (λ set. slice_get path 0 ≡ Some set) → IfSome name (λ _. 1 ≤ n)
    → IfSome name (λ set. slice_get (take n path) 0 ≡ Some set)
path_cut None path n begins some = tt
path_cut (Some set) [] n begins some = cc
path_cut (Some set) (entry ∷ path) zero begins some = absurd (omega arith)
path_cut (Some set) (entry ∷ path) (suc n) begins some = begins

-- a longer path begins with the set name, where the path does
pub path_longer : (name : Option (List ℕ)) (path more : List (List ℕ))
    → IfSome name (λ set. slice_get path 0 ≡ Some set)
    → IfSome name (λ set. slice_get (path ++ more) 0 ≡ Some set)
path_longer None path more begins = tt
path_longer (Some set) [] more begins = cc
path_longer (Some set) (entry ∷ path) more begins = begins

-- a state of the same situation, with equal bits and first place, is sound too
pub sound_copy : (i j : Inside) → situation_of i ≡ situation_of j → i.keys_end ≡ j.keys_end
    → i.behind ≡ j.behind → IfSome i.chains (AreBehind j.items.items (λ p. false))
    → i.bits.items ≡ j.bits.items → i.left ≡ j.left → i.first ≡ j.first → i.aside ≡ no_aside
    → length j.items.items ≤ vec_capacity i.trail → IsSound j → IsSound i
sound_copy i j same keys behind chains words left first aside room h =
    let there = situation_of j in
    subst (IsSoundAt i) (sym same) (record {
      bit_for_each = rw words h.bit_for_each;
      bits = rw words h.bits;
      room = room;
      in_turn = h.in_turn;
      ordered = h.ordered;
      inside = h.inside;
      counted = left ∙ h.counted;
      first = rw first h.first;
      aside = rw aside (remembers_nothing there);
      chained = chains_anew there i.chains chains;
      keyless = rw keys h.keyless;
      behind = rw (keys, behind) h.behind;
      behind_inside = rw behind h.behind_inside;
      named = h.named;
    })

-- How a run begins: its line, and a sound state.

-- at the beginning of a run all places of the line are present but that of the marker
pub taken_at_beginning : (context : Context) (p : ℕ) → is_taken (beginning context) p
    ≡ not (is_dealt_place context p)
taken_at_beginning context p = grind arith

-- the bits at the beginning are those of the marker
bits_beginning : (context : Context) (words : List ℕ)
    → ((p : ℕ) → has_bit words p ≡ is_marker context.marker p) → BitsOf (beginning context) words
bits_beginning context words bits p within = grind (arith, nat_tests)

-- how a run begins whose line has its marker at this place
abbrev start_with : Context → Option ℕ → Situation
start_with context marker = beginning (record context { marker = marker })

-- how many places are present there: all of the line but that of the marker
open_count-start : (context : Context) (marker : Option ℕ)
    → IfSome marker (λ p. p < length context.line) → open_count (start_with context marker)
    ≡ length context.line - from_bool (is_some marker)
open_count-start context None inside =
    let all : open_count (start_with context None) ≡ length context.line = count_below-all
    (is_open (start_with context None)) (length context.line) (λ q within. open_at q within) in
    omega arith
  where
    open_at : (q : ℕ) → q < length context.line → is_open (start_with context None) q ≡ true
    open_at q within = grind (arith, nat_tests)
open_count-start context (Some m) below =
    let start = start_with context (Some m) in
    let one_fewer = count_below-fewer (λ q. nat_lt q (length context.line)) (is_open start)
    (length context.line) m below (lt-ltb m (length context.line) below)
    (and_right _ _ (ap not (or_right (not (nat_lt m (length context.line))) _
    (or_left (m == m) false (eq-eqb m m refl))))) (λ q other. like_it q other) in
    omega (
      arith,
      one_fewer,
      count_below-all (λ q. nat_lt q (length context.line))
          (length context.line) (λ q within. lt-ltb q (length context.line) within),
    )
  where
    like_it : (q : ℕ) → q ≢ m → nat_lt q (length context.line)
        ≡ is_open (start_with context (Some m)) q
    like_it q other = grind (arith, nat_tests)

-- the first path begins with the set name
path_begins : (name : Option (List ℕ)) → IfSome name
    (λ n. slice_get (option_to_list name) 0 ≡ Some n)
path_begins None = tt
path_begins (Some n) = refl

-- a state at the beginning is sound, with right bits, count of open places and first one
pub sound_beginning : (i : Inside) (context : Context) → situation_of i ≡ beginning context
    → IfSome context.marker (λ p. p < length context.line)
    → length context.line ≤ 64 * length i.bits.items
    → ((p : ℕ) → has_bit i.bits.items p ≡ is_marker context.marker p)
    → length context.line ≤ vec_capacity i.trail
    → i.left ≡ length context.line - from_bool (is_some context.marker)
    → IsFirstClear i.bits.items 0 (length context.line) i.first
    → HasNoKeyFrom context.line i.keys_end
    → IfSome i.chains (AreBehind context.line (λ p. false)) → i.aside ≡ no_aside → i.behind
    ≡ i.keys_end
    → i.keys_end ≤ length context.line → IsSound i
sound_beginning i context e marker_inside bit_for_each bits room left clear keyless behind aside
    none
    within =
    let start = beginning context in
    let set : BitsOf start i.bits.items = bits_beginning context i.bits.items bits in
    subst (IsSoundAt i) (sym e) (record {
      bit_for_each = bit_for_each;
      bits = set;
      room = room;
      in_turn = λ n within. absurd (omega arith);
      ordered = omega arith;
      inside = omega arith;
      counted = left ∙ sym (open_count-start context context.marker marker_inside);
      first = first_by_bits start i.bits.items 0 i.first (omega arith) set (omega arith)
          (λ q lower upper. absurd (omega arith)) clear;
      aside = rw aside (remembers_nothing start);
      chained = chains_anew start i.chains behind;
      keyless = keyless;
      behind = λ q low high. absurd (omega arith);
      behind_inside = rw none within;
      named = path_begins context.name;
    })

-- a state whose fields are those of the beginning is at the beginning
pub begins : (i : Inside) (context : Context) → i.items.items ≡ context.line → i.marker
    ≡ context.marker → shared_entries i.env ≡ context.env → i.name ≡ context.name
    → i.trail.items ≡ [] → i.conflicts.items ≡ [] → i.start ≡ 0 → i.end ≡ length context.line
    → map string_bytes i.path.items ≡ option_to_list context.name → i.current ≡ None
    → situation_of i ≡ beginning context
begins i context a m b c trail conflicts e f g h =
    rw (a, m, b, c, trail, conflicts, e, f, g, h) refl
