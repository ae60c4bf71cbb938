-- Places: what a place changes that is put on the trail, or taken off it, which present one is the
-- first that passes a test, and which is the first key or word along the chains of those. The
-- layers above cite the lemmas on a place that is taken.
use Rattle.std.proofs.Common.{◌≡◌, ◌≢◌, ℕ, zero, suc, ◌+◌, ◌-◌, ◌<◌, ◌≤◌, Bool, true, false, not}
use Rattle.std.proofs.Common.{◌&&◌, ◌||◌, [], ◌∷◌, ◌++◌, length, take, refl, ap, sym, ◌∙◌, subst}
use Rattle.std.proofs.Common.{arith, if◌then◌else◌, ⊎_elim, nat_lt, slice_index, add-one, min, List}
use Rattle.std.proofs.Common.{Option, Some, None, option_and_then, slice_get, get_or, find, nat_le}
use Rattle.std.proofs.lemmas.Bool.{cases_lt, cases_eq, eq-eqb, or_right, and_left, and_right}
use Rattle.std.proofs.lemmas.Bool.{and_from, and_parts, not-true, cases_Bool, true≢false, ltb-true}
use Rattle.std.proofs.lemmas.List.{take_at, take-take, take-append-le, get_or_push}
use Rattle.std.proofs.lemmas.List.{get_or_append_left, get_or-take, length_push, length-take-le}
use Rattle.bpaf_line.specs.Situation.{Situation, is_on, is_taken, is_marker, in_scope, is_open}
use Rattle.bpaf_line.specs.Situation.{open_count, take_place, with_trail, cut_to, TakenInTurn}
use Rattle.bpaf_line.specs.Situation.{IsFirstPresent, item_at, IsNextOpen, HasNoneOpen}
use Rattle.bpaf_line.specs.Taking.{is_match, open_item, value_after, open_items_from, HasNoneBefore}
use Rattle.bpaf_base.proofs.Count.{count_below-same, count_below-fewer, count_below-some}
use Rattle.bpaf_index.specs.Chained.{Chained, names_of, IsChainStart, IsChainStartOf, HasWalked}
use Rattle.std.proofs.lemmas.Bool.{ltb-false, le-ltb, lt-leb}
use Rattle.std.proofs.{lemmas.List.take_more, lemmas.List.take_all, lemmas.Option.slice_get-get_or}
use Rattle.std.proofs.{lemmas.List.Folds.list_any-append, lemmas.Bool.Decides.nat_tests}
use Rattle.std.proofs.Common.{MatchOption}
use Rattle.bpaf_line.specs.Situation.{first_present, IsFirstPresentWithin, AreTaken}
use Rattle.bpaf_line.specs.Taking.{IsFirstAmong, IsFirstAlong, HasNone, IsFirst}
use Rattle.bpaf_line.specs.Inside.{AreChainsOf}
use Rattle.bpaf_base.specs.declared.arg.Arg.TheVariants.{ArgWord, Word, PosWord}
use Rattle.bpaf_base.specs.Items.{value_text, any_item, is_key_of, is_argument_key, is_positional}
use Rattle.bpaf_base.specs.{declared.arg.Arg.Arg, Count.count_below}
use Rattle.bpaf_base.proofs.Count.{count_below-most}
use Rattle.bpaf_index.proofs.Chained.{same_class, early_set}
use Rattle.bpaf_index.proofs.BitSets.{is_on_push, on_others}
use Rattle.bpaf_index.specs.{Chained.HasNoKeyFrom, Chained.class_of, Bits.IsFirstWith}
use Rattle.std.specs.{Option.option_map_or, List.range_with_len, Bool.then_some, Int.from_bool}
use Rattle.std.specs.Prelude.{cond}
use Rattle.bpaf_doc.specs.Names.{Names}

-- a present place of the scope lies in the scope
pub open_in_scope : (s : Situation) (p : ℕ) → is_open s p ≡ true → (s.start ≤ p) × (p < s.end)
open_in_scope s p there = grind (arith, nat_tests)

-- a present place of the scope lies in the line
pub open_in_line : (s : Situation) (p : ℕ) → is_open s p ≡ true → p < length s.context.line
open_in_line s p there = grind (arith, nat_tests)

-- a present place of the scope is not taken
pub open_not_taken : (s : Situation) (p : ℕ) → is_open s p ≡ true → is_taken s p ≡ false
open_not_taken s p there =
    not-true (is_taken s p) (and_parts (in_scope s p) (not (is_taken s p)) there).1

-- the situation with one place more on the trail
abbrev pub put : Situation → ℕ → Situation
put s p = with_trail s (s.trail ++ p ∷ [])

-- a place that was put on the trail is taken
pub put_here : (s : Situation) (p : ℕ) → is_taken (put s p) p ≡ true
put_here s p = grind (arith, or_right, is_on_push, eq-eqb)

-- the other places are as they were
pub put_other : (s : Situation) (p q : ℕ) → q ≢ p → is_taken (put s p) q ≡ is_taken s q
put_other s p q other = grind (arith, on_others)

-- a place that isn't taken lies in the line
pub present_in_line : (s : Situation) (p : ℕ) → is_taken s p ≡ false → p < (length s.context.line)
present_in_line s p free = grind (arith, nat_tests)

-- one place fewer is present in scope where the place that was put lies there, and else as many
pub open_count-put : (s : Situation) (p : ℕ) → is_taken s p ≡ false
    → open_count (put s p) + from_bool (in_scope s p) ≡ open_count s
open_count-put s p free = by_scope (in_scope s p) refl
  where
    same_open : (q : ℕ) → q ≢ p → is_open s q ≡ is_open (put s p) q
    same_open q other = ap (λ t. in_scope s q && not t) (sym (put_other s p q other))

    closed : is_open (put s p) p ≡ false
    closed = and_right (in_scope s p) _ (ap not (put_here s p))

    same_all : (f g : ℕ → Bool) (q : ℕ) → f p ≡ false → g p ≡ false → (q ≢ p → f q ≡ g q)
        → g q ≡ f q
    same_all f g q lacks lacking other = grind arith

    by_scope : (b : Bool) → in_scope s p ≡ b → open_count (put s p) + from_bool b ≡ open_count s
    by_scope true e =
        count_below-fewer (is_open s) (is_open (put s p)) (length s.context.line) p
        (present_in_line s p free) (and_from (in_scope s p) _ e (ap not free)) closed same_open
    by_scope false e =
        let same = count_below-same (is_open (put s p)) (is_open s) (length s.context.line)
        (λ q _. same_all (is_open s) (is_open (put s p)) q (and_left (in_scope s p) _ e) closed
        (same_open q)) in
        omega arith

-- each place of a longer trail was present in its turn, where the old ones were, and the last is
pub in_turn_put : (s : Situation) (p : ℕ) → TakenInTurn s → is_taken s p ≡ false
    → TakenInTurn (put s p)
in_turn_put s p turns free n within =
    ⊎_elim
    (λ (below : n < length s.trail).
    rw (
      take-append-le n s.trail (p ∷ []) (omega arith),
      get_or_append_left s.trail (p ∷ []) 0 n below,
    ) (turns n below))
    (λ (past : length s.trail ≤ n).
    let last : n ≡ length s.trail = omega (arith, length_push s.trail p) in
    rw (take_at s.trail (p ∷ []) n (sym last), get_or_push s.trail p 0 n (sym last)) free)
    (cases_lt n (length s.trail))

-- the places that aren't taken and those on the trail are as many as the line has at most
pub on_trail_at_most : (s : Situation) → TakenInTurn s → (n : ℕ) → n ≤ length s.trail
    → count_below (λ p. not (is_taken (cut_to s n) p)) (length s.context.line) + n ≤
    (length s.context.line)
on_trail_at_most s turns zero within = omega
    (arith, count_below-most (λ p. not (is_taken (cut_to s 0) p)) (length s.context.line))
on_trail_at_most s turns (suc n) within =
    let before = on_trail_at_most s turns n (omega arith) in
    let p = slice_index s.trail n in
    let free = turns n (omega arith) in
    let next : take (suc n) s.trail ≡ take n s.trail ++ p ∷ [] = ap (λ k. take k s.trail)
    (sym (add-one n)) ∙ take_more s.trail n 0 (omega arith) in
    let fewer = count_below-fewer (λ q. not (is_taken (cut_to s n) q))
    (λ q. not (is_taken (put (cut_to s n) p) q)) (length s.context.line) p
    (present_in_line (cut_to s n) p free) (ap not free)
    (ap not (put_here (cut_to s n) p)) (λ q other. ap not (sym (put_other (cut_to s n) p q other)))
    in
    rw next (omega arith)

-- a present place has room on the trail
pub room_on_trail : (s : Situation) (p : ℕ) → TakenInTurn s → is_taken s p ≡ false
    → length s.trail < (length s.context.line)
room_on_trail s p turns free =
    let most = on_trail_at_most s turns (length s.trail) (omega arith) in
    let whole : take (length s.trail) s.trail ≡ s.trail = take_all (length s.trail) s.trail
    (omega arith) in
    let most_now : count_below (λ q. not (is_taken s q)) (length s.context.line) + length s.trail ≤
    (length s.context.line) = subst
    (λ xs. count_below (λ q. not (is_taken (with_trail s xs) q)) (length s.context.line) +
    length s.trail ≤ (length s.context.line)) whole most in
    omega (
      arith,
      count_below-some (λ q. not (is_taken s q)) (length s.context.line) p
          (present_in_line s p free) (ap not free),
    )

-- what is taken stays so
pub put_stays : (s : Situation) (p q : ℕ) → is_taken s q ≡ true → is_taken (put s p) q ≡ true
put_stays s p q there = ⊎_elim (λ (at : q ≡ p). ap (is_taken (put s p)) at ∙ put_here s p)
    (λ (other : q ≢ p). put_other s p q other ∙ there) (cases_eq q p)

-- without its last place the trail is that place's turn
pub last_put : (s : Situation) → 0 < length s.trail
    → put (cut_to s (length s.trail - 1)) (slice_index s.trail (length s.trail - 1)) ≡ s
last_put s some = grind (arith, take_more, take_all)

-- the places of a part of the trail were present in their turn too
pub in_turn_cut : (s : Situation) (n : ℕ) → TakenInTurn s → n ≤ length s.trail
    → TakenInTurn (cut_to s n)
in_turn_cut s n turns inside k within = grind (arith, length-take-le, take-take, get_or-take)

-- without the place that was put, the first present one is it or the old one
pub first_without : (s : Situation) (p first : ℕ) → IsFirstPresent (put s p) first
    → is_taken s p ≡ false → IsFirstPresent s (if in_scope s p then min first p else first)
first_without s p first old free =
    earlier (is_taken s) (is_taken (put s p)) (put_here s p) (put_other s p) free s.start s.end old
  where
    earlier : (f g : ℕ → Bool) → g p ≡ true → ((q : ℕ) → q ≢ p → g q ≡ f q) → f p ≡ false
        → (low high : ℕ) → IsFirstWith g false low high first → IsFirstWith f false low high
        (if nat_le low p && nat_lt p high then min first p else first)
    earlier f g here others free low high old = record {
      from = grind (arith, nat_tests, old.from);
      within = grind (arith, nat_tests, old.within);
      present = grind (arith, nat_tests, old.within, old.present, others first, here);
      passed = λ q lower upper. grind (arith, nat_tests, old.within, old.passed q lower, others q);
    }

-- a place that was taken is taken
pub taken_here : (s : Situation) (p : ℕ) → is_taken (take_place s p) p ≡ true
taken_here s p = put_here s p

-- the other places are as they were
pub taken_other : (s : Situation) (p q : ℕ) → q ≢ p → is_taken (take_place s p) q ≡ is_taken s q
taken_other s p q other = put_other s p q other

-- what was taken stays taken
pub taken_stays : (s : Situation) (p q : ℕ) → is_taken s q ≡ true
    → is_taken (take_place s p) q ≡ true
taken_stays s p q taken = put_stays s p q taken

-- an open item is the item of its place, which is open
pub open_item_there : (s : Situation) (p : ℕ) (item : Arg) → open_item s p ≡ Some item
    → (is_open s p ≡ true) × (item_at s p ≡ Some item)
open_item_there s p item there = grind arith

module _ (test : Arg → Bool) (s : Situation) (p : ℕ) (matches : is_match test s p ≡ true) where
  -- both hold where an item under a condition passes the test
  both_of : (b : Bool) (at : Option Arg) → option_map_or test (if b then at else None) false ≡ true
      → (b ≡ true) × (option_map_or test at false ≡ true)
  both_of b at e = grind arith

  -- a match is present, and in scope
  pub match_is_open : is_open s p ≡ true
  match_is_open = (both_of (is_open s p) (item_at s p) matches).0

  -- the item of a match passes the test
  pub match_has_item : option_map_or test (item_at s p) false ≡ true
  match_has_item = (both_of (is_open s p) (item_at s p) matches).1

-- a place that is present and in scope has an item
pub open_has_item : (s : Situation) (p : ℕ) → is_open s p ≡ true → is_match any_item s p ≡ true
open_has_item s p there =
    has (is_open s p) (nat_lt p (length s.context.line)) (is_marker s.context.marker p)
    (is_on s.trail p) there (open_not_taken s p there)
    (slice_get s.context.line p) (get_or s.context.line p (ArgWord []))
    (slice_get-get_or s.context.line p (ArgWord []) (open_in_line s p there))
  where
    has : (b within marker on : Bool) → b ≡ true → (not within || (marker || on)) ≡ false
        → (at : Option Arg) (item : Arg) → at ≡ Some item
        → option_map_or any_item (if b then (if marker then None else at) else None) false ≡ true
    has b within marker on e free at item is = grind arith

-- the place behind a key with a value is present and in scope, and has this text
pub value_is_open : (s : Situation) (p : ℕ) (text : List ℕ) → value_after s p ≡ Some text
    → (is_open s (p + 1) ≡ true) × (option_and_then value_text (item_at s (p + 1)) ≡ Some text)
value_is_open s p text value = grind arith

-- a place that is open is the first of those from it on
pub items_from : (s : Situation) (p : ℕ) (item : Arg) → p < length s.context.line
    → open_item s p ≡ Some item → open_items_from s p ≡ (p, item) ∷ open_items_from s (p + 1)
items_from s p item within there = grind arith

-- a place that isn't open is none of them
pub items_past : (s : Situation) (p : ℕ) → p < length s.context.line → open_item s p ≡ None
    → open_items_from s p ≡ open_items_from s (p + 1)
items_past s p within lacking = grind arith

-- the line's end has none behind it
none_past_line : (s : Situation) (p : ℕ) → length s.context.line ≤ p → open_items_from s p ≡ []
none_past_line s p past = let none : length s.context.line - p ≡ 0 = omega arith in rw none refl

-- a place that isn't open is none of them, also past the line
items_past_closed : (s : Situation) (p : ℕ) → is_open s p ≡ false
    → open_items_from s p ≡ open_items_from s (p + 1)
items_past_closed s p closed = grind (arith, items_past, none_past_line, cases_lt)

-- places one after another that aren't open are none of the open items
items_past_all : (s : Situation) (n p : ℕ) → ((q : ℕ) → p ≤ q → q < p + n → is_open s q ≡ false)
    → open_items_from s p ≡ open_items_from s (p + n)
items_past_all s zero p closed = let none : p + 0 ≡ p = omega arith in ap (open_items_from s)
    (sym none)
items_past_all s (suc n) p closed =
    let next : p + suc n ≡ (p + n) + 1 = omega arith in
    let before : open_items_from s p ≡ open_items_from s (p + n) = items_past_all s n p
    (λ q lower upper. closed q lower (omega arith)) in
    before ∙ (items_past_closed s (p + n) (closed (p + n) (omega arith) (omega arith))
    ∙ sym (ap (open_items_from s) next))

-- the next open place is the first of those from one on
pub items_next : (s : Situation) (low p : ℕ) (item : Arg) → IsNextOpen s low p
    → open_item s p ≡ Some item → open_items_from s low ≡ (p, item) ∷ open_items_from s (p + 1)
items_next s low p item next there =
    let far : low + (p - low) ≡ p = omega (arith, next.from) in
    let passed : open_items_from s low ≡ open_items_from s (low + (p - low)) = items_past_all s
    (p - low) low (λ q lower upper. next.passed q lower (omega (arith, next.from))) in
    passed ∙ (ap (open_items_from s) far
    ∙ items_from s p item (open_in_line s p next.present) there)

-- where no place from one on is open there are none
pub items_none : (s : Situation) (low : ℕ) → HasNoneOpen s low → open_items_from s low ≡ []
items_none s low none =
    items_past_all s (length s.context.line) low (λ q lower upper. none q lower)
    ∙ none_past_line s (low + length s.context.line) (omega arith)

-- no number of a row passes a test
none_found : (test : ℕ → Bool) (n low : ℕ) → ((q : ℕ) → low ≤ q → q < low + n → test q ≡ false)
    → find test (range_with_len low n) ≡ None
none_found test zero low fails = refl
none_found test (suc n) low fails =
    ap (λ x. cond x (Some low) (find test (range_with_len (low + 1) n)))
    (fails low (omega arith) (omega arith))
    ∙ none_found test n (low + 1) (λ q from within. fails q (omega arith) (omega arith))

-- the first number of a row that passes a test
first_found : (test : ℕ → Bool) (n low p : ℕ) → low ≤ p → p < low + n → test p ≡ true
    → ((q : ℕ) → low ≤ q → q < p → test q ≡ false) → find test (range_with_len low n) ≡ Some p
first_found test zero low p from within passes fails = absurd (omega arith)
first_found test (suc n) low p from within passes fails =
    let later = λ (above : low + 1 ≤ p). first_found test n (low + 1) p above (omega arith) passes
    (λ q from before. fails q (omega arith) before) in
    let here = fails low (omega arith) in
    grind arith

-- a place that isn't below the line's end is taken
taken_past : (s : Situation) (q : ℕ) → length s.context.line ≤ q → is_taken s q ≡ true
taken_past s q past = grind (arith, nat_tests)

-- no place is present, where all of the line are taken
pub none_present : (s : Situation) (low high top : ℕ) → top ≡ min high (length s.context.line)
    → ((q : ℕ) → low ≤ q → q < top → is_taken s q ≡ true) → first_present s low high ≡ None
none_present s low high top is taken = grind (arith, none_found, taken_past, cases_lt)

-- the first present place of the line
pub some_present : (s : Situation) (low high top p : ℕ) → top ≡ min high (length s.context.line)
    → p < top → IsFirstPresentWithin s low top p → first_present s low high ≡ Some p
some_present s low high top p is below first =
    first_found (λ q. not (is_taken s q)) (high - low) low p first.from (omega arith)
    (ap not (first.present below)) (λ q from before. ap not (first.passed q from before))

-- Finding: the first key with one of some names, and the first word, along the chains of those.

module _ (test : Arg → Bool) (s : Situation) where
  -- what isn't open passes no test
  none_closed : (q : ℕ) → is_open s q ≡ false → is_match test s q ≡ false
  none_closed q closed = ap (λ b. option_map_or test (if b then item_at s q else None) false) closed

  -- what is taken passes no test
  none_taken : (q : ℕ) → is_taken s q ≡ true → is_match test s q ≡ false
  none_taken q taken = none_closed q (and_right (in_scope s q) _ (ap not taken))

  -- no item in front of the first present place of the scope passes a test
  pub none_in_front : (p : ℕ) → IsFirstPresent s p → HasNoneBefore test s p
  none_in_front p front q below = grind (arith, none_closed, and_left, lt-leb, none_taken, cases_lt)

  -- none passes a test before a place, where none does before an earlier one and all between are
  -- taken
  pub none_past_taken : (p r : ℕ) → HasNoneBefore test s p → AreTaken s p r → HasNoneBefore test s r
  none_past_taken p r none taken q below = ⊎_elim (λ (before : q < p). none q before)
      (λ (behind : p ≤ q). none_taken q (taken q behind below)) (cases_lt q p)

  -- none passes a test before the next place, where none does up to this one
  pub none_up_to : (p : ℕ) → HasNoneBefore test s p → is_match test s p ≡ false
      → HasNoneBefore test s (p + 1)
  none_up_to p none here q below = grind (arith, cases_lt)

-- an open item is the one that the line has there
item_of_line : (s : Situation) (p : ℕ) (item : Arg) → open_item s p ≡ Some item
    → slice_get s.context.line p ≡ Some item
item_of_line s p item there = grind (arith, slice_get, open_item_there)

-- the class of an open item with the name of a key is that of the key
class_named : (s : Situation) (chains : Chained) (key : Arg) (q : ℕ) (item : Arg)
    → AreChainsOf s chains → q < length chains.classes → open_item s q ≡ Some item
    → is_key_of (names_of key) item ≡ true
    → class_of chains.names key ≡ Some (slice_index chains.classes q)
class_named s chains key q item h inside there named =
    sym (same_class chains.names key item named)
    ∙ h.classes q item inside (item_of_line s q item there)

-- no open item of a class stands before the beginning of its chain
open_behind : (s : Situation) (chains : Chained) (class : Option ℕ) (start q : ℕ) (item : Arg)
    → AreChainsOf s chains → IsChainStartOf chains class start → q < length chains.classes
    → class ≡ Some (slice_index chains.classes q) → open_item s q ≡ Some item → start ≤ q
open_behind s chains class start q item h begins inside at there =
    grind (arith, true≢false, early_set, open_not_taken, open_item_there, cases_lt)

-- the first along the chain from that start on is the first with the name
first_named : (test : Arg → Bool) (s : Situation) (chains : Chained) (key : Arg)
    (start end p : ℕ) → AreChainsOf s chains → end ≤ length chains.classes
    → IsChainStart chains key start → IsFirstAlong test s chains.classes start end p
    → IsFirstAmong test (names_of key) s end p
first_named test s chains key start end p h inside begins along = record {
  within = along.within;
  matches = along.matches;
  none = λ q item before there passes. ⊎_elim
      (λ (named : is_key_of (names_of key) item ≡ true).
      let within : q < length chains.classes = omega (arith, along.within) in
      let class = class_named s chains key q item h within there named in
      absurd (true≢false (sym (ap (λ found. option_map_or test found false) there ∙ passes)
      ∙ along.none (slice_index chains.classes q) q (begins.place _ class)
      (open_behind s chains _ start q item h begins within class there) before refl)))
      (λ (other : is_key_of (names_of key) item ≡ false). other)
      (cases_Bool (is_key_of (names_of key) item));
}

-- a walk along a chain that passed what doesn't match found the first, where it ends at the end
pub first_along : (test : Arg → Bool) (s : Situation) (classes : List ℕ) (low end p q : ℕ)
    → HasWalked classes (λ r. not (is_match test s r)) low p → q ≤ p → q ≤ end
    → (q < end → is_match test s q ≡ true) → IsFirstAlong test s classes low end q
first_along test s classes low end p q walked before within matches = grind (arith, not-true)

-- no word is before the first one along the chain of words
pub no_word_along : (s : Situation) (chains : Chained) (start end p : ℕ) → AreChainsOf s chains
    → IsChainStart chains (Word []) start → end ≤ length chains.classes
    → IsFirstAlong is_positional s chains.classes start end p → HasNoneBefore is_positional s p
no_word_along s chains start end p h begins inside along q below = by_item (open_item s q) refl
  where
    within : q < length chains.classes
    within = omega (arith, below, inside, along.within)

    word : (item : Arg) → open_item s q ≡ Some item → class_of chains.names item ≡ Some 0
        → is_positional item ≡ false
    word item there class =
        let at = sym class ∙ h.classes q item within (item_of_line s q item there) in
        sym (ap (λ found. option_map_or is_positional found false) there)
        ∙ along.none (slice_index chains.classes q) q (begins.place _ at)
        (open_behind s chains _ start q item h begins within at there) below refl

    by_item : (at : Option Arg) → open_item s q ≡ at → option_map_or is_positional at false ≡ false
    by_item (Some (Word text)) e = word _ e refl
    by_item (Some (PosWord text)) e = word _ e refl
    by_item _ e = refl

-- a key with the names of two has those of one or of the other
key_of_more : (a b : Names) (item : Arg)
    → is_key_of (record { shorts = a.shorts ++ b.shorts; longs = a.longs ++ b.longs }) item
    ≡ (is_key_of a item || is_key_of b item)
key_of_more a b item = grind (arith, list_any-append {X = ℕ}, list_any-append {X = List ℕ})

-- of one name more, whose chain was walked
pub among_more : (test : Arg → Bool) (names : Names) (key : Arg) (s : Situation) (chains : Chained)
    (start end p next : ℕ) → AreChainsOf s chains → end ≤ length chains.classes
    → IsChainStart chains key start → IsFirstAmong test names s end p
    → IsFirstAlong test s chains.classes start p next
    → IsFirstAmong test (record {
      shorts = names.shorts ++ (names_of key).shorts;
      longs = names.longs ++ (names_of key).longs;
    }) s end next
among_more test names key s chains start end p next h inside begins old along =
    let new = first_named test s chains key start p next h (omega (arith, old.within)) begins along
    in record {
      within = omega (arith, old.within, new.within);
      matches = λ below. ⊎_elim
          (λ (nearer : next < p). new.matches nearer)
          (λ (past : p ≤ next). let at : next ≡ p = omega (arith, new.within) in
          ap (is_match test s) at ∙ old.matches (omega arith))
          (cases_lt next p);
      none = λ q item before there passes. key_of_more names (names_of key) item
          ∙ (ap (λ b. b || is_key_of (names_of key) item)
          (old.none q item (omega (arith, new.within)) there passes)
          ∙ new.none q item before there passes);
    }

-- no key with one of the names is before the first one of these names
pub none_among : (names : Names) (adjacent : Bool) (s : Situation) (end place : ℕ)
    → IsFirstAmong (is_argument_key names adjacent) names s end place
    → HasNoneBefore (is_argument_key names adjacent) s place
none_among names adjacent s end place among q before = none_at (open_item s q) refl
  where
    lacks : (named fits : Bool) → ((named && fits) ≡ true → named ≡ false) → (named && fits) ≡ false
    lacks named fits h = grind arith

    none_at : (at : Option Arg) → open_item s q ≡ at
        → option_map_or (is_argument_key names adjacent) at false ≡ false
    none_at None e = refl
    none_at (Some item) e = lacks (is_key_of names item) _ (among.none q item before e)

-- what stands at a place from which on the line has no key is none
pub no_key_there : (names : Names) (adjacent : Bool) (s : Situation) (low q : ℕ)
    → HasNoKeyFrom s.context.line low → low ≤ q
    → is_match (is_argument_key names adjacent) s q ≡ false
no_key_there names adjacent s low q h above = by_item (open_item s q) refl
  where
    by_item : (at : Option Arg) → open_item s q ≡ at
        → option_map_or (is_argument_key names adjacent) at false ≡ false
    by_item None e = refl
    by_item (Some item) e = and_left (is_key_of names item) _
        (sym (ap (λ found. option_map_or (is_key_of names) found false) (item_of_line s q item e))
        ∙ h.none names q above)

-- no key is past the scope
pub past_scope : (test : Arg → Bool) (s : Situation) (q : ℕ) → s.end ≤ q → is_match test s q ≡ false
past_scope test s q past = ap (λ b. option_map_or test (if b then item_at s q else None) false)
    (and_left (in_scope s q) _ (and_right _ _ (le-ltb q s.end past)))

-- no key is from the lesser of the end of the scope and a place without keys behind it on
pub none_past : (names : Names) (adjacent : Bool) (s : Situation) (low end q : ℕ)
    → HasNoKeyFrom s.context.line low → end ≡ min s.end low → end ≤ q
    → is_match (is_argument_key names adjacent) s q ≡ false
none_past names adjacent s low end q h is past = ⊎_elim
    (λ (before : q < s.end). no_key_there names adjacent s low q h (omega (arith, is)))
    (λ (behind : s.end ≤ q). past_scope (is_argument_key names adjacent) s q behind)
    (cases_lt q s.end)

-- the first match before which none is, and behind which none is
pub key_found : (test : Arg → Bool) (s : Situation) (end place : ℕ) (found : Option ℕ)
    → ((q : ℕ) → end ≤ q → is_match test s q ≡ false) → HasNoneBefore test s place
    → (place < end → is_match test s place ≡ true) → found ≡ then_some (nat_lt place end) place
    → MatchOption found (HasNone test s) (IsFirst test s)
key_found test s end place found past_end none matches is =
    rw is (by_test (nat_lt place end) refl)
  where
    by_test : (b : Bool) → nat_lt place end ≡ b
        → MatchOption (then_some b place) (HasNone test s) (IsFirst test s)
    by_test true e = record { matches = matches (ltb-true place end e); first = none }
    by_test false e = λ q. ⊎_elim (λ (before : q < place). none q before)
        (λ (past : place ≤ q). past_end q (let far = ltb-false place end e in omega arith))
        (cases_lt q place)
