-- Marks: what a step leaves of what a mark goes back to; conflict notes, and two parses that went
-- on from one mark.
use Rattle.std.proofs.Common.{◌≡◌, ℕ, ◌+◌, ◌-◌, ◌<◌, ◌≤◌, List, ◌++◌, length, take, drop, refl, ap}
use Rattle.std.proofs.Common.{sym, ◌∙◌, arith, length-drop, Option, [], ◌∷◌, length-append, ◌≢◌}
use Rattle.std.proofs.Common.{Bool, true, false, not, ◌&&◌, Some, None, if◌then◌else◌, reverse}
use Rattle.std.proofs.Common.{option_map, zero, suc, ◌*◌, ◌||◌, ⊎_elim, nat_lt, slice_index}
use Rattle.std.proofs.lemmas.List.{length-take-le, take-append-le, take-append-drop, take-take}
use Rattle.std.proofs.lemmas.List.{take_rest, drop-take, get_or-drop, reverse-append, take_more}
use Rattle.std.proofs.lemmas.List.Folds.{find-append, list_any-append}
use Rattle.std.proofs.lemmas.Bool.{cases_eq, or_right, ltb-true, ltb-false}
use Rattle.std.proofs.{lemmas.List.take_all, Common.add-one}
use Rattle.bpaf_line.specs.Situation.{Situation, cut_to, take_place, with_conflicts, with_scope}
use Rattle.bpaf_line.specs.Situation.{with_path, with_current, TakenInTurn, is_taken, last_of}
use Rattle.bpaf_line.specs.Marks.{HasReached, undone, steps_since, redone, CanRedo, KeepsMarks}
use Rattle.bpaf_line.specs.declared.state.State.TheInside.{Inside}
use Rattle.bpaf_line.specs.Situation.{is_on, with_trail, PresentInTurn}
use Rattle.bpaf_line.specs.Taking.{ConflictsSaved, IsWinner, leftmost_of}
use Rattle.bpaf_line.specs.{Marks.Changes, Marks.Fits, declared.mark.Mark.Mark, Inside.IsSoundAt}
use Rattle.bpaf_index.specs.Bits.{has_bit, is_in_first, AreWithin, IsLeastIn}
use Rattle.std.specs.Option.{option_or}
use Rattle.bpaf_index.proofs.BitSets.{on_others}
use Rattle.bpaf_line.proofs.Places.{present_in_line}

-- a part of a list, and a part of what is behind it
take_on : (k n : ℕ) (xs : List ℕ) → take k xs ++ take n (drop k xs) ≡ take (k + n) xs
take_on k n xs =
    ap (λ ys. ys ++ take n (drop k xs)) (sym (take-take k (k + n) xs (omega arith)))
    ∙ (ap (λ ys. take k (take (k + n) xs) ++ ys) (sym (drop-take k n xs))
    ∙ take-append-drop k (take (k + n) xs))

-- what a range up to the end gives is all behind its start
pub rest_is : {X : Type 0} (k : ℕ) (all xs ys : List X) → ys ≡ take (length xs - k) (drop k xs)
    → xs ≡ all → ys ≡ drop k all
rest_is k all xs ys is whole = is ∙ (take_rest xs k ∙ ap (drop k) whole)

-- the steps since a mark, done again, leave everything as it was
pub redone_undone : (mark : Mark) (s : Situation) → redone (steps_since mark s) (undone mark s) ≡ s
redone_undone mark s = grind (arith, take-append-drop)

-- the steps since a mark can be done there, where each place was taken in turn
pub can_redo : (mark : Mark) (s : Situation) → HasReached mark s → TakenInTurn s → s.start ≤ s.end
    → s.end ≤ length s.context.line → CanRedo (steps_since mark s) (undone mark s)
can_redo mark s fits turns ordered inside = record {
  present = λ n within.
      let at : mark.taken + n < length s.trail = omega (arith, length-drop mark.taken s.trail) in
      let front : take mark.taken s.trail ++ take n (drop mark.taken s.trail) ≡ take
      (mark.taken + n) s.trail = take_on mark.taken n s.trail in
      rw (front, get_or-drop mark.taken s.trail n 0) (turns (mark.taken + n) at);
  ordered = ordered;
  inside = inside;
}

-- a parse cut to a mark's places, conflicts and names, with its scope and place, is back at it
pub undone_cut : (mark : Mark) (s t : Situation) (n : ℕ) (conflicts : List (ℕ × ℕ))
    (path : List (List ℕ)) → t ≡ cut_to s n → n ≡ mark.taken
    → conflicts ≡ take mark.conflicts t.conflicts → path ≡ take mark.depth t.path
    → record t {
      conflicts = conflicts;
      path = path;
      start = mark.start;
      end = mark.end;
      current = mark.current;
    } ≡ undone mark s
undone_cut mark s t n conflicts path cut at conflicts_cut path_cut = rw
    (conflicts_cut, path_cut, cut, at) refl

-- a step keeps the marks that those before it kept
pub keeps_marks_trans : (s t u : Situation) → KeepsMarks s t → KeepsMarks t u → KeepsMarks s u
keeps_marks_trans s t u first second = grind arith

-- the places, conflicts and names of steps put behind those of a parse are the steps done again
pub redone_parts : (s : Situation) (steps : Changes) (taken : List ℕ) (conflicts : List (ℕ × ℕ))
    (path : List (List ℕ)) → taken ≡ steps.taken → conflicts ≡ s.conflicts ++ steps.conflicts
    → path ≡ s.path ++ steps.path
    → record s {
      trail = s.trail ++ taken;
      conflicts = conflicts;
      path = path;
      start = steps.start;
      end = steps.end;
      current = steps.current;
    } ≡ redone steps s
redone_parts s steps taken conflicts path same_taken same_conflicts same_path = rw
    (same_taken, same_conflicts, same_path) refl

-- a longer list is no shorter
longer : {X : Type 0} (n : ℕ) (xs ys : List X) → n ≤ length xs → n ≤ length (xs ++ ys)
longer n xs ys within = omega (arith, length-append xs ys)

-- where nothing changes, each mark is kept
pub keeps_marks_refl : (s : Situation) → KeepsMarks s s
keeps_marks_refl s = record { fit = λ mark fits. fits; same = λ mark fits. refl }

-- a place that is taken keeps them
pub keeps_marks_take : (s : Situation) (p : ℕ) → KeepsMarks s (take_place s p)
keeps_marks_take s p = grind (arith, longer, take-append-le)

-- more conflict notes keep them
pub keeps_marks_conflicts : (s : Situation) (pairs : List (ℕ × ℕ))
    → KeepsMarks s (with_conflicts s pairs)
keeps_marks_conflicts s pairs = grind (arith, longer, take-append-le)

-- what the current place is doesn't matter
pub keeps_marks_current : (s t : Situation) (place : Option ℕ) → KeepsMarks s t
    → KeepsMarks s (with_current t place)
keeps_marks_current s t place keeps =
    record { fit = λ mark fits. assumption (keeps.fit mark fits); same = keeps.same }

-- another scope keeps the marks
pub keeps_marks_scope : (s t : Situation) (start end : ℕ) → KeepsMarks s t
    → KeepsMarks s (with_scope t start end)
keeps_marks_scope s t start end keeps =
    record { fit = λ mark fits. assumption (keeps.fit mark fits); same = keeps.same }

-- a name at the end of the path keeps them
pub keeps_marks_path : (s : Situation) (entry : List ℕ) → KeepsMarks s (with_path s entry)
keeps_marks_path s entry = grind (arith, longer, take-append-le)

-- as far as a list was cut it reaches, where it did before
cut_reaches : {X : Type 0} (n : ℕ) (xs : List X) → n ≤ length xs → n ≤ length (take n xs)
cut_reaches n xs within = omega (arith, length-take-le n xs within)

-- a parse gone back to a mark can go back to it again
pub fits_undone : (mark : Mark) (s : Situation) → Fits mark s → Fits mark (undone mark s)
fits_undone mark s fits = grind (arith, cut_reaches)

-- a parse gone back to a mark is there already
pub undone_twice : (mark : Mark) (s : Situation) → undone mark (undone mark s) ≡ undone mark s
undone_twice mark s = grind (arith, take-take)

-- Conflict notes: what they change, and what they leave.

-- the last pair of a place in two lists is that of the second, where it has one there
pub last_of-append : (xs ys : List (ℕ × ℕ)) (p : ℕ)
    → last_of (xs ++ ys) p ≡ option_or (last_of ys p) (last_of xs p)
last_of-append xs ys p = grind (arith, option_map, reverse-append, find-append, reverse)

-- what the pairs of excluded places say of one: the winner, where present here and taken there
abbrev pub excluded_at : Situation → Situation → ℕ → ℕ → Option ℕ
excluded_at s loser winner p = if not (is_taken s p) && is_taken loser p then Some winner else None

-- the pairs of the excluded places are their conflict notes
pub conflicts_saved : (s loser : Situation) (winner : ℕ) (pairs : List (ℕ × ℕ))
    → ((p : ℕ) → last_of pairs p ≡ excluded_at s loser winner p)
    → ConflictsSaved s loser winner (with_conflicts s pairs)
conflicts_saved s loser winner pairs excluded = record {
  context = refl;
  start = refl;
  end = refl;
  path = refl;
  current = refl;
  taken = λ p. refl;
  marks = keeps_marks_conflicts s pairs;
  noted = λ p. ap (λ o. if is_taken s p then None else o)
      (last_of-append s.conflicts pairs p
      ∙ ap (λ o. option_or o (last_of s.conflicts p)) (excluded p))
      ∙ by_cases (is_taken s p) (is_taken loser p) (last_of s.conflicts p);
}
  where
    by_cases : (x y : Bool) (was : Option ℕ)
        → (if x then None else option_or (if not x && y then Some winner else None) was) ≡
        (if not x && y then Some winner else (if x then None else was))
    by_cases x y was = grind arith

-- Two parses that went on from one mark: what only one of them took.

-- what is taken with more places on the trail
taken_with : (s : Situation) (more : List ℕ) (q : ℕ)
    → is_taken (with_trail s (s.trail ++ more)) q ≡ (is_taken s q || is_on more q)
taken_with s more q = grind (arith, list_any-append)

-- places that are present in turn are present at first
present_at_first : (s : Situation) (places : List ℕ) → PresentInTurn s places → (n : ℕ)
    → n ≤ length places → (q : ℕ) → is_on (take n places) q ≡ true → is_taken s q ≡ false
present_at_first s places turns zero within q on = cc
present_at_first s places turns (suc n) within q on =
    let p = slice_index places n in
    let next : take (suc n) places ≡ take n places ++ p ∷ [] = ap (λ k. take k places)
    (sym (add-one n)) ∙ take_more places n 0 (omega arith) in
    ⊎_elim
    (λ (at : q ≡ p). ap (is_taken s) at ∙ (or_parts (is_taken s p) (is_on (take n places) p)
    (sym (taken_with s (take n places) p) ∙ turns n (omega arith))).0)
    (λ (other : q ≢ p). present_at_first s places turns n (omega arith) q
    (sym (on_others (take n places) p q other) ∙ (ap (λ ps. is_on ps q) (sym next) ∙ on)))
    (cases_eq q p)
  where
    or_parts : (a b : Bool) → (a || b) ≡ false → (a ≡ false) × (b ≡ false)
    or_parts a b e = grind arith

-- all of them are
present_all : (s : Situation) (places : List ℕ) → PresentInTurn s places → (q : ℕ)
    → is_on places q ≡ true → is_taken s q ≡ false
present_all s places turns q on =
    present_at_first s places turns (length places) (omega arith) q
    (ap (λ ps. is_on ps q) (take_all (length places) places (omega arith)) ∙ on)

-- two tests that each add one to a third agree, where neither adds what the other doesn't
same_in : (base a b : Bool) → (a && not b) ≡ false → (b && not a) ≡ false
    → (base || a) ≡ (base || b)
same_in base a b e f = grind arith

-- a test that adds to a third what the other doesn't holds alone
alone_in : (base a b : Bool) → (a ≡ true → base ≡ false) → (a && not b) ≡ true
    → ((base || a) ≡ true) × ((base || b) ≡ false)
alone_in base a b free e = grind arith

module _ (s : Situation) (mark : Mark) (steps : Changes) where
  -- the places taken here since the mark
  abbrev own : List ℕ
  own = drop mark.taken s.trail

  -- the situation to which the steps lead from there
  abbrev other : Situation
  other = redone steps (undone mark s)

  -- what is taken here was taken up to the mark, or since
  taken_own : (q : ℕ) → is_taken s q ≡ (is_taken (undone mark s) q || is_on own q)
  taken_own q =
      ap (λ trail. is_taken (with_trail s trail) q) (sym (take-append-drop mark.taken s.trail))
      ∙ taken_with (undone mark s) own q

  -- what is taken there was taken up to the mark, or by the steps
  taken_there : (q : ℕ) → is_taken other q ≡ (is_taken (undone mark s) q || is_on steps.taken q)
  taken_there q = taken_with (undone mark s) steps.taken q

  -- a place that is present here is taken there where the steps took it
  pub excluded_there : (winner p : ℕ)
      → (if not (is_taken s p) && is_on steps.taken p then Some winner else None)
      ≡ excluded_at s other winner p
  excluded_there winner p = grind (arith, taken_own, taken_there)

  module _ (turns : PresentInTurn (undone mark s) own) (redo : CanRedo steps (undone mark s)) where
    -- where both took the same it is taken in both or in none
    same_both : (q : ℕ) → is_in_first own steps.taken q ≡ false
        → is_in_first steps.taken own q ≡ false → is_taken s q ≡ is_taken other q
    same_both q mine theirs = grind (arith, taken_own, same_in, taken_there)

    -- the first place that only this one took is the leftmost, where both took the same before it
    leftmost_here : (p : ℕ) → is_in_first own steps.taken p ≡ true
        → ((q : ℕ) → q < p → is_taken s q ≡ is_taken other q) → IsWinner s other (true, Some p)
    leftmost_here p alone before =
        let parts = alone_in (is_taken (undone mark s) p) (is_on own p) (is_on steps.taken p)
        (present_all (undone mark s) own turns p) alone in
        let here : is_taken s p ≡ true = taken_own p ∙ parts.0 in
        (record { differs = here ∙ sym (ap not (taken_there p ∙ parts.1)); first = before }, here)

    -- a first place that only the steps took is the leftmost, where both took the same before it
    leftmost_there : (p : ℕ) → is_in_first steps.taken own p ≡ true
        → ((q : ℕ) → q < p → is_taken s q ≡ is_taken other q) → IsWinner s other (false, Some p)
    leftmost_there p alone before =
        let parts = alone_in (is_taken (undone mark s) p) (is_on steps.taken p) (is_on own p)
        (present_all (undone mark s) steps.taken redo.present p) alone in
        let here : is_taken s p ≡ false = taken_own p ∙ parts.1 in
        (record { differs = here ∙ sym (ap not (taken_there p ∙ parts.0)); first = before }, here)

    -- the winner is the lesser of the two places that only one took
    pub winner_is : (a b : Option ℕ) → IsLeastIn (is_in_first own steps.taken) a
        → IsLeastIn (is_in_first steps.taken own) b → IsWinner s other (leftmost_of a b)
    winner_is None None mine theirs = (λ q. same_both q (mine q) (theirs q), refl)
    winner_is (Some p) None mine theirs = leftmost_here p mine.0
        (λ q below. same_both q (mine.1 q below) (theirs q))
    winner_is None (Some r) mine theirs = leftmost_there r theirs.0
        (λ q below. same_both q (mine q) (theirs.1 q below))
    winner_is (Some p) (Some r) mine theirs = by_order (nat_lt p r) refl
      where
        by_order : (b : Bool) → nat_lt p r ≡ b
            → IsWinner s other (if b then (true, Some p) else (false, Some r))
        by_order true e = let order : p < r = ltb-true p r e in leftmost_here p mine.0
            (λ q below. same_both q (mine.1 q below) (theirs.1 q (omega arith)))
        by_order false e = let order : r ≤ p = ltb-false p r e in leftmost_there r theirs.0
            (λ q below. same_both q (mine.1 q (omega arith)) (theirs.1 q below))

-- the bits tell what own places and the others' are
pub record AreApart (words mine theirs : List ℕ) : Type 0 where
  pub own : AreWithin words mine
  pub others : AreWithin words theirs
  pub set : (q : ℕ) → is_on mine q ≡ true → has_bit words q ≡ true
  pub clear : (q : ℕ) → is_on theirs q ≡ true → is_on mine q ≡ false → has_bit words q ≡ false

module _ (i : Inside) (s : Situation) (mark : Mark) (steps : Changes) (sound : IsSoundAt i s)
    (reached : HasReached mark s) (redo : CanRedo steps (undone mark s)) where
  -- each place since the mark was present there in its turn
  turns : PresentInTurn (undone mark s) (drop mark.taken s.trail)
  turns = (can_redo mark s reached sound.in_turn sound.ordered sound.inside).present

  module _ (own theirs : List ℕ) (same_own : own ≡ drop mark.taken s.trail)
      (same_theirs : theirs ≡ steps.taken) where
    -- the bits tell the places since the mark and those of the steps
    pub apart_as : (words : List ℕ) → words ≡ i.bits.items → AreApart words own theirs
    apart_as words same = rw (same, same_own, same_theirs) (record {
      own = λ q on. in_words q (mine q on);
      others = λ q on. in_words q (theirs_free q on);
      set = λ q on. in_bits q (mine q on) ∙ or_right (is_taken (undone mark s) q) _ on;
      clear = λ q on off. in_bits q (theirs_free q on)
          ∙ (ap (λ b. b || is_on (drop mark.taken s.trail) q) (theirs_free q on) ∙ off);
    })
      where
        mine : (q : ℕ) → is_on (drop mark.taken s.trail) q ≡ true
            → is_taken (undone mark s) q ≡ false
        mine = present_all (undone mark s) (drop mark.taken s.trail) turns

        theirs_free : (q : ℕ) → is_on steps.taken q ≡ true → is_taken (undone mark s) q ≡ false
        theirs_free = present_all (undone mark s) steps.taken redo.present

        in_words : (q : ℕ) → is_taken (undone mark s) q ≡ false → q < 64 * length i.bits.items
        in_words q free = omega (arith, present_in_line (undone mark s) q free, sound.bit_for_each)

        in_bits : (q : ℕ) → is_taken (undone mark s) q ≡ false → has_bit i.bits.items q
            ≡ (is_taken (undone mark s) q || is_on (drop mark.taken s.trail) q)
        in_bits q free = sound.bits q (present_in_line (undone mark s) q free)
            ∙ taken_own s mark steps q

    -- the first of the places that only one took tells the winner
    pub winner_as : (a b : Option ℕ) → IsLeastIn (is_in_first own theirs) a
        → IsLeastIn (is_in_first theirs own) b
        → IsWinner s (redone steps (undone mark s)) (leftmost_of a b)
    winner_as a b mine other = winner_is s mark steps turns redo a b
        (rw (same_own, same_theirs) at mine) (rw (same_own, same_theirs) at other)

-- the pairs of those of some places that are present
abbrev pub PairsOf : Situation → ℕ → List ℕ → List (ℕ × ℕ) → Type 0
PairsOf s winner places pairs = (p : ℕ)
    → last_of pairs p ≡ (if not (is_taken s p) && is_on places p then Some winner else None)
