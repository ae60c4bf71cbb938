-- How the search of an adjacent group is put together: its attempts, its places, and where
-- stretches end.
use Rattle.std.proofs.Common.{◌≡◌, ℕ, ◌+◌, ◌≤◌, ◌<◌, Bool, true, false, nat_lt, if◌then◌else◌}
use Rattle.std.proofs.Common.{Result, Ok, Err, MatchResult, Some, ap, sym, ◌∙◌, arith, true≢false}
use Rattle.std.proofs.Common.{Option, None, List, [], ◌∷◌, refl, ⊎_elim, option_map, zero, suc, ◌-◌}
use Rattle.std.proofs.lemmas.Bool.Decides.{nat_tests}
use Rattle.std.proofs.{lemmas.Bool.lt-ltb, lemmas.Bool.cases_lt, Common.length, Common.inl}
use Rattle.bpaf_line.specs.Situation.{Situation, open_count, with_scope, IsStretchFrom}
use Rattle.bpaf_base.specs.Count.{count_below}
use Rattle.bpaf_line.specs.Situation.{is_open, IsNextOpen}
use Rattle.bpaf_line.specs.Marks.{Changes, CanRedo, redone, undone, Fits}
use Rattle.bpaf_line.specs.{declared.error.Error.Error, declared.mark.Mark.Mark, Messages.is_memory}
use Rattle.bpaf_laws.specs.Adjacent.{Narrowed, again, Tries, answered, Failure, Probe, longer}
use Rattle.bpaf_laws.specs.Adjacent.{GroupOutcome, HasNoStart, IsGroupStart, TriedInVain}
use Rattle.bpaf_laws.specs.Adjacent.{all_failed, gave, longest, none_gave, none_tried, not_taken}
use Rattle.bpaf_laws.specs.Reading.{Outcome, Readings, HasPlace}
use Rattle.bpaf_laws.specs.Laws.{Keeps, Closes, Lawful, newly, taken_count, IsNotMemory}
use Rattle.bpaf_laws.specs.{Adjacent.place_count, Adjacent.wanted, Product.BothOutcome}
use Rattle.bpaf_laws.proofs.Keeping.{fewer_took, same_took_none, open_count-falls, keeps_of}
use Rattle.bpaf_laws.proofs.{AdjacentLaws.tries_keep, Keeping.keeps_scope}
use Rattle.bpaf.specs.Remembering.{IsRemembered, TakesOnePlace, HasPlaceIf, TriesFrom, failure_of}
use Rattle.bpaf.specs.Remembering.{EndsAttempt, TriesAt, failed, found, no_memory, skipped, IsEnd}
use Rattle.bpaf.specs.Remembering.{failure_from, WithoutValue}
use Rattle.bpaf.specs.declared.adjacent.failures.Remembered.{Remembered}
use Rattle.bpaf.specs.declared.adjacent.attempts.AttemptEnd.{AttemptEnd}
use Rattle.bpaf_base.proofs.Count.{count_below-cut, count_below-most, count_below-none}
use Rattle.bpaf_line.proofs.{Places.open_in_scope}
use Rattle.bpaf_base.proofs.Count.{count_below-split}
use Rattle.std.specs.Result.{IsErr, IsErrAnd}
use Rattle.bpaf_doc.specs.Shape.{Part}
use Rattle.bpaf.specs.declared.adjacent.attempts.AttemptEnd.TheVariants as ending

-- at a scope of its own each place that is left outside is taken
closes_same : (s t : Situation) → Closes s (with_scope t s.start s.end)
closes_same s t p within outside = absurd (true≢false (sym within ∙ outside))

-- at a scope of its own what is kept is kept
keeps_same_scope : (s t : Situation) → Keeps s t → Keeps s (with_scope t s.start s.end)
keeps_same_scope s t k = keeps_scope s t s.start s.end k (λ p within. within)

-- a number that isn't less doesn't test as less
not_lt : (m n : ℕ) → n ≤ m → nat_lt m n ≡ false
not_lt m n most = grind (arith, nat_tests)

-- whether fewer items of a scope are left present tells whether some are newly taken
takes_some : (s t : Situation) → Keeps s t → (takes : Bool)
    → takes ≡ nat_lt (open_count (with_scope t s.start s.end)) (open_count s)
    → HasPlaceIf takes (newly s t)
takes_some s t k true fewer = fewer_took s (with_scope t s.start s.end) (keeps_same_scope s t k)
    (closes_same s t) (grind (arith, nat_tests, sym fewer))
takes_some s t k false same = same_took_none s (with_scope t s.start s.end) (keeps_same_scope s t k)
    (closes_same s t) (grind (arith, nat_tests, sym same))

-- what is known of a probe whose answer isn't want of memory
pub takes_from : {T : Type 0} {inner : Outcome T} {reads : Readings T} → Lawful T inner reads
    → (s : Situation) {w t : Situation} {a b present left : ℕ} {answer : Result T Error}
    (r : Result Bool Error) → w ≡ with_scope s a b → inner w answer t → present ≡ open_count w
    → left ≡ open_count (with_scope t a b) → MatchResult r
    (λ takes. (takes ≡ nat_lt left present) × IsNotMemory answer) (λ e. is_memory e.0 ≡ true)
    → MatchResult r (λ takes. TakesOnePlace T inner s a b takes) (λ e. is_memory e.0 ≡ true)
takes_from law s (Err e) is ran some less memory = memory
takes_from law s {t = t} {a} {b} {answer = answer} (Ok takes) is ran some less known =
    let narrow = with_scope s a b in
    let ran_there = rw is at ran in
    record {
      answer = answer;
      left = t;
      ran = ran_there;
      spared = known.1;
      takes = takes_some narrow t (keeps_of law narrow answer t ran_there) takes
          (known.0 ∙ rw (less, some, is) refl);
    }

module _ {s t : Situation} (keeps : Keeps s t) {best : Remembered} (e : Error)
    (sound : IsRemembered s best) {left : ℕ}
    (is : left ≡ open_count (with_scope t s.start s.end)) where
  -- what a failure left present and what it took make up the scope
  counts : left + taken_count s t ≡ open_count s
  counts = rw is (sym (open_count-falls s (with_scope t s.start s.end)
      (keeps_same_scope s t keeps) (closes_same s t)))

  -- a failure that took no more places isn't remembered
  not_longer : best.left ≤ left → TriesFrom s best e t best
  not_longer fewer = grind (arith, counts, not_lt)

  -- one that took more is
  now_longer : (steps : Changes) → left < best.left → CanRedo steps s → redone steps s ≡ t
      → TriesFrom s best e t
      (record best { left = left; failed = Some (record { error = e; steps = steps }) })
  now_longer steps more redo comes_back = grind (arith, counts, lt-ltb)

module _ (mark : Mark) {t : Situation} (k : Keeps (undone mark t) t) {best : Remembered} (e : Error)
    (sound : IsRemembered (undone mark t) best) {start stop left : ℕ}
    (is_start : start ≡ (undone mark t).start) (is_stop : stop ≡ (undone mark t).end)
    (is : left ≡ open_count (with_scope t start stop)) where
  -- a failure that took more is remembered by the steps since a mark
  pub now_remembered : {m : Situation} → m ≡ t → left < best.left → {steps : Changes}
      → CanRedo steps (undone mark m) → redone steps (undone mark m) ≡ m → {after : Remembered}
      → after ≡ record best { left = left; failed = Some (record { error = e; steps = steps }) }
      → TriesFrom (undone mark t) best e t after
  now_remembered same more {steps} fit comes_back after_is = rw after_is (now_longer k e sound
      (rw (is_start, is_stop) at is) steps more (rw same at fit) (rw same at comes_back))

  -- one that didn't isn't
  pub not_remembered : best.left ≤ left → TriesFrom (undone mark t) best e t best
  not_remembered fewer = not_longer k e sound (rw (is_start, is_stop) at is) fewer

module _ {T : Type 0} {inner : Outcome T} {s b u : Situation} {place stop : ℕ} (same : b ≡ s)
    (narrowed : Narrowed T inner s place stop) {r : Result (AttemptEnd T) Error} where
  -- the attempt that leaves nothing of its scope is the last
  pub whole_answers : {v : T} → r ≡ Ok (ending.Whole v) → EndsAttempt T inner b place stop r u
      → Tries T inner s place (Ok v) u
  whole_answers {v} is ends =
      let at : EndsAttempt T inner s place stop (Ok (ending.Whole v)) u = rw (same, is) at ends in
      rw at.3 (answered stop v at.0 narrowed at.1 at.2)

  -- else the next one ends earlier
  pub left_narrows : {p : ℕ} → r ≡ Ok (ending.Left p) → EndsAttempt T inner b place stop r u
      → (u ≡ s) × Narrowed T inner s place p × (p < stop)
  left_narrows {p} is ends =
      let at : EndsAttempt T inner s place stop (Ok (ending.Left p)) u = rw (same, is) at ends in (
        at.4,
        again stop p at.0 at.1 narrowed at.2 at.3,
        (open_in_scope (with_scope at.1 place stop) p at.3.present).1,
      )

-- What comes of a place of an adjacent group.

-- where attempts end from a mark on: back there, and all is kept
pub record Gone (s : Situation) (mark : Mark) (t : Situation) : Type 0 where
  pub back : undone mark t ≡ s
  pub fits : Fits mark t
  pub keeps : Keeps (undone mark t) t

-- attempts keep what the mark goes back to
pub attempts_gone : {T : Type 0} {inner : Outcome T} {reads : Readings T} → Lawful T inner reads
    → {s m : Situation} {mark : Mark} {place : ℕ} {r : Result T Error} {t : Situation} → m ≡ s
    → Fits mark m → undone mark m ≡ m → Tries T inner m place r t → Gone s mark t
attempts_gone law {m = m} {mark} {place} {r} {t} same fits back tries =
    let k = tries_keep law m place r t tries in
    let there : undone mark t ≡ m = k.marks.same mark fits ∙ back in
    record { back = there ∙ same; fits = k.marks.fit mark fits; keeps = rw there k }

module _ {T : Type 0} {inner : Outcome T} {s : Situation} {place stop : ℕ} {best : Option Failure}
  where
    -- want of memory
    pub wanted_at : {r : Result (Option T) Error} {t : Situation} (e : Error) → t ≡ s
        → is_memory e.0 ≡ true → IsErr r × IsErrAnd r (λ f. f ≡ e) → {after : Option Failure}
        → after ≡ best → TriesAt T inner s place stop best r after t
    wanted_at {r = Ok v} e same memory refuses kept = absurd (true≢false (sym refuses.0))
    wanted_at {r = Err f} e same memory refuses kept =
        rw (kept, same) (no_memory f (ap (λ x. is_memory x.0) refuses.1 ∙ memory))

    module _ {m t : Situation} {takes : Bool} {r : Result T Error} (same : m ≡ s)
        (taken : takes ≡ true) (probed : TakesOnePlace T inner s place stop takes) where
      -- the attempts fail, and the failure that took more is remembered
      pub failed_at : {e : Error} → r ≡ Err e → Tries T inner m place r t → is_memory e.0 ≡ false
          → {after : Option Failure} → after ≡ longer s best (record { error = e; left = t })
          → {u : Situation} → u ≡ s → TriesAt T inner s place stop best (Ok None) after u
      failed_at {e} is tries spared kept back =
          rw (back, kept) (failed e t (rw taken at probed) (rw (same, is) at tries) spared)

-- what the mark goes back to is where the attempts began
pub back_at : {s : Situation} {mark : Mark} {t m u : Situation} → Gone s mark t → m ≡ t
    → u ≡ undone mark m → u ≡ s
back_at {mark = mark} gone same undo = undo ∙ (ap (undone mark) same ∙ gone.back)

-- How an adjacent group goes from place to place.

module _ (T : Type 0) (inner : Outcome T) (s : Situation) (first : Part) where
  -- the places before one were tried in vain, and the longest of their failures is remembered
  pub record InVain (from : ℕ) (best : Remembered) : Type 0 where
    pub failures : List Failure
    pub tried : TriedInVain T inner s first from failures
    pub remembered : failure_of s best ≡ longest s failures

-- a value that comes of a place is that of attempts there
given : {T : Type 0} {inner : Outcome T} {s : Situation} {place stop : ℕ}
    {best after : Option Failure} {v : T} {t : Situation}
    → TriesAt T inner s place stop best (Ok (Some v)) after t
    → Probe T inner s place stop HasPlace × Tries T inner s place (Ok v) t
given (found v t probe tries) = (probe, tries)

module _ {T : Type 0} {inner : Outcome T} {s : Situation} {first : Part} where
  -- at the start no place was tried in vain
  pub vain_begins : {from : ℕ} {best : Remembered} → from ≡ s.start → best.failed ≡ None
      → InVain T inner s first from best
  vain_begins at none = record {
    failures = [];
    tried = rw at none_tried;
    remembered = ap (option_map (failure_from s)) none;
  }

  -- an error is want of memory
  wanted_there : {place stop : ℕ} {best after : Option Failure} {e : Error} {t : Situation}
      → TriesAt T inner s place stop best (Err e) after t → GroupOutcome T inner first s (Err e) t
  wanted_there (no_memory e memory) = wanted e memory

  -- a place that gives none is one more that was tried in vain, and leaves all as before
  one_more : {from place : ℕ} {failures : List Failure} {best after : Option Failure}
      {t : Situation} → TriedInVain T inner s first from failures → best ≡ longest s failures
      → IsGroupStart s (place_count first) from place
      → TriesAt T inner s place (place + place_count first) best (Ok None) after t
      → (t ≡ s) × (more : List Failure) × TriedInVain T inner s first (place + 1) more
      × (after ≡ longest s more)
  one_more {from} {place} {failures} before known start (skipped probe) =
      (refl, failures, not_taken from place failures before start probe, known)
  one_more {from} {place} {failures} before known start (failed e left probe tries spared) = (
    refl,
    record { error = e; left = left } ∷ failures,
    all_failed from place failures e left before start probe tries spared,
    ap (λ x. longer s x (record { error = e; left = left })) known,
  )

  module _ {b : Situation} (same : b ≡ s) {from : ℕ} {best : Remembered}
      (vain : InVain T inner s first from best) {width : ℕ} (wide : width ≡ place_count first) where
    module _ {place stop : ℕ} (start : IsGroupStart b width from place × (stop ≡ place + width))
        {r : Result (Option T) Error} (after : Remembered) {t : Situation}
        (tried : TriesAt T inner b place stop (failure_of b best) r (failure_of b after) t) where
      -- the place begins a first item
      starts : IsGroupStart s (place_count first) from place
      starts = rw (same, wide) at start.0

      -- the place is tried from the group's situation
      tried_here : TriesAt T inner s place (place + place_count first) (failure_of s best) r
          (failure_of s after) t
      tried_here = rw (start.1, wide, same) at tried

      -- its value is that of the group
      pub value_found : {v : T} → r ≡ Ok (Some v) → GroupOutcome T inner first s (Ok v) t
      value_found {v} is =
          let g = given (rw is at tried_here) in
          gave from place vain.failures v t vain.tried starts g.0 g.1

      -- without one all is as before, and it is one more that was tried in vain
      pub vain_on : r ≡ Ok None → (t ≡ s) × InVain T inner s first (place + 1) after
      vain_on is = grind (arith, one_more, starts, tried_here)

      -- want of memory is the answer
      pub refused_at : {e : Error} → r ≡ Err e → GroupOutcome T inner first s (Err e) t
      refused_at is = wanted_there (rw is at tried_here)

    -- the end, where no place is left
    pub search_ends : {e : Error} {t : Situation} → HasNoStart b width from
        → IsEnd b first best e t → GroupOutcome T inner first s (Err e) t
    search_ends {e} {t} none ends =
        ⊎_elim (λ over. none_gave from vain.failures e t vain.tried (rw (same, wide) at none)
        (rw vain.remembered at over)) (λ memory. rw memory.1 (wanted e memory.0)) (rw same at ends)

-- Where a stretch of present places ends, told by how many places are present.

-- of a set with n numbers below n each is one
count_below-full : (f : ℕ → Bool) (n : ℕ) → count_below f n ≡ n → (q : ℕ) → q < n → f q ≡ true
count_below-full f zero full q l = absurd (omega arith)
count_below-full f (suc n) full q l =
    by_last (f n) refl full (λ all below. count_below-full f n all q below)
  where
    by_last : (b : Bool) → f n ≡ b → (if b then (count_below f n + 1) else count_below f n) ≡ suc n
        → (count_below f n ≡ n → q < n → f q ≡ true) → f q ≡ true
    by_last true has more low =
        ⊎_elim (λ (below : q < n). low (omega arith) below)
        (λ (above : n ≤ q). let last : q ≡ n = omega arith in ap f last ∙ has) (cases_lt q n)
    by_last false lacks more low = let most = count_below-most f n in absurd (omega arith)

-- a place outside of the scope isn't open
closed_outside : (s : Situation) (q : ℕ) → (s.start ≤ q → q < s.end → 1 ≤ 0) → is_open s q ≡ false
closed_outside s q out = grind (arith, open_in_scope)

-- where as many are present from the first one on as the scope has places, all are, to its end
ends_with_scope : (s : Situation) (p : ℕ) → s.end ≤ length s.context.line
    → IsNextOpen s s.start p → open_count s ≡ s.end - p → IsStretchFrom s p s.end
ends_with_scope s p inside first all =
    let here = open_in_scope s p first.present in
    let n = length s.context.line in
    let from : ℕ → Bool = λ i. is_open s (p + i) in
    let split = count_below-split (is_open s) p (n - p) in
    let whole : p + (n - p) ≡ n = omega arith in
    let none = count_below-none (is_open s) p (λ q l. before q l) in
    let cut : count_below from (n - p) ≡ count_below from (s.end - p) =
    count_below-cut from (s.end - p) (n - p) (omega arith)
    (λ q l m. closed_outside s (p + q) (λ a b. omega arith)) in
    let full : count_below from (s.end - p) ≡ s.end - p =
    omega (arith, split, none, cut, all, ap (count_below (is_open s)) whole) in
    record {
      ordered = omega arith;
      present = λ q l m.
          let at : p + (q - p) ≡ q = omega arith in
          sym (ap (is_open s) at) ∙ count_below-full from (s.end - p) full (q - p) (omega arith);
      stops = closed_outside s s.end (λ a b. omega arith);
    }
  where
    before : (q : ℕ) → q < p → is_open s q ≡ false
    before q l =
        ⊎_elim (λ (out : q < s.start). closed_outside s q (λ a b. omega arith))
        (λ (from : s.start ≤ q). first.passed q from l) (cases_lt q s.start)

-- the same of a scope, a first place and a count that were told
pub told_end : {s : Situation} {start stop place first count : ℕ} → start ≡ s.start
    → stop ≡ s.end → stop ≤ length s.context.line → IsNextOpen s start first → first ≡ place
    → count ≡ open_count s → count ≡ stop - first → IsStretchFrom s place stop
told_end begins ends inside next here counted all = grind (arith, ends_with_scope)

-- behind a field that has a value, both answer what the fields behind it do
pub rest_told : {A V : Type 0} (first : Outcome A) (rest : Outcome V) (s m t : Situation) (a : A)
    (r : Result (Unit {0}) Error) → first s (Ok a) m → WithoutValue rest m r t
    → WithoutValue (BothOutcome first rest) s r t
rest_told first rest s m t a (Ok told) ran (v, after) = (
  (a, v),
  record {
    a = Ok a;
    middle = m;
    b = Ok v;
    first_ran = ran;
    rest_ran = after;
    spared = tt;
    answer = refl;
  },
)
rest_told first rest s m t a (Err e) ran after = inl (record {
  a = Ok a;
  middle = m;
  b = Err e;
  first_ran = ran;
  rest_ran = after;
  spared = tt;
  answer = refl;
})
