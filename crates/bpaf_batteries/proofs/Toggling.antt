-- Two keys under a choice and a repeat: each step takes the leftmost key, so the last value is that
-- of the rightmost.
use Rattle.std.proofs.Common.{◌≡◌, ◌≢◌, ◌⊎◌, ℕ, ◌<◌, ◌≤◌, ◌==◌, ◌&&◌, ◌||◌, Bool, true, false, not}
use Rattle.std.proofs.Common.{List, [], ◌∷◌, ◌++◌, Result, Ok, Err, Option, Some, None, refl, sym}
use Rattle.std.proofs.Common.{◌∙◌, ap, subst, arith, inl, inr, ⊎_elim, true≢false, if◌then◌else◌}
use Rattle.std.proofs.lemmas.Bool.{and_parts, both_ways, cases_lt, false_from_ne_true}
use Rattle.std.proofs.{lemmas.Bool.Decides.nat_tests, Common.IsOk}
use Rattle.std.specs.Option.{option_map_or}
use Rattle.bpaf_grammar.specs.Grammar.{outcome_of}
use Rattle.bpaf_batteries.specs.Toggle.{toggle_grammar}
use Rattle.bpaf_text.specs.declared.params.ParseFlag.{ParseFlag}
use Rattle.bpaf_base.specs.declared.arg.Arg.{Arg}
use Rattle.bpaf_line.proofs.Places.{open_not_taken, taken_here, taken_other, match_is_open}
use Rattle.bpaf_line.specs.Situation.{Situation, is_taken, is_open, item_at, item_in, open_count}
use Rattle.bpaf_line.specs.Taking.{IsFirst, HasNone, is_match, open_item, IsLeftmost, TakeTheSame}
use Rattle.bpaf_line.specs.{declared.error.Error.Error, Situation.take_place, Messages.is_memory}
use Rattle.bpaf_laws.proofs.ChoiceLaws.{chosen_at_equal, choice_lawful, ok_is_not_err, not_winner}
use Rattle.bpaf_laws.proofs.Keeping.{open_joins, same_took_none, newly_take}
use Rattle.bpaf_laws.proofs.ChoiceLaws.{leftmost_is_chosen, stands, took_nothing, leftmost_of_other}
use Rattle.bpaf_laws.proofs.{LeafLaws.flag_lawful, Sparing.stop_spared}
use Rattle.bpaf_laws.specs.Choice.{BranchesEval, EqualDepths, IsChosen, TookAndIsChosen, branch_of}
use Rattle.bpaf_laws.specs.Choice.{ChoiceReads, depth}
use Rattle.bpaf_laws.specs.Combinators.{EndsIn, Turns, UntilStop, is_nil, TurnOutcome, is_untouched}
use Rattle.bpaf_laws.specs.{Laws.Lawful, Laws.newly, Reading.IsPlace, Leaves.IsLast}
use Rattle.bpaf_batteries.proofs.Keys.{KeyEval, key_ran, not_both}
use Rattle.bpaf_batteries.specs.Toggle.{EitherOutcome, GivesValue, LastToggleWins, RightmostGives}
use Rattle.bpaf_batteries.specs.Keys.{is_flag_key, is_either, AreKeysApart, KeyOutcome, KeyReads}

-- of two places that are present the one before the other is the leftmost that is taken by only one
before_is_leftmost : (s : Situation) (p q : ℕ) → p < q → is_open s p ≡ true
    → IsLeftmost (take_place s p) (take_place s q) p
before_is_leftmost s p q before there = record {
  differs = grind (arith, taken_here s p, taken_other s q p, open_not_taken s p there);
  first = λ r low. grind (arith, taken_other s p r, taken_other s q r);
}

module _ {T : Type 0} (clones : T → T → Type 0) (one other : ParseFlag T) where
  -- a step of the choice: the leftmost key is taken, and its value is the answer
  record TookKey (s : Situation) (v : T) (t : Situation) : Type 0 where
    place : ℕ
    none_before : (r : ℕ) → r < place → is_match (is_either one other) s r ≡ false
    gives : GivesValue clones one other s place v
    taken : IsPlace place (newly s t)

  -- the place of a key with a value has a key of either
  gives_key : (s : Situation) (p : ℕ) (v : T) → GivesValue clones one other s p v
      → is_match (is_either one other) s p ≡ true
  gives_key s p v gives = grind arith

  -- where neither flag has a key there is none of either
  neither : (s : Situation) (p : ℕ) → is_match (is_flag_key one) s p ≡ false
      → is_match (is_flag_key other) s p ≡ false → is_match (is_either one other) s p ≡ false
  neither s p mine theirs = grind arith

  module _ {s t : Situation} {p : ℕ} {v : T} where
    -- where a first key is taken, and none of the other flag stands before it, it is the leftmost
    took : is_open s p ≡ true → ((r : ℕ) → r < p → is_match (is_flag_key one) s r ≡ false)
        → ((r : ℕ) → r < p → is_match (is_flag_key other) s r ≡ false)
        → GivesValue clones one other s p v → TakeTheSame t (take_place s p) → TookKey s v t
    took there mine theirs gives same = record {
      place = p;
      none_before = λ r before. neither s r (mine r before) (theirs r before);
      gives = gives;
      taken = λ q. ap (λ taken. taken && not (is_taken s q)) (same q) ∙ newly_take s p there q;
    }

    -- the one flag's key is taken, where its answer is the chosen one
    took_one : {x : T} → IsFirst (is_flag_key one) s p
        → ((r : ℕ) → r < p → is_match (is_flag_key other) s r ≡ false) → clones one.present x
        → IsChosen (Ok x) (take_place s p) v t → TookKey s v t
    took_one {x} mine theirs value chosen =
        let same : x ≡ v = let answer = chosen.answer in cc in
        took (match_is_open (is_flag_key one) s p mine.matches) mine.first theirs
        (inl (mine.matches, rw same at value)) chosen.takes

    -- the other flag's key is taken, where its answer is the chosen one
    took_other : {x : T} → IsFirst (is_flag_key other) s p
        → ((r : ℕ) → r < p → is_match (is_flag_key one) s r ≡ false) → clones other.present x
        → IsChosen (Ok x) (take_place s p) v t → TookKey s v t
    took_other {x} theirs mine value chosen =
        let same : x ≡ v = let answer = chosen.answer in cc in
        took (match_is_open (is_flag_key other) s p theirs.matches) mine theirs.first
        (inr (theirs.matches, rw same at value)) chosen.takes

  -- the answer of a flag leaves the path
  ran_depth : (flag : ParseFlag T) (s : Situation) (r : Result T Error) (t : Situation)
      → KeyEval clones flag s r t → depth t ≡ depth s
  ran_depth flag s r t o = grind arith

  -- a value of a flag took an item
  ran_touched : (flag : ParseFlag T) {s : Situation} {v : T} {t : Situation}
      → KeyOutcome clones flag s (Ok v) t → KeyEval clones flag s (Ok v) t
      → is_untouched s t ≡ false
  ran_touched flag {s} {v} {t} ran key = false_from_ne_true (is_untouched s t) (λ same.
      let none = took_nothing (flag_lawful T clones flag.named flag.present flag.absent) s t v ran
      same key.0 in
      let there = match_is_open (is_flag_key flag) s key.0 key.1.matches in
      true≢false (sym (ap (λ w. is_taken w key.0) key.2 ∙ taken_here s key.0)
      ∙ (none ∙ open_not_taken s key.0 there)))

  module _ (keys : AreKeysApart one other) where
    -- a place of either flag's key isn't one of the other's
    two_places : (s : Situation) (p q : ℕ) → is_match (is_flag_key one) s p ≡ true
        → is_match (is_flag_key other) s q ≡ true → p ≢ q
    two_places s p q mine theirs same =
        grind (arith, not_both (is_flag_key one) (is_flag_key other) (open_item s p) keys.apart)

    module _ (s : Situation) where
      -- of two values that of the leftmost key is the chosen one
      both_took : {p q : ℕ} {x y v : T} {t : Situation} → IsFirst (is_flag_key one) s p
          → IsFirst (is_flag_key other) s q → clones one.present x → clones other.present y
          → ((r : ℕ) → IsLeftmost (take_place s p) (take_place s q) r → TookAndIsChosen r (Ok x)
          (take_place s p) v t ⊎ TookAndIsChosen r (Ok y) (take_place s q) v t) → TookKey s v t
      both_took {p} {q} mine theirs value_one value_other wins =
          let apart = two_places s p q mine.matches theirs.matches in
          ⊎_elim (λ (before : p < q).
          let there = match_is_open (is_flag_key one) s p mine.matches in
          ⊎_elim (λ won. took_one mine (λ r low. theirs.first r (omega arith)) value_one won.chosen)
          (λ lost. absurd
          (both_ways _ (taken_other s q p apart ∙ open_not_taken s p there) lost.took))
          (wins p (before_is_leftmost s p q before there))) (λ (behind : q ≤ p).
          let there = match_is_open (is_flag_key other) s q theirs.matches in
          let turned : q ≢ p = (λ same. apart (sym same)) in
          ⊎_elim (λ lost. absurd
          (both_ways _ (taken_other s p q turned ∙ open_not_taken s q there) lost.took))
          (λ won. took_other theirs (λ r low. mine.first r (omega arith)) value_other won.chosen)
          (wins q (leftmost_of_other (take_place s q) (take_place s p) q
          (before_is_leftmost s q p (omega arith) there)))) (cases_lt p q)

      -- a value at equal depths
      equal_took : (a : Result T Error) {sa : Situation} (b : Result T Error) {sb : Situation}
          {v : T} {t : Situation} → KeyEval clones one s a sa → KeyEval clones other s b sb
          → EqualDepths s a sa b sb (Ok v) t → (IsOk a → IsOk b → (r : ℕ) → IsLeftmost sa sb r
          → TookAndIsChosen r a sa v t ⊎ TookAndIsChosen r b sb v t) → TookKey s v t
      equal_took (Ok x) (Ok y) f g equal wins =
          let chosen = rw (f.2, g.2) at wins in both_took f.1 g.1 f.3 g.3 (chosen refl refl)
      equal_took (Ok x) (Err e) {v = v} f g (inl wrong) wins = absurd (ok_is_not_err v e wrong.1)
      equal_took (Ok x) {sa} (Err e) {v = v} {t} f g (inr right) wins =
          took_one f.1 (λ r before. g.0 r) f.3 (rw f.2 at (stands v t (branch_of x sa) right.1))
      equal_took (Err e) (Ok y) {v = v} f g (inl wrong) wins = absurd (ok_is_not_err v e wrong.1)
      equal_took (Err e) (Ok y) {sb} {v} {t} f g (inr right) wins =
          took_other g.1 (λ r before. f.0 r) g.3 (rw g.2 at (stands v t (branch_of y sb) right.1))
      equal_took (Err e) (Err d) {v = v} f g o wins = absurd (ok_is_not_err v o.0.0 o.0.2)

      module _ {r : Result T Error} {t : Situation}
          (ran : BranchesEval (KeyOutcome clones one) (KeyOutcome clones other) s r t) where
        -- what the one flag answered
        one_ran : KeyEval clones one s ran.a ran.sa
        one_ran = key_ran clones one keys.one_stands s ran.sa ran.a ran.first_ran ran.first_spared

        -- what the other flag answered
        other_ran : KeyEval clones other s ran.b ran.sb
        other_ran = grind (arith, key_ran)

        -- both are equally deep
        same_depth : depth ran.sa ≡ depth ran.sb
        same_depth = ran_depth one s ran.a ran.sa one_ran
            ∙ sym (ran_depth other s ran.b ran.sb other_ran)

        -- the table is that of equal depths
        equal : EqualDepths s ran.a ran.sa ran.b ran.sb r t
        equal = chosen_at_equal s ran.a ran.sa ran.b ran.sb r t same_depth ran.chosen

      -- a refusal at equal depths comes where neither has a key
      equal_none : (a : Result T Error) (sa : Situation) (b : Result T Error) (sb : Situation)
          (e : Error) (t : Situation) → KeyOutcome clones one s a sa
          → KeyOutcome clones other s b sb → KeyEval clones one s a sa → KeyEval clones other s b sb
          → EqualDepths s a sa b sb (Err e) t → HasNone (is_either one other) s
      equal_none x sa y sb e t a b f g o =
          grind (arith, and_parts, both_ways, neither, ok_is_not_err, not_winner, ran_touched)

    -- a refusal of the choice that isn't want of memory comes where there is no key
    choice_none : {s t : Situation} {e : Error} → EitherOutcome clones one other s (Err e) t
        → is_memory e.0 ≡ false → HasNone (is_either one other) s
    choice_none {s} {t} {e} (inl ran) spared = equal_none s ran.a ran.sa ran.b ran.sb e t
        ran.first_ran ran.second_ran (one_ran s ran) (other_ran s ran) (equal s ran)
    choice_none {e = e} (inr want) spared = absurd (both_ways (is_memory e.0) spared want.0)

    -- the choice keeps to the laws
    law : Lawful T (EitherOutcome clones one other)
        (ChoiceReads (KeyReads clones one) (KeyReads clones other))
    law = grind (arith, choice_lawful, flag_lawful)

    -- a value of the choice is that of the leftmost key, which is taken
    choice_took : {s t : Situation} {v : T} → EitherOutcome clones one other s (Ok v) t
        → TookKey s v t
    choice_took {s} {t} {v} o =
        let wins = leftmost_is_chosen (flag_lawful T clones one.named one.present one.absent)
        (flag_lawful T clones other.named other.present other.absent) s t (Ok v) o in
        let ran = wins.ran in
        equal_took s ran.a ran.b (one_ran s ran) (other_ran s ran) (equal s ran)
        (λ a b. wins.leftmost a b (same_depth s ran))

    module _ {s t : Situation} {v : T} (ran : EitherOutcome clones one other s (Ok v) t) where
      -- the place of the key that a value took
      place : ℕ
      place = (choice_took ran).place

      -- afterwards the same matches are there, but for that place
      match_after : (test : Arg → Bool) (q : ℕ)
          → is_match test t q ≡ (is_match test s q && not (q == place))
      unfolding place
      match_after test q =
          let read = law.ok s t v ran in
          let joins = open_joins s t read.keeps read.closed in
          ap (λ context. option_map_or test (if is_open t q then item_in context q else None) false)
          read.keeps.context ∙ passes (is_open t q) (is_open s q) (newly s t q) (q == place)
          (item_at s q) (joins.all q) (joins.apart q) ((choice_took ran).taken q)
        where
          passes : (now before new here : Bool) (at : Option Arg) → before ≡ (now || new)
              → (now && new) ≡ false → new ≡ here
              → option_map_or test (if now then at else None) false
              ≡ (option_map_or test (if before then at else None) false && not here)
          passes now before new here at a b c = grind arith

      -- a match that is there afterwards was there before, elsewhere
      match_before : (test : Arg → Bool) (q : ℕ) → is_match test t q ≡ true
          → (is_match test s q ≡ true) × (q ≢ place)
      match_before test q there =
          let parts = and_parts (is_match test s q) (not (q == place))
          (sym (match_after test q) ∙ there) in
          let elsewhere = parts.1 in
          (parts.0, λ same. absurd (grind (arith, nat_tests)))

      -- where there is none elsewhere afterwards there was none
      none_elsewhere : (test : Arg → Bool) (q : ℕ) → q ≢ place → is_match test t q ≡ false
          → is_match test s q ≡ false
      none_elsewhere test q elsewhere none = grind (arith, nat_tests, match_after test q)

      -- a value took an item
      not_dropped : open_count s ≤ open_count t → ⊥
      not_dropped same =
          let took = choice_took ran in
          let read = law.ok s t v ran in
          let none = same_took_none s t read.keeps read.closed same took.place in
          grind (arith, nat_tests, took.taken took.place)

      -- a key behind the one that was taken is the rightmost of all
      rightmost_behind : (r : ℕ) → IsLast (is_either one other) t r
          → IsLast (is_either one other) s r
      unfolding place
      rightmost_behind r there =
          let before = match_before (is_either one other) r there.matches in
          let behind : place ≤ r = grind (arith, (choice_took ran).none_before r) in
          record {
            matches = before.0;
            last = λ q later. none_elsewhere (is_either one other) q
                (λ same. absurd (omega arith)) (there.last q later);
          }

      -- its value is as it was
      gives_before : (w : T) (r : ℕ) → GivesValue clones one other t r w
          → GivesValue clones one other s r w
      gives_before w r gives =
          grind (arith, match_before (is_flag_key one) r, match_before (is_flag_key other) r)

    -- where a step stops there is no key
    stopped_none : (catches first : Bool) {s t : Situation}
        → TurnOutcome (EitherOutcome clones one other) catches first s (Ok None) t
        → HasNone (is_either one other) s
    stopped_none catches first (inl dropped) = absurd (not_dropped dropped.1 dropped.3)
    stopped_none catches first {s} (inr ((e, m, ran, stops), same)) =
        choice_none ran (stop_spared catches e.0 (is_untouched s m) stops)

    -- the last step before there is no key took the rightmost one
    last_step : (catches first : Bool) (s : Situation) (before : List T) (v : T) (t : Situation)
        → Turns (EitherOutcome clones one other) catches first s (before ++ v ∷ []) t
        → HasNone (is_either one other) t → RightmostGives clones one other s (Some v)
    unfolding place
    last_step catches first s [] v t (m, step, same) none =
        let took = choice_took step.0 in (
          took.place,
          record {
            matches = gives_key s took.place v took.gives;
            last = λ q later. none_elsewhere step.0 (is_either one other) q
                (λ same. absurd (omega arith))
                (subst (HasNone (is_either one other)) (sym same) none q);
          },
          took.gives,
        )
    last_step catches first s (b ∷ bs) v t (m, step, later) none =
        let last : RightmostGives clones one other m (Some v) = last_step catches false m bs v t
        later none in
        (last.0, rightmost_behind step.0 last.0 last.1, gives_before step.0 v last.0 last.2)

    -- the last of the values that a repeat of the choice answers is that of the rightmost key
    last_wins : (catches : Bool) {s t : Situation} {values : List T} (v : Option T)
        → UntilStop (EitherOutcome clones one other) catches true s values t → EndsIn values v
        → RightmostGives clones one other s v
    last_wins catches {s} {values = values} (Some v) run last = last_step catches true s last.0 v
        run.last (rw last.1 at run.steps) (stopped_none catches (is_nil values) run.stop)
    last_wins catches {s} {values = values} None run last =
        let same : s ≡ run.last =
        subst (λ vs. Turns (EitherOutcome clones one other) catches true s vs run.last) last
        run.steps in
        rw same (stopped_none catches (is_nil values) run.stop)

-- the last toggle wins
pub toggle_wins : {T : Type 0} (clones : T → T → Type 0) {one other : ParseFlag T} (catches : Bool)
    {s t : Situation} (v : Option T)
    → outcome_of (toggle_grammar clones one other catches) s (Ok v) t
    → LastToggleWins clones one other s v
toggle_wins clones {one} {other} catches v o keys =
    last_wins clones one other keys catches v o.1 o.2
