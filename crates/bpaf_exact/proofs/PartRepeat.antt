-- A repeat of a named part is one.
use Rattle.std.proofs.Common.{arith, false, subst, List, None, refl, inl, inr, true, true≢false}
use Rattle.bpaf_exact.specs.Flat.{ErrorClass, Variables, IsWholeIn, class, cells, TakesAny}
use Rattle.bpaf_exact.proofs.Parts.{none_to_take, nothing_spoiled, no_first, any_more, any_some}
use Rattle.bpaf_exact.specs.Parts.{TakenHead, Part, NoOwn, Entries, HasEntries, IsSpoiled, Turn}
use Rattle.bpaf_exact.specs.Parts.{IsPart, no_entry, entry, present, absent, lacks_missing}
use Rattle.bpaf_exact.specs.Parts.{lacks_refused, PartLaw, PartOk, PartErr, WhyNone, IsFine}
use Rattle.std.proofs.Common.{◌∙◌, ◌∷◌, ◌≡◌, ◌⊎◌, [], sym, Err, Ok, ⊎_elim, Bool}
use Rattle.bpaf_exact.specs.Pieces.{TakesPieces, takes_none, Cells, pieces, Roles, IsNamed, Apart}
use Rattle.bpaf_exact.specs.Flat.{OfMemory, Refused, Steady, RepeatOutcome, Stops}
use Rattle.bpaf_exact.specs.Parts.{RepeatAbsent, part_repeat, no_value, one_value}
use Rattle.bpaf_exact.proofs.Product.{steady_refl, steady_trans, none_outside_after}
use Rattle.bpaf_exact.proofs.Classes.{stops_at, goes_on, memory_class}
use Rattle.bpaf_exact.proofs.{Cuts.some_trans, Cuts.keeps_other_some, PartWrapped.caught_part}
use Rattle.bpaf_exact.proofs.{Parts.none_back, Parts.some_or_none, PartHeads.head_more}
use Rattle.bpaf_exact.proofs.Repeat.{fewer_count, same_count, stopped_by, stops_by}
use Rattle.std.specs.Prelude.{◌<◌, ◌≤◌}
use Rattle.bpaf_line.specs.{Situation.Situation, Situation.open_count, declared.error.Error.Error}
use Rattle.bpaf_line.specs.Messages.{is_wrong_input}
use Rattle.bpaf_laws.specs.Combinators.{TurnOutcome, Turns, is_nil, stops, rests}
use Rattle.bpaf_laws.specs.Reading.{Outcome}

module _ {T : Type 0} {part : Part T} (l : IsPart part) where
  -- entries take own pieces
  entries_take : {cs ds : Cells} {vs : List T} → Entries part cs vs ds
      → TakesPieces part.roles cs ds
  entries_take (no_entry e) = takes_none
  entries_take (entry g more) = some_trans (any_some (l.takes g)) (entries_take more)

  -- the same ones
  one_end : {cs ds es : Cells} {vs ws : List T} → Entries part cs vs ds → Entries part cs ws es
      → ds ≡ es
  one_end (no_entry e) (no_entry f) = refl
  one_end (no_entry e) (entry g more) = absurd (no_first l e g)
  one_end (entry g more) (no_entry e) = absurd (no_first l e g)
  one_end {es} (entry g more) (entry {vs} h others) =
      one_end more (subst (λ z. Entries part z vs es) (sym (l.one g h)) others)

  -- the same where others' pieces are given back
  all_back : {q : Roles} → IsNamed q → Apart q part.roles → {ds es : Cells} {vs : List T}
      {cs : Cells} → TakesPieces q cs ds → Entries part ds vs es
      → (fs : Cells) × Entries part cs vs fs × TakesPieces q fs es
  all_back n p {cs} t (no_entry e) = (cs, no_entry (none_back l n p t e), t)
  all_back n p t (entry g more) =
      let b = l.back n p t g in
      let i = all_back n p b.2 more in
      (i.0, entry b.1 i.1, i.2)

  -- it takes own pieces
  repeat_takes : {cs ds : Cells} {vs : List T} → (NoOwn part cs → ⊥) → Entries part cs vs ds
      → TakesAny part.roles cs ds
  repeat_takes some (no_entry e) = absurd (some e)
  repeat_takes some (entry g more) = any_more (l.takes g) (entries_take more)

  -- the first own piece among them
  repeat_heads : {cs ds : Cells} {vs : List T} → (NoOwn part cs → ⊥) → Entries part cs vs ds
      → TakenHead part.roles cs ds
  repeat_heads some (no_entry e) = absurd (some e)
  repeat_heads some (entry g more) = head_more (l.heads g) (entries_take more)

  -- a repeat is a part
  pub repeat_is : IsPart (part_repeat part)
  repeat_is = record {
    named = l.named;
    takes = λ g. repeat_takes g.some g.entries;
    one = λ g h. one_end g.entries h.entries;
    back = λ n p t g.
        let b = all_back n p t g.entries in (
          b.0,
          record { entries = b.1; some = λ e. still g.some n p t e; fine = g.fine },
          b.2,
        );
    heads = λ g. repeat_heads g.some g.entries;
    not_both = λ m a. m;
  }
    where
      still : {q : Roles} {cs ds : Cells} → (NoOwn part ds → ⊥) → IsNamed q → Apart q part.roles
          → TakesPieces q cs ds → NoOwn part cs → ⊥
      still some n p t e = some (keeps_other_some n l.named p t ∙ e)

  -- what is spoiled inside is spoiled outside
  pub spoils : {cs : Cells} → IsSpoiled part cs → IsSpoiled (part_repeat part) cs
  spoils n h = by_entries n h.2
    where
      by_entries : {cs es : Cells} {ws : List (List T)} → IsSpoiled part cs
          → Entries (part_repeat part) cs ws es → ⊥
      by_entries n (no_entry e) = n ([], _, no_entry e)
      by_entries n (entry g more) = n (_, _, g.entries)

  -- what a later entry leaves spoiled was spoiled before
  pub spoiled_before : {cs ds : Cells} {v : T} → part.first cs v ds → IsSpoiled part ds
      → IsSpoiled part cs
  spoiled_before g n h = by_entries g n h.2
    where
      by_entries : {cs ds es : Cells} {v : T} {vs : List T} → part.first cs v ds
          → IsSpoiled part ds → Entries part cs vs es → ⊥
      by_entries g n (no_entry e) = no_first l e g
      by_entries g n (entry h more) = n (subst (HasEntries part) (l.one h g) (_, _, more))

module _ {env : Variables} {T : Type 0} {inner : Outcome T} {part : Part T}
    (l : PartLaw env T inner part) where
  -- what turns one after another take
  pub record Ran (said : Type 0) (s t : Situation) : Type 0 where
    pub steady : Steady s t
    pub takes : TakesPieces part.roles (cells s) (cells t)
    pub gave : said ⊎ (IsSpoiled part (cells s) × IsSpoiled part (cells t))

  -- all entries, and it isn't refused where it is absent
  abbrev All : Situation → List T → Situation → Type 0
  All s vs t = Entries part (cells s) vs (cells t) × IsFine part

  -- one more in front
  one_more : {s m t : Situation} {v : T} {vs : List T} → PartOk part s v m
      → part.first (cells s) v (cells m) → Ran (All m vs t) m t → Ran (All s (v ∷ vs) t) s t
  one_more {s} {m} {t} {v} {vs} i g j = record {
    steady = steady_trans i.steady j.steady;
    takes = some_trans i.takes j.takes;
    gave = ⊎_elim (λ a. inl (entry g a.0, a.1)) (λ n. inr (spoiled_before l.is g n.0, n.1)) j.gave;
  }

  -- one that spoils
  spoiled_more : {said : Type 0} {s m t : Situation} {v : T} {vs : List T} → PartOk part s v m
      → IsSpoiled part (cells s) → IsSpoiled part (cells m) → Ran (All m vs t) m t → Ran said s t
  spoiled_more i n k j = record {
    steady = steady_trans i.steady j.steady;
    takes = some_trans i.takes j.takes;
    gave = ⊎_elim (λ a. absurd (k (_, _, a.0))) (λ x. inr (n, x.1)) j.gave;
  }

  -- a turn that takes nothing, and is no first one, ends it
  idle_ran : {s t : Situation} {v : T} → open_count s ≤ open_count t → PartOk part s v t
      → Ran (All s [] t) s t
  idle_ran {s} {t} {v} same i = record { steady = i.steady; takes = i.takes; gave = by_gave i.gave }
    where
      by_gave : Turn part (cells s) v (cells t)
          ⊎ (IsSpoiled part (cells s) × IsSpoiled part (cells t))
          → All s [] t ⊎ (IsSpoiled part (cells s) × IsSpoiled part (cells t))
      by_gave (inl (present g)) =
          let f = fewer_count s t (l.is.takes g) in absurd (omega arith)
      by_gave (inl (absent e a z)) =
          inl (subst (λ z. Entries part (cells s) [] z) (sym z) (no_entry e), inr (v, a))
      by_gave (inr n) = inr n

  -- a turn that stops
  stop_ran : (s : Situation) {t : Situation} → IsWholeIn env s
      → TurnOutcome inner false false s (Ok None) t → Ran (All s [] t) s t
  stop_ran s {t} w (inl o) = idle_ran o.3 (l.ok s t o.0 w o.1)
  stop_ran s w (inr o) = rw o.1 (record {
    steady = steady_refl;
    takes = takes_none;
    gave = ⊎_elim (λ f. inl (no_entry f.0, inl f.1)) (λ n. inr (n, n))
        (caught_part (stopped_by {s = s} {m = o.0.1} (stops_at o.0.3))
        (l.err s o.0.1 o.0.0 w o.0.2));
  })

  -- after the first value
  later_ran : (vs : List T) {s m t : Situation} → IsWholeIn env s → Turns inner false false s vs m
      → TurnOutcome inner false false m (Ok None) t → Ran (All s vs t) s t
  later_ran [] {s} w turns stop = stop_ran s w (rw turns stop)
  later_ran (v ∷ vs) {s} {t = t} w turns stop =
      let i = l.ok s turns.0 v w turns.1.0 in
      by_gave turns.1.1 i i.gave (later_ran vs (none_outside_after w i.steady) turns.2 stop)
    where
      by_gave : {m : Situation} → (false ≡ true) ⊎ (open_count m < open_count s) → PartOk part s v m
          → Turn part (cells s) v (cells m) ⊎ (IsSpoiled part (cells s) × IsSpoiled part (cells m))
          → Ran (All m vs t) m t → Ran (All s (v ∷ vs) t) s t
      by_gave fewer i (inl (present g)) j = one_more i g j
      by_gave (inl never) i (inl (absent e f same)) j = absurd cc
      by_gave {m} (inr fewer) i (inl (absent e f same)) j =
          let c = same_count s m same in absurd (omega arith)
      by_gave fewer i (inr n) j = spoiled_more i n.0 n.1 j

  -- what all turns took is an answer of the repeat
  ran_ok : {s t : Situation} {vs : List T}
      → Ran (Turn (part_repeat part) (cells s) vs (cells t)) s t
      → PartOk (part_repeat part) s vs t
  ran_ok i = record {
    steady = i.steady;
    takes = i.takes;
    gave = ⊎_elim (λ g. inl g) (λ n. inr (spoils l.is n.0, spoils l.is n.1)) i.gave;
  }

  -- the first turn, and those after it
  first_ran : {s m t : Situation} {v : T} {vs : List T} → PartOk part s v m
      → Turn part (cells s) v (cells m) ⊎ (IsSpoiled part (cells s) × IsSpoiled part (cells m))
      → Ran (All m vs t) m t → Ran (Turn (part_repeat part) (cells s) (v ∷ vs) (cells t)) s t
  first_ran i (inr n) j = spoiled_more i n.0 n.1 j
  first_ran i (inl (present g)) j =
      let k = one_more i g j in record {
        steady = k.steady;
        takes = k.takes;
        gave = ⊎_elim (λ a. inl (present (record {
          entries = a.0;
          some = λ e. no_first l.is e g;
          fine = a.1;
        }))) (λ n. inr n) k.gave;
      }
  first_ran {s} {m} {t} {v} {vs} i (inl (absent e f same)) j = record {
    steady = steady_trans i.steady j.steady;
    takes = some_trans i.takes j.takes;
    gave = ⊎_elim (λ a. inl (alone refl refl a.0))
        (λ n. absurd (nothing_spoiled l.is (subst (NoOwn part) (sym same) e) n.0)) j.gave;
  }
    where
      alone : {cs ds : Cells} {us : List T} → cells m ≡ cs → cells t ≡ ds → Entries part cs us ds
          → Turn (part_repeat part) (cells s) (v ∷ us) (cells t)
      alone x y (no_entry z) = absent e (one_value f refl) (y ∙ (sym x ∙ same))
      alone x y (entry h more) =
          absurd (no_first l.is (subst (NoOwn part) (sym same ∙ x) e) h)

  -- a first turn that stops
  none_ran : {s t : Situation} → IsWholeIn env s → TurnOutcome inner false true s (Ok None) t
      → Ran (Turn (part_repeat part) (cells s) [] (cells t)) s t
  none_ran w (inl o) = absurd (true≢false o.2)
  none_ran {s} w (inr o) = rw o.1 (record {
    steady = steady_refl;
    takes = takes_none;
    gave = ⊎_elim (λ f. inl (absent f.0 (no_value f.1 refl) refl)) (λ n. inr (n, n))
        (caught_part (stopped_by {s = s} {m = o.0.1} (stops_at o.0.3))
        (l.err s o.0.1 o.0.0 w o.0.2));
  })

  -- its turns to the end
  turns_ran : (first : Bool) (vs : List T) {s m t : Situation} → IsWholeIn env s
      → Turns inner false first s vs m → TurnOutcome inner false (is_nil vs) m (Ok None) t
      → Ran (Turn (part_repeat part) (cells s) vs (cells t)) s t
  turns_ran first [] w turns stop = none_ran w (rw turns stop)
  turns_ran first (v ∷ vs) {s} w turns stop =
      let i = l.ok s turns.0 v w turns.1.0 in
      first_ran i i.gave (later_ran vs (none_outside_after w i.steady) turns.2 stop)

  -- what the turns of a repeat that answers took
  pub repeat_ran : (idle : Bool) {s t : Situation} {vs : List T} → IsWholeIn env s
      → RepeatOutcome inner idle s (Ok vs) t
      → Ran (Turn (part_repeat part) (cells s) vs (cells t)) s t
  repeat_ran false {vs} w o = turns_ran true vs w o.steps o.stop
  repeat_ran true {vs} w (stops run) = turns_ran false vs w run.steps run.stop
  repeat_ran true {s} {t} w (rests v e ran same) =
      let i = l.ok s t v w ran in
      rw e (record { steady = i.steady; takes = i.takes; gave = by_gave i.gave })
    where
      by_gave : Turn part (cells s) v (cells t)
          ⊎ (IsSpoiled part (cells s) × IsSpoiled part (cells t))
          → Turn (part_repeat part) (cells s) (v ∷ []) (cells t)
          ⊎ (IsSpoiled part (cells s) × IsSpoiled part (cells t))
      by_gave (inl (present g)) =
          let f = fewer_count s t (l.is.takes g) in absurd (omega arith)
      by_gave (inl (absent e a z)) = inl (absent e (one_value a refl) z)
      by_gave (inr n) = inr n

  -- Refusals: turns that ran before one that fails.
  abbrev Failed : ErrorClass → Situation → Type 0
  Failed c s = ((c ≡ Refused) × ((v : T) → part.absent v → ⊥) × (part.missing → ⊥))
      ⊎ IsSpoiled part (cells s)

  -- what a repeat of such says
  record FailedRun (e : Error) (s t : Situation) : Type 0 where
    steady : Steady s t
    takes : TakesPieces part.roles (cells s) (cells t)
    why : Failed (class e) s
    calm : NoOwn part (cells s) → is_wrong_input e.0 ≡ false

  -- an error that doesn't stop it
  failed_here : {s t : Situation} {e : Error} → (Stops e s t → ⊥)
      → (class e ≡ OfMemory) ⊎ PartErr part s e t
      → (class e ≡ OfMemory) ⊎ FailedRun e s t
  failed_here on (inl c) = inl c
  failed_here {s} {t} {e} on (inr i) =
      inr (record { steady = i.steady; takes = i.takes; why = by_why i.why; calm = i.calm })
    where
      by_why : WhyNone part (cells s) (class e) → Failed (class e) s
      by_why (inl (f, lacks_missing h m)) =
          absurd (on (stops_by h (λ c. none_to_take f i.takes)))
      by_why (inl (f, lacks_refused c none must)) = inl (c, none, must)
      by_why (inr n) = inr n

  -- turns in front of it
  failed_before : {e : Error} {s m t : Situation} {v : T} → PartOk part s v m
      → Turn part (cells s) v (cells m) ⊎ (IsSpoiled part (cells s) × IsSpoiled part (cells m))
      → FailedRun e m t → FailedRun e s t
  failed_before {e} {s} {m} {v = v} i g j = record {
    steady = steady_trans i.steady j.steady;
    takes = some_trans i.takes j.takes;
    why = by_gave g j.why;
    calm = λ f. j.calm (subst (NoOwn part) (sym (none_to_take f i.takes)) f);
  }
    where
      by_gave : Turn part (cells s) v (cells m)
          ⊎ (IsSpoiled part (cells s) × IsSpoiled part (cells m))
          → Failed (class e) m → Failed (class e) s
      by_gave (inr n) f = inr n.0
      by_gave (inl g) (inl f) = inl f
      by_gave (inl (present g)) (inr n) = inr (spoiled_before l.is g n)
      by_gave (inl (absent z a same)) (inr n) =
          absurd (nothing_spoiled l.is (subst (NoOwn part) (sym same) z) n)

  -- its turns to a fault
  turns_fail : (first last : Bool) (vs : List T) {s m t : Situation} {e : Error} → IsWholeIn env s
      → Turns inner false first s vs m → TurnOutcome inner false last m (Err e) t
      → (class e ≡ OfMemory) ⊎ FailedRun e s t
  turns_fail first last [] {s} {t = t} {e} w turns fails =
      ⊎_elim (λ f. failed_here (goes_on e f.1) (l.err s t e w f.0))
      (λ f. inl (memory_class e.0 f.0))
      (subst (λ z. TurnOutcome inner false last z (Err e) t) (sym turns) fails)
  turns_fail first last (v ∷ vs) {s} w turns fails =
      let i = l.ok s turns.0 v w turns.1.0 in
      ⊎_elim (λ c. inl c) (λ j. inr (failed_before i i.gave j))
      (turns_fail false last vs (none_outside_after w i.steady) turns.2 fails)

  -- a repeat that is refused
  failed_err : {e : Error} {s t : Situation} → FailedRun e s t → PartErr (part_repeat part) s e t
  failed_err {e} {s} j = record {
    steady = j.steady;
    takes = j.takes;
    why = by_why (some_or_none (pieces part.roles (cells s))) j.why;
    calm = j.calm;
  }
    where
      never : ((v : T) → part.absent v → ⊥) → (part.missing → ⊥) → (vs : List T)
          → RepeatAbsent part vs → ⊥
      never none must vs (no_value m e) = must m
      never none must vs (one_value {v} a e) = none v a

      unfit : (NoOwn part (cells s) → ⊥) → ((v : T) → part.absent v → ⊥) → (part.missing → ⊥)
          → {ws : List (List T)} {es : Cells} → Entries (part_repeat part) (cells s) ws es → ⊥
      unfit some none must (no_entry e) = some e
      unfit some none must (entry g more) = ⊎_elim must (λ a. none a.0 a.1) g.fine

      by_why : NoOwn part (cells s) ⊎ (NoOwn part (cells s) → ⊥) → Failed (class e) s
          → WhyNone (part_repeat part) (cells s) (class e)
      by_why any (inr n) = inr (spoils l.is n)
      by_why (inl z) (inl f) = inl (z, lacks_refused f.0 (never f.1 f.2) (λ m. m))
      by_why (inr some) (inl f) = inr (λ h. unfit some f.1 f.2 h.2)

  -- where it is refused
  repeat_fails : (idle : Bool) {s t : Situation} (e : Error) → IsWholeIn env s
      → RepeatOutcome inner idle s (Err e) t
      → (class e ≡ OfMemory) ⊎ PartErr (part_repeat part) s e t
  repeat_fails false e w o =
      ⊎_elim (λ c. inl c) (λ j. inr (failed_err j))
      (turns_fail true (is_nil o.values) o.values w o.steps o.fails)
  repeat_fails true e w o =
      ⊎_elim (λ c. inl c) (λ j. inr (failed_err j))
      (turns_fail false (is_nil o.values) o.values w o.steps o.fails)

  -- a repeat keeps to the law
  pub repeat_part_law : (idle : Bool)
      → PartLaw env (List T) (RepeatOutcome inner idle) (part_repeat part)
  repeat_part_law idle = record {
    is = repeat_is l.is;
    ok = λ s t v w o. ran_ok (repeat_ran idle w o);
    err = λ s t e w o. repeat_fails idle e w o;
  }
