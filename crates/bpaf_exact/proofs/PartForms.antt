-- Each parser keeps to the law of the part that it is, if it is one and its inner parsers do.
use Rattle.std.proofs.Common.{arith, false, subst, Option, Result, List, Bool, true, not, ℕ, length}
use Rattle.std.proofs.Common.{refl, inl, inr, sym, ◌∙◌, ◌∷◌, ◌≡◌, ◌⊎◌, ◌++◌, [], Err, Ok, ⊎_elim}
use Rattle.std.proofs.Common.{ap}
use Rattle.bpaf_laws.specs.Combinators.{FallbackOutcome, CollectOutcome, CountOutcome, GuardOutcome}
use Rattle.bpaf_laws.specs.Combinators.{ParseOutcome, ManyOutcome, SomeOutcome, HideOutcome}
use Rattle.bpaf_laws.specs.Combinators.{LastOutcome, TurnOutcome, MapOutcome, Gives, GivesClone}
use Rattle.bpaf_exact.proofs.PartWrapped.{closed_part_law, default_part_law, optional_part_law}
use Rattle.bpaf_exact.proofs.PartWrapped.{wrapped_err, wrapped_is, wrapped_no, wrapped_ok}
use Rattle.bpaf_exact.proofs.Product.{current_cells, same_steady, steady_refl, steady_trans}
use Rattle.bpaf_exact.proofs.Product.{none_of_nobody}
use Rattle.bpaf_exact.proofs.Tables.{collect_table, count_table, fallback_table, guard_table, hides}
use Rattle.bpaf_exact.proofs.Tables.{AllowsNoMore, many_table, map_table, narrower_part, no_more}
use Rattle.bpaf_exact.proofs.Tables.{optional_table, parse_table, some_table}
use Rattle.bpaf_exact.specs.Flat.{answer_closure, guard_closure, list_closure, map_closure}
use Rattle.bpaf_exact.specs.Flat.{parse_closure, Refused, Caught, Closure, ClosedEval, Decides}
use Rattle.bpaf_exact.specs.Flat.{ErrorClass, IsWholeIn, RepeatOutcome, Variables, catch_other}
use Rattle.bpaf_exact.specs.Flat.{cells, class, closed_err, Steady, closed_memory, closed_no}
use Rattle.bpaf_exact.specs.Flat.{closed_yes, error_class, some_closure, OfMemory}
use Rattle.bpaf_exact.specs.Parts.{Entries, IsSpoiled, Lacks, NoOwn, Part, PartErr, PartForm}
use Rattle.bpaf_exact.specs.Parts.{PartFormAgrees, PartFormLaw, PartLaw, PartOk, RepeatAbsent}
use Rattle.bpaf_exact.specs.Parts.{RepeatFirst, Turn, WhyNone, absent, entry, kept_part}
use Rattle.bpaf_exact.specs.Parts.{lacks_missing, lacks_refused, no_entry, no_part, no_value}
use Rattle.bpaf_exact.specs.Parts.{of_part, of_parts, one_value, part_choice, part_closed}
use Rattle.bpaf_exact.specs.Parts.{part_default, part_group, part_if, part_last, part_optional}
use Rattle.bpaf_exact.specs.Parts.{part_repeat, part_some, part_wrapped, present, some_part}
use Rattle.bpaf_laws.specs.{Combinators.GivesAnswer, Combinators.PureOutcome, Choice.ChoiceOutcome}
use Rattle.bpaf_laws.specs.{Product.ProductOutcome, Product.BothOutcome, Reading.Outcome}
use Rattle.bpaf_exact.proofs.Parts.{none_to_take, no_first, nothing_spoiled, turn_entries}
use Rattle.bpaf_exact.proofs.PartRepeat.{repeat_part_law, repeat_ran, spoils}
use Rattle.bpaf_exact.proofs.Names.{apart_of_names, either_owns, never_nil}
use Rattle.bpaf_exact.proofs.{Product.none_outside_after, PartWrapped.wrapped_spoils}
use Rattle.bpaf_exact.proofs.{PartChoice.choice_part_law, Classes.memory_class, PartGroup.group_law}
use Rattle.bpaf_exact.proofs.{Leaves.last_same, Cuts.some_trans}
use Rattle.bpaf_exact.specs.Pieces.{are_all_apart, takes_none, Owns, Cells, Apart, either}
use Rattle.std.specs.Global.{Vec}
use Rattle.bpaf_doc.specs.Names.{Names}
use Rattle.bpaf_line.specs.{declared.error.Error.Error, Messages.is_wrong_input}
use Rattle.bpaf_line.specs.Situation.{Situation}

-- an answer behind which nothing has changed
moved_ok : {T : Type 0} {part : Part T} {s m t : Situation} {v : T} → PartOk part s v m
    → Steady s t → cells t ≡ cells m → PartOk part s v t
moved_ok i st e = record { steady = st; takes = rw e i.takes; gave = rw e i.gave }

-- what a constructor makes of a group keeps to the law
product_part_law : {env : Variables} {A B : Type 0} {inner : Outcome A} {part : Part A}
    (makes : A → B → Type 0) → PartLaw env A inner part
    → PartLaw env B (ProductOutcome inner makes) (part_closed part (map_closure makes))
product_part_law {part} makes l = record {
  is = wrapped_is l.is (λ v m a. l.is.not_both m a.1);
  ok = λ s t v w o.
      let i = l.ok s o.0 o.1 w o.2 in
      rw o.4 (moved_ok (wrapped_ok l.is i o.3 (λ a. (o.1, a, o.3))) (same_steady i.steady)
      (current_cells o.0));
  err = λ s t e w o. ⊎_elim (λ c. inl c) (λ i. inr (rw o.2 (wrapped_err l.is {m = o.0} i
      (same_steady i.steady) (rw (current_cells o.0) i.takes) (λ f. by_lack))))
      (l.err s o.0 e w o.1);
}
  where
    by_lack : {c : ErrorClass} → Lacks part c → Lacks (part_closed part (map_closure makes)) c
    by_lack (lacks_missing h m) = lacks_missing h m
    by_lack (lacks_refused c none must) = lacks_refused c (λ v a. none a.0 a.1) must

-- a kept value
kept_part_law : {env : Variables} (T : Type 0) (clones : T → T → Type 0) (kept : T)
    → PartLaw env T (PureOutcome (GivesClone clones kept)) (kept_part (clones kept))
kept_part_law T clones kept = record {
  is = record {
    named = record { only_keys = λ k h. refl };
    takes = λ g. absurd g;
    one = λ g h. absurd g;
    back = λ n a t g. absurd g;
    heads = λ g. absurd g;
    not_both = λ m a. m;
  };
  ok = λ s t v w o. rw o.1 (record {
    steady = same_steady steady_refl;
    takes = rw (current_cells s) takes_none;
    gave = inl (absent (none_of_nobody (cells s)) o.0 (current_cells s));
  });
  err = λ s t e w o. inl (memory_class e.0 o.0);
}

-- Repeats.

-- what is absent of a list that isn't empty is one value
pub some_absent : {T : Type 0} {part : Part T} {xs : List T} (v : Vec T) → v.items ≡ xs
    → (xs ≡ [] → ⊥) → RepeatAbsent part xs → (x : T) × part.absent x × (v.items ≡ x ∷ [])
some_absent v e some (no_value m none) = absurd (some none)
some_absent v e some (one_value {v = x} a f) = (x, a, e ∙ f)

-- the last of what is absent is absent
pub last_absent : {T : Type 0} {part : Part T} {xs : List T} {v : T} (before : List T)
    → xs ≡ before ++ v ∷ [] → RepeatAbsent part xs → part.absent v
last_absent {v} before e (no_value m none) = absurd (never_nil before v [] (sym e ∙ none))
last_absent {part} {v} before e (one_value {v = x} a f) =
    subst part.absent (last_same [] before (sym f ∙ e)) a

module _ {env : Variables} {T : Type 0} {inner : Outcome T} {part : Part T}
    (l : PartLaw env T inner part) where
  -- the law of the repeat
  rl : (idle : Bool) → PartLaw env (List T) (RepeatOutcome inner idle) (part_repeat part)
  rl idle = repeat_part_law l idle

  -- what lacks a list lacks what is made of the list of one value, where it is missing as inside
  list_lacks : {B : Type 0} {makes : List T → B → Type 0} {gone : B → Type 0} {c : ErrorClass}
      → ((v : B) → gone v → (x : T) × part.absent x) → Lacks (part_repeat part) c
      → Lacks (part_wrapped (part_repeat part) makes gone part.missing) c
  list_lacks from (lacks_missing h m) = absurd m
  list_lacks from (lacks_refused c none must) = lacks_refused c
      (λ v a. let x = from v a in none (x.0 ∷ []) (one_value x.1 refl))
      (λ m. none [] (no_value m refl))

  -- a list that has entries isn't empty
  never_empty : {cs ds : Cells} {xs : List T} → RepeatFirst part cs xs ds → xs ≡ [] → ⊥
  never_empty g e = by_entries g.entries g.some e
    where
      by_entries : {cs ds : Cells} {xs : List T} → Entries part cs xs ds → (NoOwn part cs → ⊥)
          → xs ≡ [] → ⊥
      by_entries (no_entry f) some e = some f
      by_entries (entry g more) some e = absurd cc

  -- some
  some_part_law : PartLaw env (Vec T)
      (ClosedEval (List T) (Vec T) (RepeatOutcome inner false) (some_closure T) Caught)
      (part_some part)
  some_part_law = record {
    is = wrapped_is (rl false).is (λ v m a. l.is.not_both m a.1);
    ok = by_ok;
    err = by_err;
  }
    where
      by_ok : (s t : Situation) (v : Vec T) → IsWholeIn env s
          → ClosedEval (List T) (Vec T) (RepeatOutcome inner false) (some_closure T) Caught s (Ok v)
          t
          → PartOk (part_some part) s v t
      by_ok s t v w (closed_yes {x} o y) =
          wrapped_ok (rl false).is ((rl false).ok s t x w o) y (some_absent v y.0 y.1)

      missed : {xs : List T} {c : ErrorClass} → xs ≡ [] → c ≡ Caught → RepeatAbsent part xs
          → Lacks (part_some part) c
      missed e c (no_value m none) = lacks_missing (catch_other c) m
      missed e c (one_value a f) = absurd cc

      by_err : (s t : Situation) (e : Error) → IsWholeIn env s
          → ClosedEval (List T) (Vec T) (RepeatOutcome inner false) (some_closure T) Caught s
          (Err e) t
          → (class e ≡ OfMemory) ⊎ PartErr (part_some part) s e t
      by_err s t e w (closed_memory i m) = inl m
      by_err s t e w (closed_no {x} o n c calm) = inr (wrapped_no (rl false).is
          ((rl false).ok s t x w o) (λ cs ds es y v g h z. never_empty g n) (missed n c) calm)
      by_err s t e w (closed_err o) = ⊎_elim (λ c. inl c) (λ i. inr (wrapped_err (rl false).is i
          i.steady i.takes (λ f. list_lacks (λ v a. (a.0, a.1))))) ((rl false).err s t e w o)

  -- last
  last_part_law : PartLaw env T (LastOutcome inner) (part_last part)
  last_part_law = record {
    is = wrapped_is (rl true).is (λ v m a. l.is.not_both m a);
    ok = by_ok;
    err = by_err;
  }
    where
      -- where no value was there before: it is missing, and nothing has changed
      empty : {cs ds : Cells} {xs : List T} → xs ≡ [] → Turn (part_repeat part) cs xs ds
          → NoOwn part cs × part.missing × (ds ≡ cs)
      empty e (present g) = absurd (never_empty g e)
      empty e (absent f (no_value m none) same) = (f, m, same)
      empty e (absent f (one_value a z) same) = absurd cc

      last_spoils : {cs : Cells} → IsSpoiled part cs → IsSpoiled (part_last part) cs
      last_spoils n = wrapped_spoils (rl true).is (spoils l.is n)

      -- what one evaluation more answers
      once_more : {cs ds es : Cells} {v : T}
          → Turn (part_repeat part) cs [] ds ⊎ (IsSpoiled part cs × IsSpoiled part ds)
          → Turn part ds v es ⊎ (IsSpoiled part ds × IsSpoiled part es)
          → Turn (part_last part) cs v es
          ⊎ (IsSpoiled (part_last part) cs × IsSpoiled (part_last part) es)
      once_more (inl g) (inl (present h)) =
          let z = empty refl g in absurd (no_first l.is (rw z.2 z.0) h)
      once_more (inl g) (inl (absent f a same)) =
          let z = empty refl g in absurd (l.is.not_both z.1 a)
      once_more (inl g) (inr n) =
          let z = empty refl g in absurd (nothing_spoiled l.is (rw z.2 z.0) n.0)
      once_more (inr n) (inl g) =
          inr (last_spoils n.0, last_spoils (λ h. n.1 (turn_entries l.is g h)))
      once_more (inr n) (inr k) = inr (last_spoils n.0, last_spoils k.1)

      -- why it has none
      still_none : {cs ds : Cells} {c : ErrorClass}
          → Turn (part_repeat part) cs [] ds ⊎ (IsSpoiled part cs × IsSpoiled part ds)
          → WhyNone part ds c → WhyNone (part_last part) cs c
      still_none (inr n) f = inr (last_spoils n.0)
      still_none (inl g) (inr n) =
          let z = empty refl g in absurd (nothing_spoiled l.is (rw z.2 z.0) n)
      still_none (inl g) (inl (f, lacks_missing h m)) = inl ((empty refl g).0, lacks_missing h m)
      still_none (inl g) (inl (f, lacks_refused c none must)) =
          inl ((empty refl g).0, lacks_refused c none must)

      by_ok : (s t : Situation) (v : T) → IsWholeIn env s → LastOutcome inner s (Ok v) t
          → PartOk (part_last part) s v t
      by_ok s t v w (inl o) = wrapped_ok (rl true).is ((rl true).ok s t (o.0 ++ v ∷ []) w o.1)
          (record { before = o.0; is = refl }) (last_absent o.0 refl)
      by_ok s t v w (inr o) =
          let r = repeat_ran l true w o.1 in
          let i = l.ok o.0 t v (none_outside_after w r.steady) o.2 in
          record {
            steady = steady_trans r.steady i.steady;
            takes = some_trans r.takes i.takes;
            gave = once_more r.gave i.gave;
          }

      by_err : (s t : Situation) (e : Error) → IsWholeIn env s → LastOutcome inner s (Err e) t
          → (class e ≡ OfMemory) ⊎ PartErr (part_last part) s e t
      by_err s t e w (inl o) = ⊎_elim (λ c. inl c) (λ i. inr (wrapped_err (rl true).is i i.steady
          i.takes (λ f. list_lacks (λ v a. (v, a))))) ((rl true).err s t e w o)
      by_err s t e w (inr o) =
          let r = repeat_ran l true w o.1 in
          ⊎_elim (λ c. inl c) (λ i. inr (record {
            steady = steady_trans r.steady i.steady;
            takes = some_trans r.takes i.takes;
            why = still_none r.gave i.why;
            calm = λ f. i.calm (subst (NoOwn part) (sym (none_to_take f r.takes)) f);
          })) (l.err o.0 t e (none_outside_after w r.steady) o.2)

-- What may be a part.

-- of one
of_part_law : {env : Variables} {A B : Type 0} {inner : Outcome A} {outer : Outcome B}
    {names : List Names} {form : PartForm A} (f : Part A → Part B)
    → ((p : Part A) → (f p).roles ≡ p.roles)
    → ((p : Part A) → PartLaw env A inner p → PartLaw env B outer (f p))
    → PartFormLaw env inner names form → PartFormLaw env outer names (of_part f form)
of_part_law {names} {form = some_part p} f same law l =
    record { by = (law p l.by.0, subst (λ q. Owns q names) (sym (same p)) l.by.1) }
of_part_law {form = no_part} f same law l = record { by = tt }

-- what allows no more
pub narrower_part_form : {env : Variables} {T : Type 0} {a b : Outcome T} {names : List Names}
    {form : PartForm T} → AllowsNoMore T a b → PartFormLaw env a names form
    → PartFormLaw env b names form
narrower_part_form {form = no_part} n l = record { by = tt }
narrower_part_form {form = some_part p} n l = record { by = (narrower_part n l.by.0, l.by.1) }

-- where a test holds
part_if_law : {env : Variables} {T : Type 0} (outcome : Bool → Outcome T) {names : List Names}
    {form : PartForm T} (catch : Bool) → PartFormLaw env (outcome false) names form
    → PartFormLaw env (outcome catch) names (part_if (not catch) form)
part_if_law outcome true l = record { by = tt }
part_if_law outcome false l = l

module _ {env : Variables} {A : Type 0} {inner : Outcome A} {names : List Names}
    {form : PartForm A} (l : PartFormLaw env inner names form) where
  -- what allows no more
  narrower_of : {B : Type 0} {a b : Outcome B} (f : Part A → Part B) → AllowsNoMore B a b
      → ((p : Part A) → (f p).roles ≡ p.roles)
      → ((p : Part A) → PartLaw env A inner p → PartLaw env B a (f p))
      → PartFormLaw env b names (of_part f form)
  narrower_of f n same law = of_part_law f same (λ p i. narrower_part n (law p i)) l

  -- a closure
  closed_form : {B : Type 0} {outcome : Outcome B} (f : Closure A B)
      → AllowsNoMore B (ClosedEval A B inner f Refused) outcome → PartFormAgrees f form
      → PartFormLaw env outcome names (of_part (λ p. part_closed p f) form)
  closed_form {outcome} f n = by_form l
    where
      by_form : {form : PartForm A} → PartFormLaw env inner names form → PartFormAgrees f form
          → PartFormLaw env outcome names (of_part (λ p. part_closed p f) form)
      by_form {form = no_part} l a = record { by = tt }
      by_form {form = some_part p} l a =
          record { by = (narrower_part n (closed_part_law l.by.0 a), l.by.1) }

  -- map
  pub map_part_law : {B : Type 0} (answers : A → B → Type 0)
      → PartFormLaw env (MapOutcome inner answers)
      names (of_part (λ p. part_closed p (map_closure answers)) form)
  map_part_law answers = narrower_of (λ p. part_closed p (map_closure answers))
      (no_more (map_table answers)) (λ p. refl)
      (λ p i. closed_part_law i ((λ cs x y v a b m n. n), (λ x y v a b m n. n)))

  -- parse
  pub parse_part_law : {B E : Type 0} (answers : A → Result B E → Type 0)
      (shown : E → Option (List ℕ)) → PartFormAgrees (parse_closure answers) form
      → PartFormLaw env (ParseOutcome inner answers shown) names
      (of_part (λ p. part_closed p (parse_closure answers)) form)
  parse_part_law answers shown =
      closed_form (parse_closure answers) (no_more (parse_table answers shown))

  -- guard
  pub guard_part_law : (checks : A → Bool → Type 0) (message : List ℕ)
      → PartFormAgrees (guard_closure checks) form
      → PartFormLaw env (GuardOutcome inner checks message) names
      (of_part (λ p. part_closed p (guard_closure checks)) form)
  guard_part_law checks message =
      closed_form (guard_closure checks) (no_more (guard_table checks message))

  -- hide
  pub hide_part_law : PartFormLaw env (HideOutcome inner) names form
  hide_part_law = narrower_part_form hides l

  -- optional
  pub optional_form_part_law : (catch : Bool) → PartFormLaw env (TurnOutcome inner catch true) names
      (part_if (not catch) (of_part part_optional form))
  optional_form_part_law catch = part_if_law (λ c. TurnOutcome inner c true) catch
      (narrower_of part_optional (no_more optional_table) (λ p. refl) (λ p i. optional_part_law i))

  -- a closure that never refuses, on the list of a repeat
  listed : {B : Type 0} {outcome : Outcome B} (idle : Bool) (f : Closure (List A) B)
      → ((x : List A) → f.no x → ⊥)
      → ((s t : Situation) (r : Result B Error) → outcome s r t
      → ClosedEval (List A) B (RepeatOutcome inner idle) f Refused s r t)
      → PartFormLaw env outcome names (of_part (λ p. part_closed (part_repeat p) f) form)
  listed idle f never table = narrower_of (λ p. part_closed (part_repeat p) f) (no_more table)
      (λ p. refl) (λ p i. closed_part_law (repeat_part_law i idle)
      ((λ cs x y v a b m n. never y n), (λ x y v a b m n. never y n)))

  -- many
  pub many_part_law : (catch : Bool) → PartFormLaw env (ManyOutcome inner catch) names
      (part_if (not catch) (of_part (λ p. part_closed (part_repeat p) (list_closure A)) form))
  many_part_law catch = part_if_law (ManyOutcome inner) catch
      (listed false (list_closure A) (λ x n. n) many_table)

  -- some
  pub some_form_part_law : (catch : Bool) (message : List ℕ)
      → PartFormLaw env (SomeOutcome inner catch message) names
      (part_if (not catch) (of_part part_some form))
  some_form_part_law catch message = part_if_law (λ c. SomeOutcome inner c message) catch
      (narrower_of part_some (no_more (some_table message)) (λ p. refl) (λ p i. some_part_law i))

  -- collect
  pub collect_part_law : {C : Type 0} (catch : Bool) (fills : List A → C → Type 0)
      → PartFormLaw env (CollectOutcome inner catch fills) names
      (part_if (not catch) (of_part (λ p. part_closed (part_repeat p) (map_closure fills)) form))
  collect_part_law catch fills = part_if_law (λ c. CollectOutcome inner c fills) catch
      (listed false (map_closure fills) (λ x n. n) (collect_table fills))

  -- count
  pub count_part_law : PartFormLaw env (CountOutcome inner) names
      (of_part (λ p. part_closed (part_repeat p) (map_closure (λ vs n. n ≡ length vs))) form)
  count_part_law = listed true (map_closure (λ vs n. n ≡ length vs)) (λ x n. n) count_table

  -- last
  pub last_form_part_law : PartFormLaw env (LastOutcome inner) names (of_part part_last form)
  last_form_part_law = of_part_law part_last (λ p. refl) (λ p i. last_part_law i) l

  -- a default
  default_form : (gives : Gives A) (f : Closure (Unit {0}) A) → Decides f
      → ((v : A) → gives (Ok v) → f.yes tt v)
      → ((e : Error) → gives (Err e) → (class e ≡ OfMemory)
      ⊎ (f.no tt × (class e ≡ Caught) × (is_wrong_input e.0 ≡ false)))
      → PartFormLaw env (FallbackOutcome inner gives) names (of_part (λ p. part_default p f) form)
  default_form gives f decides gave refused = narrower_of (λ p. part_default p f)
      (no_more (fallback_table gives f gave refused)) (λ p. refl)
      (λ p i. default_part_law i decides)

  -- a kept value
  pub fallback_part_law : (clones : A → A → Type 0) (kept : A)
      → PartFormLaw env (FallbackOutcome inner (GivesClone clones kept)) names
      (of_part (λ p. part_default p (map_closure (λ u. clones kept))) form)
  fallback_part_law clones kept = default_form (GivesClone clones kept)
      (map_closure (λ u. clones kept)) (λ u v y n. n) (λ v g. g) (λ e g. inl (memory_class e.0 g))

  -- a closure's value
  pub fallback_with_part_law : {E : Type 0} (answers : Result A E → Type 0)
      (shown : E → Option (List ℕ)) → Decides (answer_closure answers)
      → PartFormLaw env (FallbackOutcome inner (GivesAnswer answers shown)) names
      (of_part (λ p. part_default p (answer_closure answers)) form)
  fallback_with_part_law answers shown decides = default_form (GivesAnswer answers shown)
      (answer_closure answers) decides (λ v g. g) (λ e g. ⊎_elim
      (λ memory. inl (ap error_class memory))
      (λ told. inr ((g.0, g.1), ap error_class told.1, ap is_wrong_input told.1)) g.2)

  -- a constructor
  pub con_part_law : {B : Type 0} (makes : A → B → Type 0)
      → PartFormLaw env (ProductOutcome inner makes) names
      (of_part (λ p. part_closed p (map_closure makes)) form)
  con_part_law makes = of_part_law (λ p. part_closed p (map_closure makes)) (λ p. refl)
      (λ p i. product_part_law makes i) l

-- two of which no name is both's
two_law : {env : Variables} {A B C : Type 0} {first : Outcome A} {rest : Outcome B}
    {outcome : Outcome C} {own others : List Names} {s : PartForm A} {t : PartForm B}
    (more : Part A → Part B → Part C)
    → ((p : Part A) (r : Part B) → (more p r).roles ≡ either p.roles r.roles)
    → ((p : Part A) (r : Part B) → PartLaw env A first p → PartLaw env B rest r
    → Apart p.roles r.roles → PartLaw env C outcome (more p r)) → PartFormLaw env first own s
    → PartFormLaw env rest others t → PartFormLaw env outcome (own ++ others)
    (part_if (are_all_apart own others) (of_parts more s t))
two_law {env} {C = C} {outcome = outcome} {own} {others} {s = some_part p} {t = some_part r} more
    same law la lb = by_test (are_all_apart own others) refl
  where
    by_test : (b : Bool) → are_all_apart own others ≡ b
        → PartFormLaw env outcome (own ++ others) (part_if b (some_part (more p r)))
    by_test false e = record { by = tt }
    by_test true e = record {
      by = (
        law p r la.by.0 lb.by.0 (apart_of_names la.by.1 lb.by.1 e),
        subst (λ q. Owns q (own ++ others)) (sym (same p r)) (either_owns la.by.1 lb.by.1),
      );
    }
two_law more same law la lb = grind arith

-- a field before others
pub both_part_law : {env : Variables} {A B : Type 0} {first : Outcome A} {rest : Outcome B}
    {own others : List Names} {s : PartForm A} {t : PartForm B} → PartFormLaw env first own s
    → PartFormLaw env rest others t → PartFormLaw env (BothOutcome first rest) (own ++ others)
    (part_if (are_all_apart own others) (of_parts part_group s t))
both_part_law = two_law part_group (λ p r. refl) (λ p r la lb apart. group_law la lb apart)

-- a choice
pub choice_form_part_law : {env : Variables} {T : Type 0} {first second : Outcome T}
    {own others : List Names} {s t : PartForm T} → PartFormLaw env first own s
    → PartFormLaw env second others t → PartFormLaw env (ChoiceOutcome first second) (own ++ others)
    (part_if (are_all_apart own others) (of_parts part_choice s t))
choice_form_part_law =
    two_law part_choice (λ p r. refl) (λ p r la lb apart. choice_part_law la lb apart)

-- a kept value
pub kept_form_part_law : {env : Variables} (T : Type 0) (clones : T → T → Type 0) (kept : T)
    → PartFormLaw env (PureOutcome (GivesClone clones kept)) []
    (some_part (kept_part (clones kept)))
kept_form_part_law T clones kept =
    record { by = (kept_part_law T clones kept, record { own = λ k e. absurd cc }) }
