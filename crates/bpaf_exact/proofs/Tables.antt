-- What each combinator's table allows, as exactness sees it; what allows no more keeps to the same.
use Rattle.std.proofs.Common.{arith, true≢false, Option, Result, length, ⊎_elim, Err, false, None}
use Rattle.std.proofs.Common.{Some, refl, true, Bool, List, inl, inr, sym, subst, Ok, ap, ℕ}
use Rattle.std.proofs.Common.{◌∙◌, ◌≡◌, ◌⊎◌}
use Rattle.std.specs.Global.{Vec}
use Rattle.bpaf_line.specs.Situation.{Situation}
use Rattle.bpaf_line.specs.{declared.error.Error.Error, Messages.is_wrong_input}
use Rattle.bpaf_laws.specs.Combinators.{FallbackOutcome, CollectOutcome, CountOutcome, GuardOutcome}
use Rattle.bpaf_laws.specs.Combinators.{ParseOutcome, ManyOutcome, is_nil, SomeOutcome, HideOutcome}
use Rattle.bpaf_laws.specs.Combinators.{TurnOutcome, MapOutcome, Gives}
use Rattle.bpaf_laws.specs.Reading.{Outcome}
use Rattle.bpaf_exact.proofs.Classes.{caught_class, memory_class, kept_class, stops_at, goes_on}
use Rattle.bpaf_exact.specs.Flat.{RepeatOutcome, cells, closed_memory, guard_closure, optional_none}
use Rattle.bpaf_exact.specs.Flat.{optional_some, class, parse_closure, FallbackEval, OptionalEval}
use Rattle.bpaf_exact.specs.Flat.{fallback_err, optional_err, list_closure, some_closure}
use Rattle.bpaf_exact.specs.Flat.{ErrorClass, ClosedEval, closed_err, closed_yes, Variables}
use Rattle.bpaf_exact.specs.Flat.{fallback_memory, optional_memory, fallback_given, fallback_no}
use Rattle.bpaf_exact.specs.Flat.{fallback_ok, map_closure, closed_no, OfMemory, error_class}
use Rattle.bpaf_exact.specs.Flat.{KeepsTo, Refused, Closure, Caught}
use Rattle.bpaf_exact.specs.Parts.{Part, PartLaw, WhyNone}

-- what b allows a allows too, of a refusal one of the same class, as often wrong input
pub record AllowsNoMore (T : Type 0) (a b : Outcome T) : Type 0 where
  pub value : (s t : Situation) (v : T) → b s (Ok v) t → a s (Ok v) t
  pub refusal : (s t : Situation) (e : Error) → b s (Err e) t
      → (d : Error) × a s (Err d) t × (class d ≡ class e)
      × (is_wrong_input d.0 ≡ is_wrong_input e.0)

-- an outcome allows no more where another allows each of its answers
pub no_more : {T : Type 0} {a b : Outcome T}
    → ((s t : Situation) (r : Result T Error) → b s r t → a s r t) → AllowsNoMore T a b
no_more f =
    record {
      value = λ s t v o. f s t (Ok v) o;
      refusal = λ s t e o.
          (e, f s t (Err e) o, refl, refl);
    }

-- it keeps to what that keeps to
pub narrower : {env : Variables} {T : Type 0} {a b : Outcome T}
    {gives : Situation → T → Situation → Type 0}
    {refuses : Situation → ErrorClass → Situation → Type 0} → AllowsNoMore T a b
    → KeepsTo env T a gives refuses → KeepsTo env T b gives refuses
narrower n l = grind arith

-- a part of what that is
pub narrower_part : {env : Variables} {T : Type 0} {a b : Outcome T} {p : Part T}
    → AllowsNoMore T a b
    → PartLaw env T a p → PartLaw env T b p
narrower_part {p} n l = record {
  is = l.is;
  ok = λ s t v w o. l.ok s t v w (n.value s t v o);
  err = λ s t e w o. let d = n.refusal s t e o in ⊎_elim (λ c. inl (sym d.2 ∙ c))
      (λ i. inr (record {
        steady = i.steady;
        takes = i.takes;
        why = subst (WhyNone p (cells s)) d.2 i.why;
        calm = λ f. sym d.3 ∙ i.calm f;
      })) (l.err s t d.0 w d.1);
}

-- By their tables.

module _ {A : Type 0} {inner : Outcome A} where
  -- map
  pub map_table : {B : Type 0} (answers : A → B → Type 0) (s t : Situation) (r : Result B Error)
      → MapOutcome inner answers s r t → ClosedEval A B inner (map_closure answers) Refused s r t
  map_table answers s t (Ok v) o = closed_yes o.1 o.2
  map_table answers s t (Err e) o = closed_err o

  -- parse
  pub parse_table : {B E : Type 0} (answers : A → Result B E → Type 0)
      (shown : E → Option (List ℕ)) (s t : Situation) (r : Result B Error)
      → ParseOutcome inner answers shown s r t
      → ClosedEval A B inner (parse_closure answers) Refused s r t
  parse_table answers shown s t (Ok v) o = closed_yes o.1 o.2
  parse_table answers shown s t (Err e) (inl o) = closed_err o
  parse_table answers shown s t (Err e) (inr o) =
      ⊎_elim (λ memory. closed_memory o.1 (ap error_class memory))
      (λ told. closed_no o.1 (o.2, o.3) (ap error_class told.1) (ap is_wrong_input told.1)) o.4

  -- guard
  pub guard_table : (checks : A → Bool → Type 0) (message : List ℕ) (s t : Situation)
      (r : Result A Error) → GuardOutcome inner checks message s r t
      → ClosedEval A A inner (guard_closure checks) Refused s r t
  guard_table checks message s t (Ok v) o = closed_yes o.0 (refl, o.1)
  guard_table checks message s t (Err e) (inl o) = closed_err o
  guard_table checks message s t (Err e) (inr o) =
      ⊎_elim (λ told. closed_no o.1 o.2 (ap error_class told) (ap is_wrong_input told))
      (λ memory. closed_memory o.1 (ap error_class memory)) o.3

  -- hide
  pub hides : AllowsNoMore A inner (HideOutcome inner)
  hides = record {
    value = λ s t v o. o;
    refusal = λ s t e o. (
      o.0,
      o.1,
      grind arith ∙ ap error_class (sym o.2),
      grind arith ∙ ap is_wrong_input (sym o.2),
    );
  }

  -- optional
  pub optional_table : (s t : Situation) (r : Result (Option A) Error)
      → TurnOutcome inner false true s r t → OptionalEval A inner s r t
  optional_table s t (Ok (Some v)) o = optional_some o.0
  optional_table s t (Ok None) (inl o) = absurd (true≢false o.2)
  optional_table s t (Ok None) (inr o) = rw o.1 (optional_none o.0.2 (stops_at o.0.3))
  optional_table s t (Err e) (inl o) = optional_err o.0 (goes_on e o.1)
  optional_table s t (Err e) (inr o) = optional_memory (memory_class e.0 o.0)

  -- many
  pub many_table : (s t : Situation) (r : Result (Vec A) Error) → ManyOutcome inner false s r t
      → ClosedEval (List A) (Vec A) (RepeatOutcome inner false) (list_closure A) Refused s r t
  many_table s t (Ok v) o = closed_yes o refl
  many_table s t (Err e) o = closed_err o

  -- some
  pub some_table : (message : List ℕ) (s t : Situation) (r : Result (Vec A) Error)
      → SomeOutcome inner false message s r t
      → ClosedEval (List A) (Vec A) (RepeatOutcome inner false) (some_closure A) Caught s r t
  some_table message s t (Ok v) o =
      closed_yes o.0 (refl, λ none. true≢false (sym (ap is_nil none) ∙ o.1))
  some_table message s t (Err e) (inl o) = closed_err o
  some_table message s t (Err e) (inr o) =
      ⊎_elim (λ told. closed_no o.0 refl (ap error_class told) (ap is_wrong_input told))
      (λ memory. closed_memory o.0 (ap error_class memory)) o.1

  -- collect
  pub collect_table : {C : Type 0} (fills : List A → C → Type 0) (s t : Situation)
      (r : Result C Error) → CollectOutcome inner false fills s r t
      → ClosedEval (List A) C (RepeatOutcome inner false) (map_closure fills) Refused s r t
  collect_table fills s t (Ok v) o = closed_yes o.1 o.2
  collect_table fills s t (Err e) (inl o) = closed_err o
  collect_table fills s t (Err e) (inr o) = closed_memory o.1 (memory_class e.0 o.2)

  -- count
  pub count_table : (s t : Situation) (r : Result ℕ Error) → CountOutcome inner s r t
      → ClosedEval (List A) ℕ (RepeatOutcome inner true) (map_closure (λ vs n. n ≡ length vs))
      Refused s r t
  count_table s t (Ok n) o = closed_yes o.1 o.2
  count_table s t (Err e) o = closed_err o

  -- what gives a value in place of an inner one, as a closure on nothing does
  pub fallback_table : (gives : Gives A) (f : Closure (Unit {0}) A)
      → ((v : A) → gives (Ok v) → f.yes tt v)
      → ((e : Error) → gives (Err e) → (class e ≡ OfMemory)
      ⊎ (f.no tt × (class e ≡ Caught) × (is_wrong_input e.0 ≡ false)))
      → (s t : Situation) (r : Result A Error) → FallbackOutcome inner gives s r t
      → FallbackEval A inner f s r t
  fallback_table gives f gave refused s t (Ok v) (inl o) = fallback_ok o
  fallback_table gives f gave refused s t (Ok v) (inr o) =
      rw o.0.1 (fallback_given o.0.0.2 (caught_class o.0.0.0.0 o.0.0.3) (gave v o.1))
  fallback_table gives f gave refused s t (Err e) (inl o) = rw o.1
      (⊎_elim (λ kept. fallback_err kept.1 (kept_class e.0 kept.2))
      (λ memory. fallback_memory (memory_class e.0 memory)) o.0)
  fallback_table gives f gave refused s t (Err e) (inr o) =
      rw o.0.1 (⊎_elim (λ memory. fallback_memory memory)
      (λ told. fallback_no o.0.0.2 (caught_class o.0.0.0.0 o.0.0.3) told.0 told.1 told.2)
      (refused e o.1))
