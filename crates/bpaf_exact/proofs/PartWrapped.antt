-- `optional`, closures and defaults round a named part make one.
use Rattle.std.proofs.Common.{arith, false, Option, List, None, Some, refl, inl, inr, ◌≡◌, ◌⊎◌, []}
use Rattle.bpaf_exact.specs.Flat.{ErrorClass, Variables, IsWholeIn, class, cells, Closure, Steady}
use Rattle.bpaf_exact.specs.Flat.{OfMemory, Refused, OptionalEval, CanCatch, catch_missing}
use Rattle.bpaf_exact.specs.Flat.{optional_some, optional_none, optional_err, optional_memory}
use Rattle.bpaf_exact.specs.Flat.{ClosedEval, closed_yes, closed_no, closed_memory, closed_err}
use Rattle.bpaf_exact.specs.Flat.{Decides, FallbackEval, fallback_ok, fallback_given, fallback_no}
use Rattle.bpaf_exact.specs.Parts.{Part, NoOwn, Entries, HasEntries, IsSpoiled, IsPart, Lacks}
use Rattle.bpaf_exact.specs.Parts.{no_entry, entry, present, absent, lacks_missing, lacks_refused}
use Rattle.bpaf_exact.specs.Parts.{PartLaw, PartOk, PartErr, OptionalAbsent, part_optional}
use Rattle.bpaf_exact.specs.Parts.{part_closed, part_default, part_wrapped, PartAgrees, WhyNone}
use Rattle.std.proofs.Common.{Err, Ok, ⊎_elim}
use Rattle.bpaf_line.specs.{declared.error.Error.Error, Messages.is_wrong_input}
use Rattle.bpaf_line.specs.Situation.{Situation}
use Rattle.bpaf_laws.specs.Reading.{Outcome}
use Rattle.bpaf_exact.proofs.{Repeat.stopped_by, Repeat.stops_by, Product.steady_refl}
use Rattle.bpaf_exact.proofs.Parts.{none_to_take, no_first}
use Rattle.bpaf_exact.specs.{Flat.fallback_memory, Flat.fallback_err, Flat.catch_other, Parts.Turn}
use Rattle.bpaf_exact.specs.Pieces.{TakesPieces, takes_none, Cells}

-- what can be caught isn't refused
pub not_caught : {c : ErrorClass} → CanCatch c → c ≡ Refused → ⊥
not_caught (catch_missing e) f = absurd cc
not_caught (catch_other e) f = absurd cc

-- what is caught is missing, or spoiled
pub caught_part : {T : Type 0} {part : Part T} {s m : Situation} {e : Error} → CanCatch (class e)
    → (class e ≡ OfMemory) ⊎ PartErr part s e m
    → (NoOwn part (cells s) × part.missing) ⊎ IsSpoiled part (cells s)
caught_part can (inl c) = absurd (grind arith)
caught_part can (inr i) = ⊎_elim (λ f. by_lack can f.0 f.1) (λ n. inr n) i.why
  where
    by_lack : {T : Type 0} {part : Part T} {cs : Cells} {c : ErrorClass} → CanCatch c
        → NoOwn part cs → Lacks part c → (NoOwn part cs × part.missing) ⊎ IsSpoiled part cs
    by_lack can f (lacks_missing h m) = inl (f, m)
    by_lack can f (lacks_refused c none must) = absurd (not_caught can c)

-- What is made of a part.
module _ {A B : Type 0} {part : Part A} (l : IsPart part) {makes : A → B → Type 0}
    {gone : B → Type 0} {lost : Type 0} where
  -- it is a part
  pub wrapped_is : ((v : B) → lost → gone v → ⊥) → IsPart (part_wrapped part makes gone lost)
  wrapped_is both = record {
    named = l.named;
    takes = λ g. l.takes g.1;
    one = λ g h. l.one g.1 h.1;
    back = λ n p t g. let b = l.back n p t g.1 in (b.0, (g.0, b.1, g.2), b.2);
    heads = λ g. l.heads g.1;
    not_both = λ {v = v} m a. both v m a;
  }

  -- its entries are entries inside
  entries_in : {cs es : Cells} {vs : List B} → Entries (part_wrapped part makes gone lost) cs vs es
      → HasEntries part cs
  entries_in {cs} (no_entry e) = ([], cs, no_entry e)
  entries_in (entry g more) = let i = entries_in more in (_, i.1, entry g.1 i.2)

  -- what is spoiled inside is spoiled
  pub wrapped_spoils : {cs : Cells} → IsSpoiled part cs
      → IsSpoiled (part_wrapped part makes gone lost) cs
  wrapped_spoils n h = n (entries_in h.2)

  -- an answer of what is made of the part's
  pub wrapped_ok : {s t : Situation} {x : A} {v : B} → PartOk part s x t → makes x v
      → (part.absent x → gone v) → PartOk (part_wrapped part makes gone lost) s v t
  wrapped_ok {s} {t} {x} {v} i y a =
      record { steady = i.steady; takes = i.takes; gave = by_gave i.gave }
    where
      by_gave : Turn part (cells s) x (cells t)
          ⊎ (IsSpoiled part (cells s) × IsSpoiled part (cells t))
          → Turn (part_wrapped part makes gone lost) (cells s) v (cells t)
          ⊎ (IsSpoiled (part_wrapped part makes gone lost) (cells s)
          × IsSpoiled (part_wrapped part makes gone lost) (cells t))
      by_gave (inl (present g)) = inl (present (x, g, y))
      by_gave (inl (absent e z same)) = inl (absent e (a z) same)
      by_gave (inr n) = inr (wrapped_spoils n.0, wrapped_spoils n.1)

  -- what stands for what is missing
  pub wrapped_none : {s m : Situation} {e : Error} {v : B} → CanCatch (class e)
      → (class e ≡ OfMemory) ⊎ PartErr part s e m → (part.missing → gone v)
      → PartOk (part_wrapped part makes gone lost) s v s
  wrapped_none can i a = record {
    steady = steady_refl;
    takes = takes_none;
    gave = ⊎_elim (λ f. inl (absent f.0 (a f.1) refl))
        (λ n. inr (wrapped_spoils n, wrapped_spoils n)) (caught_part can i);
  }

  -- a refusal of the part's
  pub wrapped_err : {s m t : Situation} {e : Error} → PartErr part s e m → Steady s t
      → TakesPieces part.roles (cells s) (cells t)
      → (NoOwn part (cells s) → Lacks part (class e)
      → Lacks (part_wrapped part makes gone lost) (class e))
      → PartErr (part_wrapped part makes gone lost) s e t
  wrapped_err i st more lacks = record {
    steady = st;
    takes = more;
    why = ⊎_elim (λ f. inl (f.0, lacks f.0 f.1)) (λ n. inr (wrapped_spoils n)) i.why;
    calm = i.calm;
  }

  -- a refusal of the value that the part has
  pub wrapped_no : {s t : Situation} {x : A} {e : Error} → PartOk part s x t
      → ((cs ds es : Cells) (y : A) (v : B) → part.first cs x ds → part.first cs y es → makes y v
      → ⊥) → (part.absent x → Lacks (part_wrapped part makes gone lost) (class e))
      → is_wrong_input e.0 ≡ false → PartErr (part_wrapped part makes gone lost) s e t
  wrapped_no {s} {t} {x} {e} i refuses lacks calm = record {
    steady = i.steady;
    takes = i.takes;
    why = by_gave i.gave;
    calm = λ n. calm;
  }
    where
      refused_entry : {cs ds es : Cells} {vs : List B} → part.first cs x ds
          → Entries (part_wrapped part makes gone lost) cs vs es → ⊥
      refused_entry g (no_entry e) = no_first l e g
      refused_entry {cs} {ds} g (entry {ds = es} {v} h more) = refuses cs ds es h.0 v g h.1 h.2

      by_gave : Turn part (cells s) x (cells t)
          ⊎ (IsSpoiled part (cells s) × IsSpoiled part (cells t))
          → WhyNone (part_wrapped part makes gone lost) (cells s) (class e)
      by_gave (inl (present g)) = inr (λ h. refused_entry g h.2)
      by_gave (inl (absent f a same)) = inl (f, lacks a)
      by_gave (inr n) = inr (wrapped_spoils n.0)

module _ {env : Variables} {T : Type 0} {inner : Outcome T} {part : Part T}
    (l : PartLaw env T inner part) where
  -- an answer
  optional_ok : (s t : Situation) (v : Option T) → IsWholeIn env s → OptionalEval T inner s (Ok v) t
      → PartOk (part_optional part) s v t
  optional_ok s t v w (optional_some {v = x} o) = wrapped_ok l.is (l.ok s t x w o) refl (λ a. a)
  optional_ok s t v w (optional_none {e} {m} o stops) =
      wrapped_none l.is (stopped_by stops) (l.err s m e w o) (λ m. m)

  -- a refusal
  optional_fails : (s t : Situation) (e : Error) → IsWholeIn env s
      → OptionalEval T inner s (Err e) t
      → (class e ≡ OfMemory) ⊎ PartErr (part_optional part) s e t
  optional_fails s t e w (optional_memory c) = inl c
  optional_fails s t e w (optional_err o goes_on) = ⊎_elim (λ c. inl c)
      (λ i. inr (wrapped_err l.is i i.steady i.takes (by_lack i))) (l.err s t e w o)
    where
      by_lack : PartErr part s e t → NoOwn part (cells s) → Lacks part (class e)
          → Lacks (part_optional part) (class e)
      by_lack i f (lacks_missing h m) =
          absurd (goes_on (stops_by h (λ c. none_to_take f i.takes)))
      by_lack i f (lacks_refused c none must) = lacks_refused c never (λ m. m)
        where
          never : (v : Option T) → OptionalAbsent part v → ⊥
          never (Some x) a = none x a
          never None m = must m

  -- what may be left out keeps to the law
  pub optional_part_law : PartLaw env (Option T) (OptionalEval T inner) (part_optional part)
  optional_part_law = record {
    is = wrapped_is l.is (λ v m a. m);
    ok = optional_ok;
    err = optional_fails;
  }

  -- A default.
  module _ {f : Closure (Unit {0}) T} (decides : Decides f) where
    default_ok : (s t : Situation) (v : T) → IsWholeIn env s → FallbackEval T inner f s (Ok v) t
        → PartOk (part_default part f) s v t
    default_ok s t v w (fallback_ok o) = wrapped_ok l.is (l.ok s t v w o) refl (λ a. inl a)
    default_ok s t v w (fallback_given {e} {m} o h y) =
        wrapped_none l.is h (l.err s m e w o) (λ z. inr (z, y))

    default_fails : (s t : Situation) (g : Error) → IsWholeIn env s
        → FallbackEval T inner f s (Err g) t → (class g ≡ OfMemory)
        ⊎ PartErr (part_default part f) s g t
    default_fails s t g w (fallback_memory c) = inl c
    default_fails s t g w (fallback_no {e} {m} o h n c calm) = inr (record {
      steady = steady_refl;
      takes = takes_none;
      why = ⊎_elim (λ x. inl (x.0, lacks_missing (catch_other c) (x.1, n)))
          (λ k. inr (wrapped_spoils l.is k)) (caught_part h (l.err s m e w o));
      calm = λ n. calm;
    })
    default_fails s t g w (fallback_err {m} o n) = ⊎_elim (λ c. inl c)
        (λ i. inr (wrapped_err l.is i steady_refl takes_none (λ f. by_lack))) (l.err s m g w o)
      where
        by_lack : Lacks part (class g) → Lacks (part_default part f) (class g)
        by_lack (lacks_missing h m) = absurd (n h)
        by_lack (lacks_refused c none must) =
            lacks_refused c (λ v. ⊎_elim (none v) (λ z. must z.0)) (λ z. must z.0)

    -- a default round a part keeps to the law
    pub default_part_law : PartLaw env T (FallbackEval T inner f) (part_default part f)
    default_part_law = record {
      is = wrapped_is l.is (λ v m a. ⊎_elim (λ x. l.is.not_both m.0 x) (λ x. decides tt v x.1 m.1)
          a);
      ok = default_ok;
      err = default_fails;
    }

-- A closure round a part.
module _ {env : Variables} {A B : Type 0} {inner : Outcome A} {part : Part A}
    (l : PartLaw env A inner part) {f : Closure A B} (agrees : PartAgrees f part) where
  -- an answer
  closed_ok : (s t : Situation) (v : B) → IsWholeIn env s
      → ClosedEval A B inner f Refused s (Ok v) t
      → PartOk (part_closed part f) s v t
  closed_ok s t v w (closed_yes {x} o y) = wrapped_ok l.is (l.ok s t x w o) y (λ a. (x, a, y))

  -- a refusal
  closed_fails : (s t : Situation) (e : Error) → IsWholeIn env s
      → ClosedEval A B inner f Refused s (Err e) t
      → (class e ≡ OfMemory) ⊎ PartErr (part_closed part f) s e t
  closed_fails s t e w (closed_memory i m) = inl m
  closed_fails s t e w (closed_no {x} o n c calm) = inr (wrapped_no l.is (l.ok s t x w o)
      (λ cs ds es y v g h z. agrees.0 cs y x v (es, h) (ds, g) z n)
      (λ a. lacks_refused c (λ v b. agrees.1 b.0 x v b.1 a b.2 n) (λ m. l.is.not_both m a)) calm)
  closed_fails s t e w (closed_err o) = ⊎_elim (λ c. inl c)
      (λ i. inr (wrapped_err l.is i i.steady i.takes (λ f. by_lack))) (l.err s t e w o)
    where
      by_lack : {c : ErrorClass} → Lacks part c → Lacks (part_closed part f) c
      by_lack (lacks_missing h m) = lacks_missing h m
      by_lack (lacks_refused c none must) = lacks_refused c (λ v a. none a.0 a.1) must

  -- it keeps to the law
  pub closed_part_law : PartLaw env B (ClosedEval A B inner f Refused) (part_closed part f)
  closed_part_law = record {
    is = wrapped_is l.is (λ v m a. l.is.not_both m a.1);
    ok = closed_ok;
    err = closed_fails;
  }
