-- Closures round fields; positional fields, with closures, optional and fallback.
use Rattle.std.proofs.Common.{Option, arith, false, subst, List, None, Some, refl, Err, inl, inr}
use Rattle.std.proofs.Common.{sym, ◌∙◌, ◌≡◌, Ok, [], Bool}
use Rattle.std.specs.Option.{IsSomeRelated, is_some}
use Rattle.bpaf_line.specs.{declared.error.Error.Error, Situation.Situation}
use Rattle.bpaf_laws.specs.Reading.{Outcome}
use Rattle.bpaf_exact.proofs.Repeat.{stopped_by, catch_none, stops_by, not_empty}
use Rattle.bpaf_exact.proofs.{Names.back_all, Product.steady_refl}
use Rattle.bpaf_exact.specs.Flat.{fallback_memory, OneWord, FallbackValue, OptionalValue}
use Rattle.bpaf_exact.specs.Flat.{closed_memory, cells, optional_none, optional_some, FallbackEval}
use Rattle.bpaf_exact.specs.Flat.{OptionalEval, Refused, fallback_err, optional_err, fallback_ok}
use Rattle.bpaf_exact.specs.Flat.{SingleValue, ClosedEval, closed_err, closed_gap, class}
use Rattle.bpaf_exact.specs.Flat.{closed_yes, FieldKind, FieldTook, IsWholeIn, FieldLaw, OfMemory}
use Rattle.bpaf_exact.specs.Flat.{front, AgreesOn, KeepsTo, Closure, Variables, SingleErr}
use Rattle.bpaf_exact.specs.Flat.{SingleLaw, TookGroup, closed_no, Decides, Groups, Gap}
use Rattle.bpaf_exact.specs.Flat.{optional_memory, fallback_given, ClosedValue, fallback_no}
use Rattle.bpaf_exact.specs.Flat.{ErrorClass, of_memory, of_missing, of_piece, CanCatch, OfMissing}
use Rattle.bpaf_exact.specs.Pieces.{takes_more, takes_none, LinePiece, pieces, Roles}

-- what a closure makes of an outcome keeps to what follows of each answer inside
pub closed_keeps : {env : Variables} {A B : Type 0} {inner : Outcome A} {f : Closure A B}
    (c : ErrorClass) {gives : Situation → A → Situation → Type 0}
    {gave : Situation → B → Situation → Type 0}
    {refuses refused : Situation → ErrorClass → Situation → Type 0}
    → KeepsTo env A inner gives refuses
    → ((s t : Situation) (x : A) (v : B) → gives s x t → f.yes x v → gave s v t)
    → ((s t : Situation) (x : A) → gives s x t → f.no x → refused s c t)
    → ((s t : Situation) → refused s OfMemory t)
    → ((s t : Situation) (d : ErrorClass) → refuses s d t → refused s d t)
    → KeepsTo env B (ClosedEval A B inner f c) gave refused
closed_keeps {env} {A} {B} {inner} {f} c {gave} {refused} l accepts declines wants fails =
    record { ok = by_ok; err = by_err }
  where
    by_ok : (s t : Situation) (v : B) → IsWholeIn env s → ClosedEval A B inner f c s (Ok v) t
        → gave s v t
    by_ok s t v w (closed_yes {x} i y) = accepts s t x v (l.ok s t x w i) y

    by_err : (s t : Situation) (e : Error) → IsWholeIn env s
        → ClosedEval A B inner f c s (Err e) t → refused s (class e) t
    by_err s t e w (closed_no {x} i n g calm) = grind arith
    by_err s t e w (closed_memory i m) = subst (λ z. refused s z t) (sym m) (wants s t)
    by_err s t e w (closed_err i) = fails s t (class e) (l.err s t e w i)

-- outer closures
module _ {env : Variables} {A B : Type 0} {inner : Outcome A} {k : FieldKind} {q : Roles}
    {value : List LinePiece → A → Type 0} (l : FieldLaw env A inner k q value) {f : Closure A B}
    (agrees : (os : List LinePiece) → AgreesOn (value os) f) (c : ErrorClass) where
  -- a closure round a field is one
  pub closed_law : FieldLaw env B (ClosedEval A B inner f c) k q (ClosedValue value f)
  closed_law = grind (arith, closed_keeps)

-- A positional field.
module _ {env : Variables} {T : Type 0} {inner : Outcome T} {stops : Bool} {q : Roles}
    {group : Groups T} {gap : Gap T} (l : SingleLaw env T inner stops q group gap) where
  -- its portion
  abbrev own : Situation → List LinePiece
  own s = front (OneWord stops) (pieces q (cells s))

  -- a word that was read is the portion
  front_read : (s t : Situation) {v : T} → TookGroup T q group s v t
      → SingleValue T group gap (own s) v
  front_read s t h = inl (l.words.by_front _ _ _ h.read).0

  -- with it what has a value on that is one of a field
  word_took : {B : Type 0} (value : List LinePiece → B → Type 0) {s t : Situation} {v : T} (u : B)
      → TookGroup T q group s v t → value (own s) u → FieldTook B (OneWord stops) q value s u t
  word_took value u h y = record {
    steady = h.steady;
    takes = takes_more h.takes.one h.takes.more;
    read = λ n. y;
    rest = λ n. (l.words.by_front _ _ _ h.read).1;
    all = λ w g. tt;
  }

  -- what stands for no word, as an own value
  given_took : {B : Type 0} (value : List LinePiece → B → Type 0) {s : Situation} (u : B)
      → own s ≡ [] → value (own s) u → FieldTook B (OneWord stops) q value s u s
  given_took value u none y = record {
    steady = steady_refl;
    takes = takes_none;
    read = λ n. y;
    rest = λ n. sym (back_all (OneWord stops) none);
    all = λ w g. tt;
  }

  -- no word has no value
  none_given : (os : List LinePiece) {v : T} → front (OneWord stops) os ≡ []
      → SingleValue T group gap (front (OneWord stops) os) v → ⊥
  none_given os {v} none (inl g) = not_empty l (l.words.of_front os v g) none
  none_given os {v = v} none (inr a) = l.is.no_absent v l.none a.1

  -- where the portion has a value, a refusal is want of memory
  single_refuses : (s t : Situation) {c : ErrorClass} {v : T} → SingleErr T stops q group s c t
      → SingleValue T group gap (own s) v → c ≡ OfMemory
  single_refuses s t (of_memory c) g = c
  single_refuses s t (of_missing h none same) g = absurd (none_given (pieces q (cells s)) none g)
  single_refuses s t {v = v} (of_piece c some none) (inl g) =
      absurd (none v _ (l.words.of_front _ v g))
  single_refuses s t (of_piece c some none) (inr a) = absurd (some a.0)

  -- without a word, what isn't caught is want of memory
  none_fails : {s t : Situation} {c : ErrorClass}
      → (CanCatch c → (c ≡ OfMissing → cells t ≡ cells s) → ⊥) → own s ≡ []
      → SingleErr T stops q group s c t → c ≡ OfMemory
  none_fails n none x = grind arith

  -- a field without a repeat or default keeps to the laws of a field
  pub single_law : FieldLaw env T inner (OneWord stops) q (SingleValue T group gap)
  single_law = record {
    own = l.own;
    keeps = record {
      ok = λ s t v w i. let h = l.keeps.ok s t v w i in
          word_took (SingleValue T group gap) v h (front_read s t h);
      err = λ s t e w i v g. single_refuses s t (l.keeps.err s t e w i) g;
    };
  }

  -- optional

  -- a value that may be left out
  optional_ok : (s t : Situation) (v : Option T) → IsWholeIn env s → OptionalEval T inner s (Ok v) t
      → FieldTook (Option T) (OneWord stops) q (OptionalValue T group gap) s v t
  optional_ok s t v w (optional_some {v = x} i) = let h = l.keeps.ok s t x w i in
      word_took (OptionalValue T group gap) (Some x) h (front_read s t h)
  optional_ok s t v w (optional_none {e} {m} i h) =
      let none = catch_none (stopped_by h) (l.keeps.err s m e w i) in
      given_took (OptionalValue T group gap) None none (none, l.none)

  -- where the portion has a value, a refusal is want of memory
  optional_refuses : (s t : Situation) (e : Error) → IsWholeIn env s
      → OptionalEval T inner s (Err e) t → (v : Option T)
      → OptionalValue T group gap (own s) v → class e ≡ OfMemory
  optional_refuses s t e w (optional_err i n) (Some y) g =
      single_refuses s t (l.keeps.err s t e w i) g
  optional_refuses s t e w (optional_err i n) None g =
      none_fails (λ h same. n (stops_by h same)) g.0 (l.keeps.err s t e w i)
  optional_refuses s t e w (optional_memory c) v g = c

  -- what may be left out keeps to the laws of a field
  pub left_out_law : FieldLaw env (Option T) (OptionalEval T inner) (OneWord stops) q
      (OptionalValue T group gap)
  left_out_law = record { own = l.own; keeps = record { ok = optional_ok; err = optional_refuses } }

  -- fallback

  module _ {f : Closure (Unit {0}) T} (decides : Decides f) where
    fallback_took : (s t : Situation) (v : T) → IsWholeIn env s → FallbackEval T inner f s (Ok v) t
        → FieldTook T (OneWord stops) q (FallbackValue T group gap f) s v t
    fallback_took s t v w (fallback_ok i) = let h = l.keeps.ok s t v w i in
        word_took (FallbackValue T group gap f) v h (inl (front_read s t h))
    fallback_took s t v w (fallback_given {e} {m} i h y) =
        let none = catch_none h (l.keeps.err s m e w i) in
        given_took (FallbackValue T group gap f) v none (inr (none, l.none, y))

    -- where the portion has a value, a refusal is want of memory
    fallback_refuses : (s t : Situation) (g : Error) → IsWholeIn env s
        → FallbackEval T inner f s (Err g) t → (v : T)
        → FallbackValue T group gap f (own s) v → class g ≡ OfMemory
    fallback_refuses s t g w (fallback_no {e} {m} i h n c calm) v (inl o) =
        absurd (none_given (pieces q (cells s)) (catch_none h (l.keeps.err s m e w i)) o)
    fallback_refuses s t g w (fallback_no i h n c calm) v (inr p) = absurd (decides tt v p.2 n)
    fallback_refuses s t g w (fallback_memory c) v view = c
    fallback_refuses s t g w (fallback_err {m} i n) v (inl o) =
        single_refuses s m (l.keeps.err s m g w i) o
    fallback_refuses s t g w (fallback_err {m} i n) v (inr p) =
        none_fails (λ h same. n h) p.0 (l.keeps.err s m g w i)

    pub fallback_field : FieldLaw env T (FallbackEval T inner f) (OneWord stops) q
        (FallbackValue T group gap f)
    fallback_field =
        record { own = l.own; keeps = record { ok = fallback_took; err = fallback_refuses } }

-- without something there is nothing that it means
pub gap_empty : {X T : Type 0} (means : X → T → Type 0) (kept : Option X) (v : T)
    → is_some kept ≡ false → IsSomeRelated means kept v → ⊥
gap_empty means x v h a = grind arith

-- inner closures round a positional field without a repeat or default
module _ {env : Variables} {A B : Type 0} {inner : Outcome A} {stops : Bool} {q : Roles}
    {group : Groups A} {gap : Gap A} (l : SingleLaw env A inner stops q group gap) {f : Closure A B}
    (agrees : (os rest : List LinePiece) → AgreesOn (λ v. group os v rest) f) where
  -- one evaluation through the closure
  abbrev closed_group : Groups B
  closed_group os v rest = ClosedValue (λ x a. group x a rest) f os v

  -- where the closure refuses its value, the word can't be read
  no_single : (s t : Situation) (x : A) → TookGroup A q group s x t → f.no x
      → SingleErr B stops q closed_group s Refused t
  no_single s t x h n = of_piece refl (not_empty l h.read) (λ w rest c.
      let same : rest ≡ pieces q (cells t) = (l.words.by_front _ _ _ c.read).1
      ∙ sym (l.words.by_front _ _ _ h.read).1 in
      agrees (pieces q (cells s)) rest c.from x w c.read (rw same h.read) c.made n)

  -- what can't be read can't be read through a closure
  err_single : (s t : Situation) (c : ErrorClass) → SingleErr A stops q group s c t
      → SingleErr B stops q closed_group s c t
  err_single s t c x = grind arith

  -- a closure round a single field is one
  pub closed_single : SingleLaw env B (ClosedEval A B inner f Refused) stops q closed_group
      (closed_gap gap f)
  closed_single = record {
    own = l.own;
    words = grind (arith, l.words);
    is = record {
      starts = λ v rest g. l.is.starts g.from rest g.read;
      no_absent = λ v h a. l.is.no_absent a.0 h a.1;
    };
    none = l.none;
    keeps = closed_keeps Refused l.keeps (λ s t x v h y. record {
      steady = h.steady;
      takes = h.takes;
      read = record { from = x; read = h.read; made = y };
    }) no_single (λ s t. of_memory refl) err_single;
  }
