-- Products keep to the laws where their fields do, and catch no want of memory.
use Rattle.bpaf_laws.proofs.Keeping.{AnswersLawfully, lawful_answer, keeps_current, LawfulAnswer}
use Rattle.bpaf_laws.specs.Product.{FailFastOutcome, ProductOutcome, BothOutcome, BothReads}
use Rattle.std.proofs.Common.{arith, inl, inr}
use Rattle.std.specs.Prelude.{if◌then◌else◌, Result, false, true, Err, Ok}
use Rattle.bpaf_line.specs.{declared.error.Error.Error, Situation.Situation, Messages.is_memory}
use Rattle.bpaf_laws.proofs.Keeping.{keeps_trans, reads_both, lawful_by, on_line}
use Rattle.bpaf_laws.specs.Laws.{WithoutMemory, IsNotMemory, Lawful, NamesAnswer, Spares}
use Rattle.bpaf_laws.specs.{Product.both_answers, Product.BothEval, Combinators.MapReads}
use Rattle.bpaf_laws.specs.Reading.{Readings, Outcome}

module _ {A B : Type 0} {first : Outcome A} {rest : Outcome B} {rf : Readings A} {rr : Readings B}
    (la : Lawful A first rf) (lb : Lawful B rest rr) where
  -- the answers of fields that were evaluated one after the other are one of both
  joined_answers : (s m t : Situation) (a : Result A Error) (b : Result B Error) → first s a m
      → rest m b t → LawfulAnswer (A × B) (BothReads A B rf rr) s (both_answers a b) t
  joined_answers s m t (Ok x) (Ok y) f g = reads_both (la.ok s m x f) (lb.ok m t y g)
  joined_answers s m t (Ok x) (Err e) f g =
      let kept = (la.ok s m x f).keeps in (
        keeps_trans s m t kept (lb.err m t e g),
        on_line (λ c. NamesAnswer c e.0) s m kept
            (lb.named m t e g),
      )
  joined_answers s m t (Err d) (Ok y) f g =
      (keeps_trans s m t (la.err s m d f) (lb.ok m t y g).keeps, la.named s m d f)
  joined_answers s m t (Err d) (Err e) f g =
      let before = la.err s m d f in
      let kept = keeps_trans s m t before (lb.err m t e g) in
      elim (is_memory e.0)
      as (λ z. LawfulAnswer (A × B) (BothReads A B rf rr) s (if z then Err e else Err d) t) [
        | true ↦ (kept, on_line (λ c. NamesAnswer c e.0) s m before (lb.named m t e g))
        | false ↦ (kept, la.named s m d f)
      ]

  -- the answer of an evaluation of both fields is lawful
  both_ran : AnswersLawfully (BothEval A B first rest) (BothReads A B rf rr)
  both_ran s r t o = rw o.answer (joined_answers s o.middle t o.a o.b o.first_ran o.rest_ran)

  -- fields that keep to the laws keep to them together
  pub both_lawful : Lawful (A × B) (BothOutcome first rest) (BothReads A B rf rr)
  both_lawful = lawful_by (λ s x t o. grind (arith, both_ran, lawful_answer))

  -- an answer where a failing first field is the end
  fail_fast_answers : AnswersLawfully (FailFastOutcome first rest) (BothReads A B rf rr)
  fail_fast_answers s (Ok v) t o = joined_answers s o.0 t (Ok v.0) (Ok v.1) o.1 o.2
  fail_fast_answers s (Err e) t (inl failed) = lawful_answer la s (Err e) t failed
  fail_fast_answers s (Err e) t (inr o) = joined_answers s o.1 t (Ok o.0) (Err e) o.2 o.3

  -- fields of which a failing first one is the end keep to the laws
  pub fail_fast_lawful : Lawful (A × B) (FailFastOutcome first rest) (BothReads A B rf rr)
  fail_fast_lawful = lawful_by fail_fast_answers

-- a product keeps to the laws where its fields do
pub product_lawful : {V T : Type 0} {fields : Outcome V} {reads : Readings V}
    (makes : V → T → Type 0) → Lawful V fields reads
    → Lawful T (ProductOutcome fields makes) (MapReads V T reads makes)
product_lawful makes l = grind (arith, AnswersLawfully, keeps_current, lawful_by)

module _ {A B : Type 0} (first : Outcome A) (rest without : Outcome B)
    (rests : Spares rest without) where
  -- an evaluation of a field and those after it
  spared_both : (s t : Situation) (r : Result (A × B) Error) → BothEval A B first rest s r t
      → IsNotMemory r → BothEval A B (WithoutMemory first) without s r t
  spared_both s t r ran spared = grind arith

  -- a field and those after it
  pub both_spares : Spares (BothOutcome first rest) (BothOutcome (WithoutMemory first) without)
  both_spares s t r ran spared = grind (arith, spared_both s t)

  -- where a failing first field is the end
  pub fail_fast_spares :
      Spares (FailFastOutcome first rest) (FailFastOutcome (WithoutMemory first) without)
  fail_fast_spares s t r ran spared = grind (arith, rests)

-- a product of fields
pub product_spares : {V T : Type 0} (fields without : Outcome V) (makes : V → T → Type 0)
    → Spares fields without → Spares (ProductOutcome fields makes) (ProductOutcome without makes)
product_spares fields without makes spares s t r ran spared = grind (arith, spares)
