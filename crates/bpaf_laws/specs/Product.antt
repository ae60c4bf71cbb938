-- Products: every field is evaluated, and a constructor makes the value of theirs.
use Rattle.std.specs.Prelude.{◌≡◌, true, ◌⊎◌, List, [], ◌∷◌, ◌++◌, Result, Ok, Err, None}
use Rattle.std.specs.Prelude.{if◌then◌else◌}
use Rattle.bpaf_doc.specs.Shape.{Shape, And, members}
use Rattle.bpaf_line.specs.Situation.{Situation, Context, with_current}
use Rattle.bpaf_line.specs.{Messages.is_memory, declared.error.Error.Error}
use Rattle.bpaf_laws.specs.Reading.{Share, Readings, Outcome, Joins}
use Rattle.bpaf_laws.specs.Laws.{IsNotMemory}

-- the join of the fields' shares, and the fields' values
pub record BothReads (A B : Type 0) (first : Readings A) (rest : Readings B) (context : Context)
    (share : Share) (v : A × B) : Type 0 where
  pub first_share : Share
  pub rest_share : Share
  pub joins : Joins first_share rest_share share
  pub first_read : first context first_share v.0
  pub rest_read : rest context rest_share v.1

-- the answer of evaluated fields: want of memory, else the first one's error, else the values
abbrev pub both_answers : {A B : Type 0} → Result A Error → Result B Error → Result (A × B) Error
both_answers (Ok a) (Ok b) = Ok (a, b)
both_answers (Ok a) (Err f) = Err f
both_answers (Err e) (Ok b) = Err e
both_answers (Err e) (Err f) = if is_memory f.0 then Err f else Err e

-- each field is evaluated, also after an error
pub record BothEval (A B : Type 0) (first : Outcome A) (rest : Outcome B) (s : Situation)
    (r : Result (A × B) Error) (t : Situation) : Type 0 where
  pub a : Result A Error
  pub middle : Situation
  pub b : Result B Error
  pub first_ran : first s a middle
  pub rest_ran : rest middle b t
  pub spared : IsNotMemory a
  pub answer : r ≡ both_answers a b

-- but want of memory is the answer at once
abbrev pub BothOutcome : {A B : Type 0} → Outcome A → Outcome B → Outcome (A × B)
BothOutcome {A} {B} first rest s (Ok v) t = BothEval A B first rest s (Ok v) t
BothOutcome {A} {B} first rest s (Err e) t =
    BothEval A B first rest s (Err e) t ⊎ (first s (Err e) t × (is_memory e.0 ≡ true))

-- a product: its fields, after which no word is current, then the constructor
abbrev pub ProductOutcome : {V T : Type 0} → Outcome V → (V → T → Type 0) → Outcome T
ProductOutcome {V} fields makes s (Ok v) t =
    (m : Situation) × (x : V) × fields s (Ok x) m × makes x v × (t ≡ with_current m None)
ProductOutcome fields makes s (Err e) t =
    (m : Situation) × fields s (Err e) m × (t ≡ with_current m None)

-- shapes that fields show, at the end of the old ones
abbrev pub AppendsShapes : (List Shape → Type 0) → List Shape → List Shape → Type 0
AppendsShapes describes old new = (more : List Shape) × describes more × (new ≡ old ++ more)

-- what one field shows
abbrev pub LastDescribes : (Shape → Type 0) → List Shape → Type 0
LastDescribes last shapes = (shape : Shape) × last shape × (shapes ≡ shape ∷ [])

-- what a field and those after it show
abbrev pub BothDescribes : (Shape → Type 0) → (List Shape → Type 0) → List Shape → Type 0
BothDescribes first rest shapes =
    (shape : Shape) × (others : List Shape) × first shape × rest others × (shapes ≡ shape ∷ others)

-- what a product shows: all that its fields show
abbrev pub ProductDescribes : (List Shape → Type 0) → Shape → Type 0
ProductDescribes fields shape =
    (shapes : List Shape) × fields shapes × (shape ≡ And (members shapes))

-- where a failing first field is the end: its error, else the others' error, else the values
abbrev pub FailFastOutcome : {A B : Type 0} → Outcome A → Outcome B → Outcome (A × B)
FailFastOutcome first rest s (Ok v) t = (m : Situation) × first s (Ok v.0) m × rest m (Ok v.1) t
FailFastOutcome {A} first rest s (Err e) t =
    first s (Err e) t ⊎ ((a : A) × (m : Situation) × first s (Ok a) m × rest m (Err e) t)
