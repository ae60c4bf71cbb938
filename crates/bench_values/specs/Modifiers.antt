-- One parser under a modifier or as a command, and what values are told as.
use Rattle.std.specs.Prelude.{◌≡◌, ⊤, ℕ, ◌/◌, Bool, not, List, Result, Ok, Err, Option, Some, None}
use Rattle.bpaf_grammar.specs.Grammar.{Grammar, answered, cloned, closed, collect, command, count}
use Rattle.bpaf_grammar.specs.Grammar.{describes_of, dressed, fallback, guarded, hide, last, made}
use Rattle.bpaf_grammar.specs.Grammar.{many, mapped, optional, outcome_of, own, parsed, reads_of}
use Rattle.std.specs.Prelude.{◌⊎◌, true, [], ◌∷◌, All, codes, false}
use Rattle.std.specs.{declared.collections.VecDeque.VecDeque, declared.alloc.Global.Global}
use Rattle.std.specs.Global.{Box, Vec}
use Rattle.bench_values.specs.declared.value.Value.TheVariants.{Absent, Present, Tuple}
use Rattle.bench_values.specs.{declared.kind.Modifier.Modifier, declared.value.Value.Value}
use Rattle.std.proofs.Common.{⊎_elim, ap, inl, inr, sym, true≢false, ◌∙◌}
use Rattle.bpaf_laws.specs.Combinators.{ParseOutcome, Gives, GivesAnswer}
use Rattle.bpaf_laws.specs.{Laws.IsNotMemory, Laws.Spares, Laws.Lawful, Command.Called}
use Rattle.bpaf_laws.specs.Reading.{Readings, Outcome}
use Rattle.bpaf_grammar.specs.{Grammar.repeat, Grammar.shorts_of, Grammar.some, Own.Own}
use Rattle.bpaf_grammar.specs.Laws.{lawful_of, shows_of}
use Rattle.bpaf_line.specs.{declared.error.Message.TheVariants.Memory, Messages.is_memory}
use Rattle.bpaf_laws.proofs.Keeping.{names_same, keeps_same}
use Rattle.bpaf_keys.specs.Info.{plain_info}
use Rattle.bench_values.specs.declared.value.Value.TheVariants as value
use Rattle.bench_values.specs.declared.kind.Modifier.TheVariants as over

-- a number halved, a bool negated, all else as it is
pub record IsHalf (x v : Value) : Type 0 where
  pub number : (n : ℕ) → x ≡ value.Number n → v ≡ value.Number (n / 2)
  pub truth : (b : Bool) → x ≡ value.Bool b → v ≡ value.Bool (not b)
  pub other : ((n : ℕ) → x ≡ value.Number n → ⊥) → ((b : Bool) → x ≡ value.Bool b → ⊥) → v ≡ x

-- a value that is accepted is answered as it is; which ones are isn't said
abbrev pub Accepts : {E : Type 0} → Value → Result Value E → Type 0
Accepts x (Ok v) = v ≡ x
Accepts x (Err e) = ⊤

-- a check may answer either way
abbrev pub Checks : Value → Bool → Type 0
Checks x b = ⊤

-- a number, where there is one
abbrev pub AnswersNumber : {E : Type 0} → Option ℕ → Result Value E → Type 0
AnswersNumber (Some n) (Ok v) = v ≡ value.Number n
AnswersNumber (Some n) (Err e) = ⊥
AnswersNumber None (Ok v) = ⊥
AnswersNumber None (Err e) = ⊤

-- the text of a fault isn't said
abbrev pub untold : {E : Type 0} → E → Option (List ℕ)
untold fault = None

-- an optional value
abbrev pub ToldOption : Option Value → Value → Type 0
ToldOption (Some x) v = (kept : Box Value) × (v ≡ Present kept) × (kept.value ≡ x)
ToldOption None v = v ≡ Absent

-- these values, as a tuple
abbrev pub IsTupleOf : List Value → Value → Type 0
IsTupleOf members v = (values : Vec Value) × (v ≡ Tuple values) × (values.items ≡ members)

-- two values
abbrev pub ToldPair : Value × Value → Value → Type 0
ToldPair x v = IsTupleOf (x.0 ∷ x.1 ∷ []) v

-- three values, the last two in a pair of their own
abbrev pub ToldTriple : Value × (Value × Value) → Value → Type 0
ToldTriple x v = IsTupleOf (x.0 ∷ x.1.0 ∷ x.1.1 ∷ []) v

-- four values, nested likewise
abbrev pub ToldQuadruple : Value × (Value × (Value × Value)) → Value → Type 0
ToldQuadruple x v = IsTupleOf (x.0 ∷ x.1.0 ∷ x.1.1.0 ∷ x.1.1.1 ∷ []) v

-- a queue: its values as a list
abbrev pub ToldQueue : VecDeque Value Global → Value → Type 0
ToldQueue x v = (values : Vec Value) × (v ≡ value.List values) × (values.items ≡ x.items)

-- what holds of each value holds of all members
pub all_of : {T : Type 0} {P : T → Type 0} → ((x : T) → P x) → (xs : List T) → All P xs
all_of each xs = λ k d within. each _

-- What one parser answers under a modifier.

-- a list of values
abbrev pub ToldList : Vec Value → Value → Type 0
ToldList x v = v ≡ value.List x

-- the number of values
abbrev pub ToldCount : ℕ → Value → Type 0
ToldCount x v = v ≡ value.Number x

-- a number
abbrev pub number_of : ℕ → Value
number_of n = value.Number n

-- what fills a queue
abbrev pub FillsQueue : List Value → VecDeque Value Global → Type 0
FillsQueue items queue = queue.items ≡ items

-- the message of an empty list
abbrev pub need_one : List ℕ
need_one = codes "need one"

-- the message of a check
abbrev pub too_much : List ℕ
too_much = codes "too much"

-- a number, or a refusal without one
abbrev pub GivesNumber : Option ℕ → Gives Value
GivesNumber number = GivesAnswer {T = Value} {E = Unit {0}} (AnswersNumber number) untold

-- an inner value that is accepted; or a refusal of it
abbrev pub AcceptOutcome : Outcome Value → Outcome Value
AcceptOutcome inner = ParseOutcome {T = Value} {R = Value} {E = Unit {0}} inner Accepts untold

-- which values are clones of one another
abbrev pub Clones : Type 1
Clones = Value → Value → Type 0

-- a parser under a modifier; the clones are those of a value
abbrev pub over_grammar : Clones → Modifier → Grammar Value → Grammar Value
over_grammar clones over.Same g = g
over_grammar clones (over.Optional catch) g = made ToldOption (optional catch g)
over_grammar clones (over.Many catch) g = made ToldList (repeat (many catch) g)
over_grammar clones (over.Some catch) g = made ToldList (repeat (some catch need_one) g)
over_grammar clones (over.Collect catch) g = made ToldQueue (repeat (collect catch FillsQueue) g)
over_grammar clones over.Count g = made ToldCount (repeat count g)
over_grammar clones over.Last g = last g
over_grammar clones over.Map g = closed (mapped IsHalf) g
over_grammar clones (over.Guard limit) g = closed (guarded Checks too_much) g
over_grammar clones (over.Parse limit) g = closed (parsed {E = Unit {0}} Accepts untold) g
over_grammar clones (over.Fallback n) g = fallback None (cloned clones (number_of n)) g
over_grammar clones (over.FallbackWith number) g =
    fallback None (answered {E = Unit {0}} (AnswersNumber number) untold) g
over_grammar clones over.Hide g = dressed hide g

-- what a parser answers; or want of memory before it
abbrev pub OrMemory : Outcome Value → Outcome Value
OrMemory inner s (Ok v) t = inner s (Ok v) t
OrMemory inner s (Err e) t = inner s (Err e) t ⊎ ((e.0 ≡ Memory) × (t ≡ s))

-- it keeps to the laws where the parser does
pub or_memory_lawful : {inner : Outcome Value} {reads : Readings Value} → Lawful Value inner reads
    → Lawful Value (OrMemory inner) reads
or_memory_lawful law = record {
  ok = λ s t v o. law.ok s t v o;
  err = λ s t e o. ⊎_elim (λ refused. law.err s t e refused) (λ wanted. keeps_same s t wanted.1) o;
  named = λ s t e o. ⊎_elim (λ refused. law.named s t e refused)
      (λ wanted. names_same _ e.0 Memory tt wanted.0) o;
}

-- an answer that isn't want of memory is the parser's
pub or_memory_spares : (inner : Outcome Value) → Spares (OrMemory inner) inner
or_memory_spares inner s t (Ok v) o spared = o
or_memory_spares inner s t (Err e) (inl refused) spared = refused
or_memory_spares inner s t (Err e) (inr wanted) spared =
    absurd (true≢false (sym (ap is_memory wanted.0) ∙ spared))

-- a parser for which memory may be wanted
abbrev pub or_memory : Grammar Value → Own Value
or_memory g = record {
  outcome = OrMemory (outcome_of g);
  reads = reads_of g;
  describes = describes_of g;
  shorts = shorts_of g;
  spared = λ s r t. IsNotMemory r → outcome_of g s r t;
  lawful = or_memory_lawful (lawful_of g);
  shows = shows_of g;
  spares = or_memory_spares (outcome_of g);
}

-- a command of these names, adjacent or plain, without a help; memory is wanted for its names
abbrev pub called_grammar : Bool → Called → Grammar Value → Grammar Value
called_grammar adjacent called g = own (or_memory (command adjacent called plain_info None g))
