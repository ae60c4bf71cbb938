-- A level: what its kind makes of the inner parsers, of several of one type or of a group of them.
use Rattle.std.specs.Prelude.{codes, List, Ok, Err, ◌∷◌, [], ◌≡◌, ◌≢◌, ℕ, Some, None, Result}
use Rattle.bpaf_laws.proofs.Keeping.{AnswersLawfully, keeps_refl, lawful_answer, lawful_by}
use Rattle.bpaf_grammar.specs.Grammar.{FieldsGrammar, Grammar, alone, both, choices_of}
use Rattle.bpaf_grammar.specs.Grammar.{describes_of, made, only, outcome_of, own, product, reads_of}
use Rattle.bench_values.specs.Modifiers.{Clones, ToldPair, ToldQuadruple, ToldTriple}
use Rattle.std.specs.{Prelude.String, Prelude.string_bytes, declared.alloc.Global.Global}
use Rattle.bpaf_doc.specs.{Shape.Part, Shape.part_of, declared.item.Item.Item}
use Rattle.bpaf_line.specs.{declared.error.Message.TheVariants.Memory, declared.error.Error.Error}
use Rattle.bpaf_line.specs.Situation.{Situation}
use Rattle.bpaf_laws.specs.Combinators.{GivesRefusal, MapReads, PureOutcome}
use Rattle.bpaf_laws.specs.{Adjacent.GroupDescribes, Adjacent.StretchReads, Reading.Readings}
use Rattle.bpaf_laws.specs.{Laws.IsNotMemory, Laws.Lawful, Product.ProductDescribes, Leaves.Looks}
use Rattle.bpaf_laws.proofs.{ShownNames.group_shows, ShownNames.product_shows, Keeping.names_same}
use Rattle.bpaf_laws.proofs.LeafLaws.{refusal_lawful}
use Rattle.bpaf_grammar.specs.{Grammar.shorts_of, Grammar.stretch, Laws.fields_show, Laws.lawful_of}
use Rattle.bpaf_grammar.specs.{Fast.fast_product, Leaves.refusal, Own.Own}
use Rattle.bpaf.specs.declared.adjacent.AdjacentError.TheVariants.{NoFirstItem}
use Rattle.bpaf.specs.Remembering.{IsFirstOf, IsRefused}
use Rattle.bench_values.specs.Modifiers.{called_grammar, over_grammar}
use Rattle.bench_values.specs.{declared.value.Value.Value, declared.kind.Kind.Kind}
use Rattle.bench_values.specs.declared.kind.Kind.TheVariants as kind
use Rattle.bench_values.specs.declared.value.Value.TheVariants as value

-- the message of any other number of parsers, which refuse every line
abbrev pub wrong_number : List ℕ
wrong_number = codes "wrong number of parsers"

-- a product whose values stay nested pairs and are told as one value
abbrev pub nested_grammar : {V : Type 0} → (V → Value → Type 0) → FieldsGrammar V → Grammar Value
nested_grammar told g = made told (product (λ x v. v ≡ x) g)

-- the product of two, three or four parsers
abbrev pub tuple_grammar : {P : Type 0} → (P → Grammar Value) → List P → Grammar Value
tuple_grammar of (p ∷ q ∷ []) = nested_grammar ToldPair (both (of p) (alone (of q)))
tuple_grammar of (p ∷ q ∷ r ∷ []) =
    nested_grammar ToldTriple (both (of p) (both (of q) (alone (of r))))
tuple_grammar of (p ∷ q ∷ r ∷ s ∷ []) =
    nested_grammar ToldQuadruple (both (of p) (both (of q) (both (of r) (alone (of s)))))
tuple_grammar of _ = own (refusal wrong_number)

-- Adjacent groups of parsers of one type.

-- the message of a group whose fields show no item first
abbrev pub no_first_item : List ℕ
no_first_item = codes "no first item"

-- a group of fields that begins with this item: their values are nested pairs, told as one value
abbrev pub begun_grammar : {V : Type 0} → (V → Value → Type 0) → FieldsGrammar V → Part
    → Grammar Value
begun_grammar told g first = made told (stretch first (own (fast_product (λ x v. v ≡ x) g)))

-- a group that begins with an item which its fields show first; a refusal where they show none; or
-- want of memory for a copy of that item
pub data GroupedOutcome {V : Type 0} (told : V → Value → Type 0) (g : FieldsGrammar V)
    (s : Situation) : Result Value Error → Situation → Type 0 where
  begun : (item : Item) (r : Result Value Error) (t : Situation)
      → IsFirstOf (ProductDescribes (describes_of g)) item
      → outcome_of (begun_grammar told g (part_of item)) s r t → GroupedOutcome told g s r t
  headless : (r : Result Value Error) (t : Situation)
      → IsRefused (ProductDescribes (describes_of g)) NoFirstItem
      → PureOutcome (GivesRefusal no_first_item) s r t → GroupedOutcome told g s r t
  wanted : (e : Error) → e.0 ≡ Memory → GroupedOutcome told g s (Err e) s

-- what is read of it
abbrev pub GroupedReads : {V : Type 0} → (V → Value → Type 0) → FieldsGrammar V → Readings Value
GroupedReads {V} told g =
    MapReads V Value (StretchReads V (MapReads V V (reads_of g) (λ x v. v ≡ x))) told

-- a group keeps to the laws
pub grouped_lawful : {V : Type 0} (told : V → Value → Type 0) (g : FieldsGrammar V)
    → Lawful Value (GroupedOutcome told g) (GroupedReads told g)
grouped_lawful told g = lawful_by answers
  where
    answers : AnswersLawfully (GroupedOutcome told g) (GroupedReads told g)
    answers s r t (begun item _ _ shown ran) =
        lawful_answer (lawful_of (begun_grammar told g (part_of item))) s r t ran
    answers s (Ok v) t (headless _ _ none refused) = absurd refused.0
    answers s (Err e) t (headless _ _ none refused) =
        lawful_answer (refusal_lawful {T = Value} no_first_item) s (Err e) t refused
    answers s r t (wanted e memory) = (keeps_refl s, names_same _ e.0 Memory tt memory)

-- a group of fields
abbrev pub grouped : {V : Type 0} → (V → Value → Type 0) → FieldsGrammar V → Own Value
grouped told g = record {
  outcome = GroupedOutcome told g;
  reads = GroupedReads told g;
  describes = GroupDescribes (ProductDescribes (describes_of g));
  shorts = shorts_of g;
  spared = λ s r t. IsNotMemory r → GroupedOutcome told g s r t;
  lawful = grouped_lawful told g;
  shows = group_shows (product_shows (fields_show g));
  spares = λ s t r o spared. o;
}

-- the group of two or three parsers
abbrev pub together_grammar : {P : Type 0} → (P → Grammar Value) → List P → Grammar Value
together_grammar of (p ∷ q ∷ []) = own (grouped ToldPair (both (of p) (alone (of q))))
together_grammar of (p ∷ q ∷ r ∷ []) =
    own (grouped ToldTriple (both (of p) (both (of q) (alone (of r)))))
together_grammar of _ = own (refusal wrong_number)

-- what a kind makes of the inner parsers: a modifier and a command are over the choice of them all,
-- in order
abbrev pub level_grammar : {P : Type 0} → (P → Grammar Value) → Clones → Kind → List P
    → Grammar Value
level_grammar of clones (kind.Over m) ps = over_grammar clones m (only (choices_of of ps))
level_grammar of clones kind.Product ps = tuple_grammar of ps
level_grammar of clones kind.Group ps = together_grammar of ps
level_grammar of clones kind.OrElse ps = only (choices_of of ps)
level_grammar of clones (kind.Command called adjacent) ps =
    called_grammar adjacent called (only (choices_of of ps))

-- the text as a value, where it is the wanted one
abbrev pub AcceptsText : List ℕ → Looks Value
AcceptsText accepted text (Some v) =
    (text ≡ accepted) × ((kept : String Global) × (v ≡ value.Text kept)
    × (string_bytes kept ≡ text))
AcceptsText accepted text None = text ≢ accepted
