-- A group by what its constructor makes of the values, the members of a short list, and a check
-- that accepts one text alone.
use Rattle.std.proofs.Common.{◌≡◌, ℕ, Bool, List, Result, Ok, Err, Option, Some, None, sym, ⊎_elim}
use Rattle.std.proofs.Common.{String, string_bytes, inl, inr, ◌<◌, ◌≤◌, [], ◌∷◌, length, get_or}
use Rattle.std.proofs.Common.{◌≢◌, IfOk, refl, arith}
use Rattle.std.proofs.lemmas.List.Elements.{All-weaker}
use Rattle.std.specs.declared.alloc.Global.{Global}
use Rattle.bpaf_doc.specs.Shape.{Any, Part, Skip, shape_of}
use Rattle.bpaf_doc.specs.{declared.doc.Piece.Piece, declared.meta.Meta.Meta}
use Rattle.bpaf_base.specs.{declared.arg.Arg.Arg, Items.item_text}
use Rattle.bpaf_line.specs.declared.error.Message.TheVariants.{Memory, Missing}
use Rattle.bpaf_line.specs.{declared.error.Message.Message, declared.error.Error.Error}
use Rattle.bpaf_line.specs.Situation.{Situation}
use Rattle.bpaf_laws.specs.Leaves.{Looks, AnyOutcome, AnyFails, ArePassed, ChecksText}
use Rattle.bpaf_laws.specs.{Adjacent.GroupDescribes, Adjacent.GroupOutcome, Product.ProductOutcome}
use Rattle.bpaf_laws.specs.{Reading.Outcome, Laws.Spares}
use Rattle.bpaf_laws.proofs.AdjacentLaws.{spared_group}
use Rattle.bench_rows.specs.Levels.{AcceptsText, together_grammar, tuple_grammar}
use Rattle.bench_values.specs.declared.value.Value.{Value}
use Rattle.bpaf_grammar.specs.{Grammar.Grammar, Grammar.describes_of, Own.MadeOutcome}

module _ {T : Type 0} (looks more : Looks T)
    (allows : (text : List ℕ) (found : Option T) → looks text found → more text found)
    (part : Part) (anywhere : Bool) (s t : Situation) where
  -- items that are passed by are so by a look that allows more
  passed_more : (items : List (ℕ × Arg)) → ArePassed looks items → ArePassed more items
  passed_more items = All-weaker (λ placed. looks (item_text placed.1) None)
      (λ placed. more (item_text placed.1) None) (λ placed. allows (item_text placed.1) None) items

  -- a refusal is one of a look that allows more
  fails_more : (m : Message) → AnyFails looks part anywhere s m t
      → AnyFails more part anywhere s m t
  fails_more (Missing items) fails = ((passed_more _ fails.0.0, fails.0.1), fails.1)
  fails_more Memory fails = fails
  fails_more other fails = absurd fails

  -- what is answered is answered by a look that allows more
  any_more : (r : Result T Error) → AnyOutcome looks part anywhere s r t
      → AnyOutcome more part anywhere s r t
  any_more (Ok v) o = (
    o.0,
    o.1,
    record {
      before = o.2.before;
      after = o.2.after;
      split = o.2.split;
      passed = passed_more o.2.before o.2.passed;
      matched = allows _ (Some v) o.2.matched;
    },
    o.3,
  )
  any_more (Err e) o = fails_more e.0 o

-- what a value means as a text
abbrev pub MeansText : List ℕ → String Global → Type 0
MeansText text kept = string_bytes kept ≡ text

-- a check of texts that accepts the wanted one alone is a look that does
accepts_text : (accepted : String Global) (checks : String Global → Option Value → Type 0)
    → ((x : String Global) (found : Option Value) → checks x found
    → AcceptsText (string_bytes accepted) (string_bytes x) found)
    → (text : List ℕ) (found : Option Value) → ChecksText MeansText checks text found
    → AcceptsText (string_bytes accepted) text found
accepts_text accepted checks by text (Some v) look = rw look.1 at (by look.0 (Some v) look.2)
accepts_text accepted checks by text None look = ⊎_elim
    (λ unread. λ same. unread accepted (sym same))
    (λ seen. rw seen.1 at (by seen.0 None seen.2)) look

-- what `any` answers by such a check, shown by an equal metavar
pub accepted_by : (accepted : String Global) {checks : String Global → Option Value → Type 0}
    → ((x : String Global) (found : Option Value) → checks x found
    → AcceptsText (string_bytes accepted) (string_bytes x) found)
    → {metavar shown : List Piece} → metavar ≡ shown
    → (anywhere : Bool) (s t : Situation) (r : Result Value Error)
    → AnyOutcome (ChecksText MeansText checks) (Any metavar None anywhere) anywhere s r t
    → AnyOutcome (AcceptsText (string_bytes accepted)) (Any shown None anywhere) anywhere s r t
accepted_by accepted {checks} by {metavar} is anywhere s t r o =
    rw (← is) (any_more (ChecksText MeansText checks) (AcceptsText (string_bytes accepted))
    (accepts_text accepted checks by) (Any metavar None anywhere) anywhere s t r o)

-- A product and a group by what their constructor makes of the values: here the values themselves.

-- a constructor that makes of values these values
abbrev pub IsSame : {V : Type 0} → (V → V → Type 0) → Type 0
IsSame {V} makes = (x y : V) → makes x y → y ≡ x

-- a product by such a constructor
same_product : {V : Type 0} (fields : Outcome V) {makes : V → V → Type 0} → IsSame makes
    → Spares (ProductOutcome fields makes) (ProductOutcome fields (λ x v. v ≡ x))
same_product fields same s t (Ok v) ran spared = (ran.0, ran.1, ran.2, same ran.1 v ran.3, ran.4)
same_product fields same s t (Err e) ran spared = ran

-- what is told of the one answer is told of the other, where each is such a one
told_as : {V : Type 0} (inner more : Outcome V) (told : V → Value → Type 0) (s t : Situation)
    → ((r : Result V Error) → inner s r t → more s r t) → (r : Result Value Error)
    → MadeOutcome inner told s r t → MadeOutcome more told s r t
told_as inner more told s t by (Ok v) ran = (ran.0, by (Ok ran.0) ran.1, ran.2)
told_as inner more told s t by (Err e) ran = ⊎_elim (λ refusal. inl (by (Err e) refusal))
    (λ short. inr (short.0, by (Ok short.0) short.1, short.2)) ran

-- a product by such a constructor, told as one value
pub nested_by : {V : Type 0} (fields : Outcome V) {makes : V → V → Type 0}
    (told : V → Value → Type 0) (s t : Situation) (r : Result Value Error)
    → MadeOutcome (ProductOutcome fields makes) told s r t → IsSame makes
    → MadeOutcome (ProductOutcome fields (λ x v. v ≡ x)) told s r t
nested_by {V} fields {makes} told s t r ran same = told_as (ProductOutcome fields makes)
    (ProductOutcome fields (λ x v. v ≡ x)) told s t by_answer r ran
  where
    by_answer : (r : Result V Error) → ProductOutcome fields makes s r t
        → ProductOutcome fields (λ x v. v ≡ x) s r t
    by_answer (Ok v) ran = same_product fields same s t (Ok v) ran tt
    by_answer (Err e) ran = ran

-- a group by such a constructor that begins with an item, told as one value
pub begun_by : {V : Type 0} (fast : Outcome V) {makes : V → V → Type 0}
    (told : V → Value → Type 0) (first : Part) (s t : Situation) (r : Result Value Error)
    → MadeOutcome (GroupOutcome V (ProductOutcome fast makes) first) told s r t → IsSame makes
    → MadeOutcome (GroupOutcome V (ProductOutcome fast (λ x v. v ≡ x)) first) told s r t
begun_by {V} fast {makes} told first s t r ran same = told_as
    (GroupOutcome V (ProductOutcome fast makes) first)
    (GroupOutcome V (ProductOutcome fast (λ x v. v ≡ x)) first) told s t
    (λ answer group. spared_group _ _ (same_product fast same) s group) r ran

-- two members
pub two_members : {T : Type 0} (xs : List T) (a b : T) → 2 ≤ length xs → length xs < 3
    → a ≡ get_or xs 0 a → b ≡ get_or xs 1 b → xs ≡ a ∷ b ∷ []
two_members [] a b at_least below ea eb = absurd (omega (arith, at_least))
two_members (p ∷ []) a b at_least below ea eb = absurd (omega (arith, at_least))
two_members (p ∷ q ∷ []) a b at_least below ea eb = rw (ea, eb) refl
two_members (p ∷ q ∷ r ∷ xs) a b at_least below ea eb = absurd (omega (arith, below))

-- three members
pub three_members : {T : Type 0} (xs : List T) (a b c : T) → 3 ≤ length xs → length xs < 4
    → a ≡ get_or xs 0 a → b ≡ get_or xs 1 b → c ≡ get_or xs 2 c → xs ≡ a ∷ b ∷ c ∷ []
three_members [] a b c at_least below ea eb ec = absurd (omega (arith, at_least))
three_members (p ∷ []) a b c at_least below ea eb ec = absurd (omega (arith, at_least))
three_members (p ∷ q ∷ []) a b c at_least below ea eb ec = absurd (omega (arith, at_least))
three_members (p ∷ q ∷ r ∷ []) a b c at_least below ea eb ec = rw (ea, eb, ec) refl
three_members (p ∷ q ∷ r ∷ s ∷ xs) a b c at_least below ea eb ec = absurd (omega (arith, below))

-- four members
pub four_members : {T : Type 0} (xs : List T) (a b c d : T) → 4 ≤ length xs → length xs < 5
    → a ≡ get_or xs 0 a → b ≡ get_or xs 1 b → c ≡ get_or xs 2 c → d ≡ get_or xs 3 d
    → xs ≡ a ∷ b ∷ c ∷ d ∷ []
four_members [] a b c d at_least below ea eb ec ed = absurd (omega (arith, at_least))
four_members (p ∷ []) a b c d at_least below ea eb ec ed = absurd (omega (arith, at_least))
four_members (p ∷ q ∷ []) a b c d at_least below ea eb ec ed = absurd (omega (arith, at_least))
four_members (p ∷ q ∷ r ∷ []) a b c d at_least below ea eb ec ed = absurd (omega (arith, at_least))
four_members (p ∷ q ∷ r ∷ s ∷ []) a b c d at_least below ea eb ec ed = rw (ea, eb, ec, ed) refl
four_members (p ∷ q ∷ r ∷ s ∷ t ∷ xs) a b c d at_least below ea eb ec ed =
    absurd (omega (arith, below))

-- another number of parsers shows nothing
pub others_show : {P E : Type 0} (of : P → Grammar Value) (ps : List P) → length ps ≢ 2
    → length ps ≢ 3 → length ps ≢ 4 → (r : Result Meta E) → IfOk r (λ meta. shape_of meta ≡ Skip)
    → IfOk r (λ meta. describes_of (tuple_grammar of ps) (shape_of meta))
others_show of [] two three four r shown = shown
others_show of (p ∷ []) two three four r shown = shown
others_show of (p ∷ q ∷ []) two three four r shown = absurd (two refl)
others_show of (p ∷ q ∷ r ∷ []) two three four answer shown = absurd (three refl)
others_show of (p ∷ q ∷ r ∷ s ∷ []) two three four answer shown = absurd (four refl)
others_show of (p ∷ q ∷ r ∷ s ∷ t ∷ ps) two three four answer shown = shown

-- a group of two or three shows their product, as what stands together
pub group_shows : {P E : Type 0} (of : P → Grammar Value) (ps : List P) → 2 ≤ length ps
    → length ps < 4 → (r : Result Meta E)
    → IfOk r (λ meta. GroupDescribes (describes_of (tuple_grammar of ps)) (shape_of meta))
    → IfOk r (λ meta. describes_of (together_grammar of ps) (shape_of meta))
group_shows of [] least below r shown = absurd (omega (arith, least))
group_shows of (p ∷ []) least below r shown = absurd (omega (arith, least))
group_shows of (p ∷ q ∷ []) least below r shown = shown
group_shows of (p ∷ q ∷ r ∷ []) least below answer shown = shown
group_shows of (p ∷ q ∷ r ∷ s ∷ ps) least below answer shown = absurd (omega (arith, below))

-- another number of them shows nothing
pub other_groups_show : {P E : Type 0} (of : P → Grammar Value) (ps : List P) → length ps ≢ 2
    → length ps ≢ 3 → (r : Result Meta E) → IfOk r (λ meta. shape_of meta ≡ Skip)
    → IfOk r (λ meta. describes_of (together_grammar of ps) (shape_of meta))
other_groups_show of [] two three r shown = shown
other_groups_show of (p ∷ []) two three r shown = shown
other_groups_show of (p ∷ q ∷ []) two three r shown = absurd (two refl)
other_groups_show of (p ∷ q ∷ r ∷ []) two three answer shown = absurd (three refl)
other_groups_show of (p ∷ q ∷ r ∷ s ∷ ps) two three answer shown = shown
