-- Flags, items that a look matches, the program's name and leaves without items keep to the laws.
use Rattle.std.proofs.Common.{if◌then◌else◌, option_map, Option, String, ⊎_elim, false, subst, Bool}
use Rattle.std.proofs.Common.{arith, true, List, refl, Some, ◌≡◌, sym, inl, inr, ◌+◌, ◌∷◌, ◌⊎◌, []}
use Rattle.std.proofs.lemmas.List.Elements.{Contains-append_right, All-contains, All-cons, All-take}
use Rattle.std.proofs.{Common.true≢false, Common.◌∙◌, Common.ℕ, lemmas.List.Elements.All-nil}
use Rattle.std.specs.Prelude.{Contains, Err, All, Ok}
use Rattle.std.specs.{List.cons_option, List.filter_map, declared.alloc.Global.Global}
use Rattle.bpaf_base.specs.{Items.is_attached, Items.is_key_of, declared.arg.Arg.Arg}
use Rattle.bpaf_doc.specs.{Names.Names, Shape.Part}
use Rattle.bpaf_text.specs.Named.{Named}
use Rattle.bpaf_line.specs.declared.error.Message.{Message}
use Rattle.bpaf_line.specs.Taking.{placed_item, TakesFlag, open_item}
use Rattle.bpaf_line.specs.Situation.{take_place, Situation, is_open, item_at}
use Rattle.bpaf_line.specs.declared.error.Message.TheVariants.{ParseFailure, ParseFail, Memory}
use Rattle.bpaf_line.proofs.Places.{open_item_there, match_has_item, match_is_open}
use Rattle.bpaf_laws.specs.Leaves.{AppnameOutcome, AppnameReads, FlagOutcome, AnyOutcome, FlagReads}
use Rattle.bpaf_laws.specs.Leaves.{FirstMatch, FlagFails, IsPresent, looked_at, take_item, AnyReads}
use Rattle.bpaf_laws.specs.Combinators.{PureWithOutcome, GivesRefusal, PureOutcome, NamesGiven}
use Rattle.bpaf_laws.specs.Combinators.{PureReads, Gives}
use Rattle.bpaf_laws.specs.Laws.{NamesAnswer, Lawful, Keeps, Reads}
use Rattle.bpaf_laws.specs.Leaves.{AnyFails, nowhere, at_key, Looks}
use Rattle.bpaf_laws.specs.Reading.{Readings, IsPlace, IsPair, Share}
use Rattle.bpaf_laws.proofs.Keeping.{closes_take_both, AnswersLawfully, newly_take_both, keeps_same}
use Rattle.bpaf_laws.proofs.Keeping.{reads_unset, keeps_take, reads_same, newly_none, newly_take}
use Rattle.bpaf_laws.proofs.Keeping.{keeps_trans, keeps_unset, names_same, lawful_by}

-- what looking for a flag keeps
pub flag_keeps : (names : Names) (s : Situation) (found : Bool) (t : Situation)
    → TakesFlag names s found t → Keeps s t
flag_keeps names s true t takes =
    subst (Keeps s) (sym takes.2) (keeps_take s takes.0
    (match_is_open (is_key_of names) s takes.0 takes.1.matches))
flag_keeps names s false t takes = keeps_same s t takes.1

module _ (T : Type 0) (clones : T → T → Type 0) (named : Named) (present : T)
    (absent : Option T) where
  -- what a flag reads
  abbrev reads_flag : Readings T
  reads_flag = FlagReads T clones named present absent

  -- a taken key, with a clone of the present value, is a reading of the flag
  flag_found : (s t : Situation) (v : T) → TakesFlag named.names s true t → clones present v
      → Reads T reads_flag s v t
  flag_found s t v takes value =
      let there : is_open s takes.0 ≡ true = match_is_open (is_key_of named.names) s takes.0
      takes.1.matches in
      rw takes.2 (record {
        keeps = keeps_take s takes.0 there;
        closed = λ q within outside. absurd (true≢false (sym within ∙ outside));
        reading = at_key takes.0 (match_has_item (is_key_of named.names) s takes.0 takes.1.matches)
            (newly_take s takes.0 there) value;
      })

  -- what the test of a flag's key keeps
  present_keeps : (s t : Situation) (is : Bool) → IsPresent named s is t → Keeps s t
  present_keeps s t true (inl takes) = flag_keeps named.names s true t takes
  present_keeps s t true (inr set) = flag_keeps named.names s false t set.0
  present_keeps s t false none = flag_keeps named.names s false t none.0

  -- what a refusal of a flag keeps, and that it isn't the answer of a run inside
  flag_refused : (s t : Situation) (m : Message) → FlagFails named absent s m t
      → Keeps s t × NamesAnswer s.context m
  flag_refused s t Memory fails = (present_keeps s t fails.0 fails.1, tt)
  flag_refused s t (ParseFailure f) fails =
      (flag_keeps named.names s false t fails.0.0, grind (arith, fails.2))
  flag_refused s t other fails = (flag_keeps named.names s false t fails.0.0, tt)

  -- flags keep to the laws
  pub flag_lawful : Lawful T (FlagOutcome clones named present absent) reads_flag
  flag_lawful = lawful_by answers
    where
      answers : AnswersLawfully (FlagOutcome clones named present absent) reads_flag
      answers s (Ok v) t (inl (inl takes, value)) = flag_found s t v takes value
      answers s (Ok v) t (inl (inr set, value)) = reads_same reads_flag s t v set.0.1
          (nowhere (newly_none s) (let is = set.1 in grind arith))
      answers s (Ok v) t (inr (none, value)) = reads_same reads_flag s t v none.0.1
          (nowhere (newly_none s) (let is = none.1 in grind arith))
      answers s (Err e) t fails = flag_refused s t e.0 fails

-- Items that a look matches: what is read of them keeps to the laws.

-- a place with its item, which is present and in scope
abbrev IsPlaced : Situation → ℕ × Arg → Type 0
IsPlaced s placed = open_item s placed.0 ≡ Some placed.1

-- one more place, with its item where that is present and in scope
placed_more : (s : Situation) (p : ℕ) (items : List (ℕ × Arg)) (at : Option Arg)
    → open_item s p ≡ at → All (IsPlaced s) items
    → All (IsPlaced s) (cons_option (option_map (λ item. (p, item)) at) items)
placed_more s p items at is all = grind (arith, All-cons (IsPlaced s))

-- the open items of some places are present and in scope
all_placed : (s : Situation) (places : List ℕ)
    → All (IsPlaced s) (filter_map (placed_item s) places)
all_placed s [] = All-nil (IsPlaced s)
all_placed s (p ∷ places) = grind (arith, placed_more, all_placed s places)

-- the items that are looked at are present and in scope
looked_placed : (s : Situation) (anywhere : Bool) → All (IsPlaced s) (looked_at anywhere s)
looked_placed s true = all_placed s _
looked_placed s false = All-take (IsPlaced s) 1 _ (all_placed s _)

module _ {T : Type 0} (looks : Looks T) (anywhere : Bool) (s : Situation) (place : ℕ) (item : Arg)
    (v : T) (found : FirstMatch looks (looked_at anywhere s) place item v) where
  -- the item that matches is present and in scope
  pub match_placed : (is_open s place ≡ true) × (item_at s place ≡ Some item)
  match_placed =
      let rest = (place, item) ∷ found.after in
      let there = subst (λ items. Contains items (place, item)) (sym found.split)
      (Contains-append_right found.before rest (place, item) (0, omega arith, refl)) in
      open_item_there s place item
      (All-contains (IsPlaced s) (looked_at anywhere s) (place, item) (looked_placed s anywhere)
      there)

  -- the situation in which its place is taken
  abbrev m : Situation
  m = take_place s place

  -- places that are taken are read
  is_read : {share : Share} → IsPlace place share ⊎ ((is_attached item ≡ true) × IsPair place share)
      → AnyReads T looks s.context share v
  is_read places = grind (arith, match_placed)

  -- the place of a match alone is read
  alone : Reads T (AnyReads T looks) s v m
  alone = record {
    keeps = keeps_take s place match_placed.0;
    closed = λ q within outside. absurd (true≢false (sym within ∙ outside));
    reading = is_read (inl (newly_take s place match_placed.0));
  }

  -- a match is read, whatever stands behind it
  pub match_read : Reads T (AnyReads T looks) s v (take_item s place (is_attached item))
  match_read = taken (is_attached item) (is_open m (place + 1)) refl refl
    where
      taken : (attached next : Bool) → is_attached item ≡ attached → is_open m (place + 1) ≡ next
          → Reads T (AnyReads T looks) s v
          (if attached then (if next then take_place m (place + 1) else m) else m)
      taken true true attached next = record {
        keeps = keeps_trans s m (take_place m (place + 1)) (keeps_take s place match_placed.0)
            (keeps_take m (place + 1) next);
        closed = closes_take_both s place (place + 1);
        reading = is_read (inr (attached, newly_take_both s place match_placed.0 next));
      }
      taken true false attached next = alone
      taken false next attached is = alone

module _ (T : Type 0) (looks : Looks T) (part : Part) (anywhere : Bool) where
  -- what a refusal keeps, and that it isn't the answer of a run inside
  any_refused : (s t : Situation) (m : Message) → AnyFails looks part anywhere s m t
      → Keeps s t × NamesAnswer s.context m
  any_refused s t m fails = grind (arith, keeps_same)

  -- the parser of any item keeps to the laws
  pub any_lawful : Lawful T (AnyOutcome looks part anywhere) (AnyReads T looks)
  any_lawful = record {
    ok = λ s t v o. rw o.3 (match_read looks anywhere s o.0 o.1 v o.2);
    err = λ s t e o. (any_refused s t e.0 o).0;
    named = λ s t e o. (any_refused s t e.0 o).1;
  }

-- it keeps to the laws
pub appname_lawful : Lawful (String Global) AppnameOutcome AppnameReads
appname_lawful = grind (arith, reads_same, newly_none, keeps_same, names_same)

-- leaves that look at no item keep to the laws
pub pure_lawful : {T : Type 0} (gives : Gives T) → NamesGiven gives
    → Lawful T (PureOutcome gives) (PureReads (λ v. gives (Ok v)))
pure_lawful gives names = record {
  ok = λ s t v o. reads_unset (PureReads (λ w. gives (Ok w))) s t v o.1 (newly_none s, o.0);
  err = λ s t e o. keeps_unset s t o.1;
  named = λ s t e o. names s.context e o.0;
}

-- a leaf that answers what a closure does keeps to the laws
pub pure_with_lawful : {T : Type 0} (gives : Gives T) → NamesGiven gives
    → Lawful T (PureWithOutcome gives) (PureReads (λ v. gives (Ok v)))
pure_with_lawful gives names = record {
  ok = λ s t v o. reads_same (PureReads (λ w. gives (Ok w))) s t v o.1 (newly_none s, o.0);
  err = λ s t e o. keeps_same s t o.1;
  named = λ s t e o. names s.context e o.0;
}

-- a leaf that refuses with a message keeps to the laws
pub refusal_lawful : {T : Type 0} (message : List ℕ)
    → Lawful T (PureOutcome (GivesRefusal message)) (PureReads (λ v. ⊥))
refusal_lawful message = pure_lawful (GivesRefusal message) (λ context e gives.
    ⊎_elim (names_same _ e.0 (ParseFail message) tt) (names_same _ e.0 Memory tt) gives)
