-- Chains: how classes are given out along a line, how its places are linked, and how a walk along
-- the links goes.
use Rattle.std.proofs.Common.{◌≡◌, ◌⊎◌, ℕ, ◌+◌, ◌<◌, ◌≤◌, List, Bool, true, false, Some, None}
use Rattle.std.proofs.Common.{String, if◌then◌else◌, inl, refl, ap, sym, ◌∙◌, subst, arith, length}
use Rattle.std.proofs.Common.{take, slice_index, bytes_eq, string_bytes, Option, get_or, slice_set}
use Rattle.std.proofs.lemmas.Map.Text.{btree_map_updates_text}
use Rattle.std.proofs.lemmas.List.{get_or-take, length-take-le}
use Rattle.std.proofs.lemmas.Option.{slice_get_read, get_or_from_slice_get}
use Rattle.std.proofs.Common.{length-set, get_or-set_same, get_or-set_other}
use Rattle.std.proofs.{lemmas.Slice.Eq.bytes_eq-Decides, lemmas.Bool.Decides.nat_tests}
use Rattle.std.specs.BTreeMap.{BTreeMap, get_by_text, Updates}
use Rattle.std.specs.{declared.alloc.Global.Global, String.string_cmp}
use Rattle.bpaf_index.specs.Chained.{Naming, class_of, IsNoted, AreClassesOf, Chained, IsNextOf}
use Rattle.bpaf_index.specs.Chained.{IsPlaceOf, IsChainStartOf, HasWalked, AreBehind, head_of}
use Rattle.bpaf_index.specs.{Chained.names_of, Chained.HasNoKeyFrom, InsideChains.IsLinked}
use Rattle.bpaf_base.specs.declared.arg.Arg.TheVariants.{Long}
use Rattle.bpaf_base.specs.{Items.is_key_of, Items.is_key, declared.arg.Arg.Arg, Names.Names}

-- a long name that has no class is kept with the next one
pub noted_long : (shorts : List (ℕ × ℕ)) (old new : BTreeMap (String Global) ℕ)
    (kept : String Global) (next : ℕ) (item : Arg) {attached : Bool} {word name : List ℕ}
    → item ≡ Long name attached word → string_bytes kept ≡ name
    → class_of (record { shorts = shorts; longs = old.entries }) item ≡ None
    → Updates string_cmp old new kept (Some next)
    → IsNoted (record { shorts = shorts; longs = old.entries })
    (record { shorts = shorts; longs = new.entries }) item next next
noted_long shorts old new kept next item {name = name} long is none updates = rw long (record {
  has = finds name ∙ ap (λ b. if b then Some next else get_by_text old name)
      ((bytes_eq-Decides name name).1 refl);
  others = others;
})
  where
    finds : (text : List ℕ) → get_by_text new text
        ≡ (if bytes_eq name text then Some next else get_by_text old text)
    finds text =
        rw (← is) (btree_map_updates_text (string_bytes kept) old new (Some next) updates text)

    others : (other : Arg) → (class_of (record { shorts = shorts; longs = new.entries }) other
        ≡ class_of (record { shorts = shorts; longs = old.entries }) other)
        ⊎ ((class_of (record { shorts = shorts; longs = old.entries }) other ≡ None)
        × (class_of (record { shorts = shorts; longs = new.entries }) other ≡ Some next))
    others (Long text _ _) = by_text text (rw long at none)
      where
        by_text : (text : List ℕ) → get_by_text old name ≡ None
            → (get_by_text new text ≡ get_by_text old text)
            ⊎ ((get_by_text old text ≡ None) × (get_by_text new text ≡ Some next))
        by_text text none = grind (arith, finds text, bytes_eq-Decides name text)
    others _ = inl refl

-- the classes of the front of a line are those of the line's first places
pub classes_of_front : (names : Naming) (line : List Arg) (n : ℕ) (classes : List ℕ)
    → length classes ≡ n → n ≤ length line → AreClassesOf names (take n line) classes
    → AreClassesOf names line classes
classes_of_front names line n classes size within h p item inside found =
    let below : p < n = omega (arith, inside, size) in
    h p item inside (slice_get_read (take n line) n p item (sym (length-take-le n line within))
    below
    (sym (get_or-take n line p item below ∙ get_or_from_slice_get line p item item found)))

-- Chains: how a line's places are linked, and how a walk along the links goes.

-- the places from one on are linked, and each class to its first place from there on
pub record IsLinkedFrom (classes next heads : List ℕ) (low : ℕ) : Type 0 where
  pub within : low ≤ length classes
  pub linked : (p : ℕ) → low ≤ p → p < length classes
      → IsNextOf classes (slice_index classes p) (p + 1) (slice_index next p)
  pub first : (k : ℕ) → k < length heads → IsNextOf classes k low (slice_index heads k)

-- at its start a walk has passed no place
pub walked_none : (classes : List ℕ) (passes : ℕ → Bool) (from : ℕ)
    → HasWalked classes passes from from
walked_none classes passes from = grind arith

-- a place that is to be passed is passed
pub walked_more : (classes : List ℕ) (passes : ℕ → Bool) (from p next : ℕ)
    → HasWalked classes passes from p → p < length classes → passes p ≡ true
    → IsNextOf classes (slice_index classes p) (p + 1) next → HasWalked classes passes from next
walked_more classes passes from p next walked below set link = record {
  above = omega (arith, walked.above, link.from);
  same = λ k of in_line. link.same in_line ∙ walked.same k of below;
  passed = λ k q of above before mine. grind (
    arith,
    walked.passed k q of above,
    walked.same k of below,
    link.between q,
  );
}

-- a beginning that is written is a place of its class, where the new one is
headed_set : (classes heads : List ℕ) (class head : ℕ)
    → ((k : ℕ) → k < length heads → IsPlaceOf classes k (slice_index heads k)) → class
    < length heads → IsPlaceOf classes class head
    → (k : ℕ) → k < length (slice_set heads class head)
    → IsPlaceOf classes k (slice_index (slice_set heads class head) k)
headed_set classes heads class head headed inside there k within =
    grind (arith, length-set {A = ℕ}, get_or-set_same {A = ℕ}, get_or-set_other {A = ℕ})

-- the links stay right where the chain of a place's class begins at another of its places
pub linked_passed : {classes next heads : List ℕ} {class place from head : ℕ}
    → IsLinked classes next heads → place < length classes → class ≡ slice_index classes place
    → from ≡ slice_index heads class
    → ((k : ℕ) → IsPlaceOf classes k from → IsPlaceOf classes k head)
    → IsLinked classes next (slice_set heads class head)
linked_passed {classes} {next} {heads} {class} {place} {from} {head} h within of begins walked =
    let inside : class < length heads = omega (arith, of, h.numbered place within) in
    record {
      whole = h.whole;
      linked = h.linked;
      numbered = λ q below. omega (arith, h.numbered q below, length-set heads class head);
      headed = headed_set classes heads class head h.headed inside
          (walked class (subst (IsPlaceOf classes class) (sym begins) (h.headed class inside)));
    }

-- an item that is no key has none of the names
no_key : (names : Names) (item : Arg) → is_key item ≡ false → is_key_of names item ≡ false
no_key names item e = grind arith

-- no key has a name from a place on whose item is none, where none has one behind it
pub keyless_more : (line : List Arg) (p : ℕ) (item : Arg) → p < length line
    → item ≡ get_or line p item → is_key item ≡ false → HasNoKeyFrom line (p + 1)
    → HasNoKeyFrom line p
keyless_more line p item within read other h =
    let found = slice_get_read line (length line) p item refl within read in
    record { none = λ names q above. grind (arith, no_key names item other, h.none names q) }

-- a key with the name of an item has its class
pub same_class : (names : Naming) (key item : Arg) → is_key_of (names_of key) item ≡ true
    → class_of names item ≡ class_of names key
same_class names key item e = grind (arith, nat_tests, bytes_eq-Decides)

-- what is passed stays so, where the chain of a place's class begins behind places of the set
pub behind_passed : {line : List Arg} {set : ℕ → Bool} {old : Chained} {class from head : ℕ}
    → AreBehind line set old → class < length old.heads → from ≡ slice_index old.heads class
    → IsPlaceOf old.classes class from → HasWalked old.classes set from head
    → AreBehind line set (record old { heads = slice_set old.heads class head })
behind_passed h inside begins headed walked = grind (arith, get_or-set_same, get_or-set_other)

-- what stands before the beginning of its chain is in the set
pub early_set : {line : List Arg} {set : ℕ → Bool} {chains : Chained} {class : Option ℕ}
    {from p : ℕ} → AreBehind line set chains → IsChainStartOf chains class from
    → p < length chains.classes → class ≡ Some (slice_index chains.classes p) → p < from
    → set p ≡ true
early_set {p} h start below at early =
    h.passed p below (omega (arith, early, start.begins p below at))

-- chains that begin at their first places stand behind nothing
pub behind_nothing : (chains : Chained) (line : List Arg) → length chains.classes ≤ length line
    → AreClassesOf chains.names line chains.classes → HasNoKeyFrom line (length chains.classes)
    → ((p : ℕ) → p < length chains.classes → IsNextOf chains.classes
    (slice_index chains.classes p) 0 (head_of chains p)) → AreBehind line (λ p. false) chains
behind_nothing chains line within classes keyless first = grind arith
