-- The places of a line, chained by the classes of their items: items of one name are of one class.
-- No contract above this crate speaks of them.
use Rattle.std.specs.Prelude.{ℕ, ◌≡◌, ◌+◌, ◌<◌, ◌⊎◌, List, length, slice_get, slice_index, Option}
use Rattle.std.specs.Prelude.{Some, None, nat_lt, if◌then◌else◌, string_bytes, String as StringIn}
use Rattle.std.specs.Prelude.{◌≢◌, ◌≤◌, Bool, true, false, [], ◌∷◌, ⊤}
use Rattle.std.specs.{declared.alloc.Global.Global, Cmp.Lexicographic.slice_cmp, Ordering.nat_cmp}
use Rattle.std.specs.{Option.option_map_or, BTreeMap.is_at, Map.lookup}
use Rattle.bpaf_base.specs.declared.arg.Arg.TheVariants.{Short, Long, ArgWord, Word, PosWord}
use Rattle.bpaf_base.specs.{declared.arg.Arg.Arg, Items.is_key_of, Names.Names}

-- which names have which classes: short names beyond ASCII, and long names
pub record Naming : Type 0 where
  pub shorts : List (ℕ × ℕ)
  pub longs : List (StringIn Global × ℕ)

-- the class of an item by its name, where that has one; all short names of ASCII have, and words
abbrev pub class_of : Naming → Arg → Option ℕ
class_of names (Short c attached word) =
    if nat_lt c 128 then Some c else lookup (is_at (nat_cmp c)) names.shorts
class_of names (Long name attached word) =
    lookup (is_at (λ kept. slice_cmp nat_cmp name (string_bytes kept))) names.longs
class_of names (ArgWord text) = Some 1
class_of names (Word text) = Some 0
class_of names (PosWord text) = Some 0

-- an item has a class now; the class of each is as it was, or it had none, and has the next one
pub record IsNoted (old new : Naming) (item : Arg) (next class : ℕ) : Type 0 where
  pub has : class_of new item ≡ Some class
  pub others : (other : Arg) → (class_of new other ≡ class_of old other)
      ⊎ ((class_of old other ≡ None) × (class_of new other ≡ Some next))

-- the classes are those of the first places of a line
abbrev pub AreClassesOf : Naming → List Arg → List ℕ → Type 0
AreClassesOf names line classes =
    (p : ℕ) (item : Arg) → p < length classes → slice_get line p ≡ Some item
    → class_of names item ≡ Some (slice_index classes p)

-- the classes of a line's first places, fewer than 128 and one for each of these
pub record AreGiven (names : Naming) (items : List Arg) (place : ℕ) (classes : List ℕ)
    : Type 0 where
  pub size : length classes ≡ place
  pub are : AreClassesOf names items classes
  pub low : (p : ℕ) → p < place → slice_index classes p < 128 + place
  pub below : (item : Arg) (k : ℕ) → class_of names item ≡ Some k → k < 128 + place

-- The places of a line, chained by the classes of their items. No contract above this crate speaks
-- of them.

-- the item at a place of a line is a key with one of the names
abbrev pub named_at : List Arg → Names → ℕ → Bool
named_at line names p = option_map_or (is_key_of names) (slice_get line p) false

-- the name of an item alone, where it is a key
abbrev pub names_of : Arg → Names
names_of (Short c attached word) = record { shorts = c ∷ []; longs = [] }
names_of (Long name attached word) = record { shorts = []; longs = name ∷ [] }
names_of (ArgWord text) = record { shorts = []; longs = [] }
names_of (Word text) = record { shorts = []; longs = [] }
names_of (PosWord text) = record { shorts = []; longs = [] }

-- no place of a line from one on has a key
pub record HasNoKeyFrom (line : List Arg) (low : ℕ) : Type 0 where
  pub none : (names : Names) (p : ℕ) → low ≤ p → named_at line names p ≡ false

-- the class of each place, for each class where its chain begins, and the names with classes
pub record Chained : Type 0 where
  pub classes : List ℕ
  pub heads : List ℕ
  pub names : Naming

-- the place at which the chain of a place's class begins
abbrev pub head_of : Chained → ℕ → ℕ
head_of chains p = slice_index chains.heads (slice_index chains.classes p)

-- the first place of a class from one on; the number of places, where there is none
pub record IsNextOf (classes : List ℕ) (class low p : ℕ) : Type 0 where
  pub from : low ≤ p
  pub within : p ≤ length classes
  pub same : p < length classes → slice_index classes p ≡ class
  pub between : (q : ℕ) → low ≤ q → q < p → slice_index classes q ≢ class

-- a place is one of a class, or past them all
abbrev pub IsPlaceOf : List ℕ → ℕ → ℕ → Type 0
IsPlaceOf classes class p = p < length classes → slice_index classes p ≡ class

-- a chain was walked between two places of one class; those of the class passed are to be passed
pub record HasWalked (classes : List ℕ) (passes : ℕ → Bool) (low p : ℕ) : Type 0 where
  pub above : low ≤ p
  pub same : (k : ℕ) → IsPlaceOf classes k low → IsPlaceOf classes k p
  pub passed : (k q : ℕ) → IsPlaceOf classes k low → low ≤ q → q < p → slice_index classes q ≡ k
      → passes q ≡ true

-- the place at which the chain of a class begins, if there is one: a place of the class, or past
-- them all; no place of the class has a chain that begins earlier
pub record IsChainStartOf (chains : Chained) (class : Option ℕ) (p : ℕ) : Type 0 where
  pub place : (k : ℕ) → class ≡ Some k → IsPlaceOf chains.classes k p
  pub begins : (q : ℕ) → q < length chains.classes
      → class ≡ Some (slice_index chains.classes q) → p ≤ head_of chains q

-- the same of the class of a key, or of words
abbrev pub IsChainStart : Chained → Arg → ℕ → Type 0
IsChainStart chains key p = IsChainStartOf chains (class_of chains.names key) p

-- the chains are those of the first places of the line, behind which is no key; what stands before
-- their beginnings is in a set
pub record AreBehind (line : List Arg) (set : ℕ → Bool) (chains : Chained) : Type 0 where
  pub within : length chains.classes ≤ length line
  pub classes : AreClassesOf chains.names line chains.classes
  pub keyless : HasNoKeyFrom line (length chains.classes)
  pub passed : (p : ℕ) → p < length chains.classes → p < head_of chains p → set p ≡ true

-- no chain begins later now, and that of a place not behind it
pub record ReachBack (place : ℕ) (old new : Chained) : Type 0 where
  pub classes : new.classes ≡ old.classes
  pub names : new.names ≡ old.names
  pub earlier : (p : ℕ) → p < length old.classes → head_of new p ≤ head_of old p
  pub here : place < length old.classes → head_of new place ≤ place

-- two lines have chains that are so related, or both have none
abbrev pub IfChained : (Chained → Chained → Type 0) → Option Chained → Option Chained → Type 0
IfChained related None None = ⊤
IfChained related (Some old) (Some new) = related old new
IfChained related old new = ⊥
