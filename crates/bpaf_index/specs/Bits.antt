-- Sets of places, and one as bits in words of 64.
use Rattle.std.specs.Prelude.{ℕ, ◌+◌, ◌==◌, Bool, List, if◌then◌else◌, ◌≡◌, ◌≢◌, ◌<◌}
use Rattle.std.specs.Prelude.{◌≤◌, ◌/◌, ◌%◌, ◌*◌, true, false, not, ◌&&◌, nat_le, length}
use Rattle.std.specs.Prelude.{slice_index, Option, None, Some, min}
use Rattle.std.specs.{List.list_any, Int.bit_at}
use Rattle.bpaf_base.specs.Count.{count_below}

-- a place is one of these
abbrev pub is_on : List ℕ → ℕ → Bool
is_on places p = list_any (λ q. q == p) places

-- A set of places, as bits in words of 64.

-- the bit of a word of 64 at this number is set
abbrev pub is_bit : ℕ → ℕ → Bool
is_bit word i = bit_at word i == 1

-- whether the bit of a place is set; past the words none is
abbrev pub has_bit : List ℕ → ℕ → Bool
has_bit words p = is_bit (slice_index words (p / 64)) (p % 64)

-- the bit of a place has this value now, and the others have theirs
pub record ChangesBit (old new : List ℕ) (p : ℕ) (bit : Bool) : Type 0 where
  pub kept : length new ≡ length old
  pub here : has_bit new p ≡ bit
  pub others : (q : ℕ) → q ≢ p → has_bit new q ≡ has_bit old q

-- the first number from one on with this answer of a test, below another; that, where there is none
pub record IsFirstWith (test : ℕ → Bool) (answer : Bool) (low high p : ℕ) : Type 0 where
  pub from : low ≤ p
  pub within : p ≤ high
  pub present : p < high → test p ≡ answer
  pub passed : (q : ℕ) → low ≤ q → q < p → test q ≡ not answer

-- the first place from one on, below another, whose bit is not set; that other, where there is none
abbrev pub IsFirstClear : List ℕ → ℕ → ℕ → ℕ → Type 0
IsFirstClear words low high p = IsFirstWith (has_bit words) false low high p

-- how many of so many bits of a word, from one on, are clear
abbrev pub clear_within : ℕ → ℕ → ℕ → ℕ
clear_within word low wide = count_below (λ i. not (is_bit word (low + i))) wide

-- a place is one from a place on, and its bit is not set
abbrev pub is_clear_from : List ℕ → ℕ → ℕ → Bool
is_clear_from words from p = nat_le from p && not (has_bit words p)

-- how many of these lie below another place
abbrev pub count_clear : List ℕ → ℕ → ℕ → ℕ
count_clear words from end = count_below (is_clear_from words from) end

-- some places have a bit in the words
abbrev pub AreWithin : List ℕ → List ℕ → Type 0
AreWithin words places = (q : ℕ) → is_on places q ≡ true → q < 64 * length words

-- the bits of some places have this value now, and the others have theirs
pub record ChangesBits (old new places : List ℕ) (bit : Bool) : Type 0 where
  pub kept : length new ≡ length old
  pub here : (q : ℕ) → is_on places q ≡ true → has_bit new q ≡ bit
  pub others : (q : ℕ) → is_on places q ≡ false → has_bit new q ≡ has_bit old q

-- the least number in a set; or there is none
abbrev pub IsLeastIn : (ℕ → Bool) → Option ℕ → Type 0
IsLeastIn set None = (q : ℕ) → set q ≡ false
IsLeastIn set (Some p) = (set p ≡ true) × ((q : ℕ) → q < p → set q ≡ false)

-- a place is one of these, and its bit has this value
abbrev pub is_on_as : List ℕ → List ℕ → Bool → ℕ → Bool
is_on_as words places bit q =
    is_on places q && (if bit then has_bit words q else not (has_bit words q))

-- a place is in the first list alone
abbrev pub is_in_first : List ℕ → List ℕ → ℕ → Bool
is_in_first places others q = is_on places q && not (is_on others q)

-- the lesser of two numbers, the first of which may be missing
abbrev pub lesser_of : Option ℕ → ℕ → ℕ
lesser_of None p = p
lesser_of (Some q) p = min q p
