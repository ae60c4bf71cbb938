-- A parse in progress, as contracts see it: the line, which of its places are taken, and the scope.
-- The layers above speak by `item_at`, `is_taken`, `conflict_at`, `in_scope`, `is_open`,
-- `open_count` and the steps `take_place`, `with_scope`, `with_path`, `with_current`, `beginning`
-- alone; how what is taken is kept is this crate's own affair.
use Rattle.std.specs.Prelude.{ℕ, ◌≡◌, ◌<◌, ◌≤◌, ◌==◌, Bool, true, false, not, ◌&&◌, ◌||◌, List, []}
use Rattle.std.specs.Prelude.{◌∷◌, ◌++◌, length, take, Option, Some, None, nat_lt, nat_le}
use Rattle.std.specs.Prelude.{if◌then◌else◌, slice_get, slice_index, option_to_list, option_map}
use Rattle.std.specs.{Prelude.find, Prelude.reverse, Prelude.◌-◌, List.range_with_len}
use Rattle.bpaf_base.specs.{declared.arg.Arg.Arg, Count.count_below}
use Rattle.bpaf_index.specs.Bits.{IsFirstWith}
pub use Rattle.bpaf_index.specs.Bits.{is_on}

-- what no evaluation changes: the line, the place of its first `--`, the environment, the set name
pub record Context : Type 0 where
  pub line : List Arg
  pub marker : Option ℕ
  pub env : List (List ℕ × List ℕ)
  pub name : Option (List ℕ)

-- a parse in progress
pub record Situation : Type 0 where
  pub context : Context
  -- the places that were taken, in the order of taking
  pub trail : List ℕ
  -- a place that is excluded, and the place that excludes it; the last pair of a place counts
  pub conflicts : List (ℕ × ℕ)
  pub start : ℕ
  pub end : ℕ
  pub path : List (List ℕ)
  pub current : Option ℕ

-- a place is that of the marker
abbrev pub is_marker : Option ℕ → ℕ → Bool
is_marker None p = false
is_marker (Some m) p = p == m

-- the item at a place of a line; the marker is none
abbrev pub item_in : Context → ℕ → Option Arg
item_in context p = if is_marker context.marker p then None else slice_get context.line p

-- the item at a place of the line, taken or not; the marker is one too
abbrev pub line_item : Situation → ℕ → Option Arg
line_item s p = slice_get s.context.line p

-- the item at a place
abbrev pub item_at : Situation → ℕ → Option Arg
item_at s p = item_in s.context p

-- a place of the line that isn't that of the marker
abbrev pub is_dealt_place : Context → ℕ → Bool
is_dealt_place context p = nat_lt p (length context.line) && not (is_marker context.marker p)

-- a place is taken: it is past the line, or that of the marker, or was taken since
abbrev pub is_taken : Situation → ℕ → Bool
is_taken s p =
    not (nat_lt p (length s.context.line)) || (is_marker s.context.marker p || is_on s.trail p)

-- what the last pair of a place names
abbrev pub last_of : List (ℕ × ℕ) → ℕ → Option ℕ
last_of conflicts p = option_map (λ pair. pair.1) (find (λ pair. pair.0 == p) (reverse conflicts))

-- what the conflict note of a place names, where it has one; a taken place has none
abbrev pub conflict_at : Situation → ℕ → Option ℕ
conflict_at s p = if is_taken s p then None else last_of s.conflicts p

-- a place lies in the scope
abbrev pub in_scope : Situation → ℕ → Bool
in_scope s p = nat_le s.start p && nat_lt p s.end

-- a place is present, and in scope
abbrev pub is_open : Situation → ℕ → Bool
is_open s p = in_scope s p && not (is_taken s p)

-- how many places are present in scope
abbrev pub open_count : Situation → ℕ
open_count s = count_below (is_open s) (length s.context.line)

-- a place taken, which is then the current one
abbrev pub take_place : Situation → ℕ → Situation
take_place s p = record s { trail = s.trail ++ p ∷ []; current = Some p }

-- other places in the place of those that were taken
abbrev pub with_trail : Situation → List ℕ → Situation
with_trail s trail = record s { trail = trail }

-- more conflict notes, the last of which count
abbrev pub with_conflicts : Situation → List (ℕ × ℕ) → Situation
with_conflicts s pairs = record s { conflicts = s.conflicts ++ pairs }

-- another scope
abbrev pub with_scope : Situation → ℕ → ℕ → Situation
with_scope s start end = record s { start = start; end = end }

-- one name more at the end of the path
abbrev pub with_path : Situation → List ℕ → Situation
with_path s entry = record s { path = s.path ++ entry ∷ [] }

-- another current place, or none
abbrev pub with_current : Situation → Option ℕ → Situation
with_current s current = record s { current = current }

-- how a run begins: the scope is the whole line, and all of it but the marker is present
abbrev pub beginning : Context → Situation
beginning context = record {
  context = context;
  trail = [];
  conflicts = [];
  start = 0;
  end = length context.line;
  path = option_to_list context.name;
  current = None;
}

-- the situation in which only the first n of the places had been taken
abbrev pub cut_to : Situation → ℕ → Situation
cut_to s n = with_trail s (take n s.trail)

-- each place was present when it was taken
abbrev pub TakenInTurn : Situation → Type 0
TakenInTurn s = (n : ℕ) → n < length s.trail → is_taken (cut_to s n) (slice_index s.trail n) ≡ false

-- each of these places is present when those before it are taken
abbrev pub PresentInTurn : Situation → List ℕ → Type 0
PresentInTurn s places =
    (n : ℕ) → n < length places
    → is_taken (with_trail s (s.trail ++ take n places)) (slice_index places n) ≡ false

-- all places from one on, below another, are taken
abbrev pub AreTaken : Situation → ℕ → ℕ → Type 0
AreTaken s low high = (q : ℕ) → low ≤ q → q < high → is_taken s q ≡ true

-- the first present place from one on, below another; that other one, where there is none
abbrev pub IsFirstPresentWithin : Situation → ℕ → ℕ → ℕ → Type 0
IsFirstPresentWithin s low high p = IsFirstWith (is_taken s) false low high p

-- the first place that is present in scope; the scope's end, where there is none
abbrev pub IsFirstPresent : Situation → ℕ → Type 0
IsFirstPresent s p = IsFirstPresentWithin s s.start s.end p

-- the first place from one on that is present and in scope
pub record IsNextOpen (s : Situation) (low p : ℕ) : Type 0 where
  pub from : low ≤ p
  pub present : is_open s p ≡ true
  pub passed : (q : ℕ) → low ≤ q → q < p → is_open s q ≡ false

-- no place from one on is present and in scope
abbrev pub HasNoneOpen : Situation → ℕ → Type 0
HasNoneOpen s low = (q : ℕ) → low ≤ q → is_open s q ≡ false

-- the unbroken stretch of places from one on that are present and in scope
pub record IsStretchFrom (s : Situation) (from end : ℕ) : Type 0 where
  pub ordered : from ≤ end
  pub present : (p : ℕ) → from ≤ p → p < end → is_open s p ≡ true
  pub stops : is_open s end ≡ false

-- each place that is present and in scope here is taken there
abbrev pub HasNoneInBoth : Situation → Situation → Type 0
HasNoneInBoth here there = (p : ℕ) → is_open here p ≡ true → is_taken there p ≡ true

-- the first place that is present and in scope here, and present there
pub record IsFirstInBoth (s other : Situation) (p : ℕ) : Type 0 where
  pub present : is_open s p ≡ true
  pub there : is_taken other p ≡ false
  pub before : (q : ℕ) → q < p → is_open s q ≡ true → is_taken other q ≡ true

-- the first present place from one on, below another
abbrev pub first_present : Situation → ℕ → ℕ → Option ℕ
first_present s low high = find (λ p. not (is_taken s p)) (range_with_len low (high - low))
