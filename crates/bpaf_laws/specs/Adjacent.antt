-- Adjacent commands and groups, whose items stand without a gap.
use Rattle.std.specs.Prelude.{◌≡◌, ℕ, ◌&&◌, nat_le, nat_lt, ◌<◌, ◌≤◌, true, false, ◌+◌, List, []}
use Rattle.std.specs.Prelude.{◌∷◌, Result, Ok, Err, Option, Some, None, if◌then◌else◌}
use Rattle.bpaf_line.specs.Situation.{Context, Situation, is_taken, with_scope, HasNoneOpen}
use Rattle.bpaf_line.specs.Situation.{IsNextOpen, IsStretchFrom}
use Rattle.bpaf_line.specs.{declared.error.Error.Error, declared.missing.MissingItem.MissingItem}
use Rattle.bpaf_line.specs.{Messages.is_memory, Taking.IsMissingIn}
use Rattle.bpaf_laws.specs.Reading.{Share, Readings, Outcome, IsEmptyShare, HasPlace}
use Rattle.bpaf_laws.specs.Laws.{taken_count, newly, IsNotMemory}
use Rattle.bpaf_doc.specs.Shape.{Shape, Part, Argument, Adjacent}
use Rattle.bpaf_line.specs.declared.error.Message.TheVariants as message

-- the places from one up to another, perhaps none
pub record IsStretch (share : Share) : Type 0 where
  pub from : ℕ
  pub to : ℕ
  pub is : (p : ℕ) → share p ≡ (nat_le from p && nat_lt p to)

-- an inner reading whose share is one stretch
pub record StretchReads (T : Type 0) (inner : Readings T) (context : Context) (share : Share)
    (v : T) : Type 0 where
  pub read : inner context share v
  pub stretch : IsStretch share

-- each of the places from one up to another is taken
abbrev pub AllTaken : Situation → ℕ → ℕ → Type 0
AllTaken t from end = (p : ℕ) → from ≤ p → p < end → is_taken t p ≡ true

-- the first of the places from one up to another that is left present
pub record IsFirstLeft (t : Situation) (from end p : ℕ) : Type 0 where
  pub behind : from ≤ p
  pub within : p < end
  pub present : is_taken t p ≡ false
  pub before : AllTaken t from p

-- Adjacent groups: products whose items stand next to one another.

-- how many places the first item of a group has: an argument two, each other one
abbrev pub place_count : Part → ℕ
place_count (Argument name shorts metavar env help) = 2
place_count _ = 1

-- how an attempt failed: its error, and the situation that it left
pub record Failure : Type 0 where
  pub error : Error
  pub left : Situation

-- how many places a failure took; without one, none
abbrev pub taken_by : Situation → Option Failure → ℕ
taken_by s None = 0
taken_by s (Some failure) = taken_count s failure.left

-- of the longest failure until now and a later one that which took more; of equals the former
abbrev pub longer : Situation → Option Failure → Failure → Option Failure
longer s best other = if nat_lt (taken_by s best)
    (taken_count s other.left) then Some other else best

-- of failures, latest first, the one that took most places; of equals the earliest
abbrev pub longest : Situation → List Failure → Option Failure
longest s [] = None
longest s (latest ∷ before) = longer s (longest s before) latest

-- at the end the longest failure; without one the first item is missing, and all is as before
abbrev pub EndsWith : Situation → Part → Option Failure → Error → Situation → Type 0
EndsWith s first (Some failure) e t = (e ≡ failure.error) × (t ≡ failure.left)
EndsWith s first None e t =
    (items : List MissingItem) × (e.0 ≡ message.Missing items) × IsMissingIn s (Some first) items
    × (t ≡ s)

-- the next place to try: the first present one, where so many places of the scope begin with it
pub record IsGroupStart (s : Situation) (width from place : ℕ) : Type 0 where
  pub next : IsNextOpen s from place
  pub fits : place + width ≤ s.end

-- there is none
abbrev pub HasNoStart : Situation → ℕ → ℕ → Type 0
HasNoStart s width from = (p : ℕ) → IsNextOpen s from p → s.end < p + width

module _ (T : Type 0) (inner : Outcome T) (s : Situation) where
  -- the places of a first item alone are the scope, and what is then taken of them
  pub record Probe (place stop : ℕ) (Takes : Share → Type 0) : Type 0 where
    pub answer : Result T Error
    pub left : Situation
    pub ran : inner (with_scope s place stop) answer left
    pub spared : IsNotMemory answer
    pub takes : Takes (newly s left)

  -- where the scope of an attempt ends: at the end of the stretch of present places, or at the
  -- first place that an attempt with a value left present in its scope
  pub data Narrowed (place : ℕ) : ℕ → Type 0 where
    whole : (stop : ℕ) → IsStretchFrom s place stop → Narrowed place stop
    again : (stop left : ℕ) (v : T) (t : Situation) → Narrowed place stop
        → inner (with_scope s place stop) (Ok v) t → IsNextOpen (with_scope t place stop) place left
        → Narrowed place left

  -- the last attempt from a place on: a value, and nothing present left in its scope; or it failed
  pub data Tries (place : ℕ) : Result T Error → Situation → Type 0 where
    answered : (stop : ℕ) (v : T) (t : Situation) → Narrowed place stop
        → inner (with_scope s place stop) (Ok v) t → HasNoneOpen (with_scope t place stop) place
        → Tries place (Ok v) (with_scope t s.start s.end)
    refused : (stop : ℕ) (e : Error) (t : Situation) → Narrowed place stop
        → inner (with_scope s place stop) (Err e) t → Tries place (Err e) t

  -- the places before this one were tried in vain, with these failures, latest first: at each that
  -- begins a first item no item is taken, or the attempts fail
  pub data TriedInVain (first : Part) : ℕ → List Failure → Type 0 where
    none_tried : TriedInVain first s.start []
    not_taken : (from place : ℕ) (failures : List Failure) → TriedInVain first from failures
        → IsGroupStart s (place_count first) from place
        → Probe place (place + place_count first) IsEmptyShare
        → TriedInVain first (place + 1) failures
    all_failed : (from place : ℕ) (failures : List Failure) (e : Error) (t : Situation)
        → TriedInVain first from failures → IsGroupStart s (place_count first) from place
        → Probe place (place + place_count first) HasPlace → Tries place (Err e) t
        → is_memory e.0 ≡ false
        → TriedInVain first (place + 1) (record { error = e; left = t } ∷ failures)

  -- what a search gives: the first place's value; else the longest failure; or want of memory
  pub data Searches (first : Part) : Result T Error → Situation → Type 0 where
    gave : (from place : ℕ) (failures : List Failure) (v : T) (t : Situation)
        → TriedInVain first from failures → IsGroupStart s (place_count first) from place
        → Probe place (place + place_count first) HasPlace → Tries place (Ok v) t
        → Searches first (Ok v) t
    none_gave : (from : ℕ) (failures : List Failure) (e : Error) (t : Situation)
        → TriedInVain first from failures → HasNoStart s (place_count first) from
        → EndsWith s first (longest s failures) e t → Searches first (Err e) t
    wanted : (e : Error) → is_memory e.0 ≡ true → Searches first (Err e) s

-- a group, over all places of its scope
abbrev pub GroupOutcome : (T : Type 0) → Outcome T → Part → Outcome T
GroupOutcome T inner first s r t = Searches T inner s first r t

-- a group shows its product, as what stands together
abbrev pub GroupDescribes : (Shape → Type 0) → Shape → Type 0
GroupDescribes product shape = (within : Shape) × product within × (shape ≡ Adjacent within)
