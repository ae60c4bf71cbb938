-- The search of an adjacent group: what comes of a place, what it keeps of a failure, and what its
-- steps answer.
use Rattle.std.specs.Prelude.{◌≡◌, ℕ, true, false, Result, Ok, Err, Option, Some, None, Bool, ◌⊎◌}
use Rattle.std.specs.Prelude.{◌+◌, List, IfSome, option_map, if◌then◌else◌}
use Rattle.bpaf_line.specs.Situation.{Situation, open_count, with_scope, HasNoneOpen, IsNextOpen}
use Rattle.bpaf_line.specs.{declared.missing.MissingItem.MissingItem, Marks.CanRedo, Marks.redone}
use Rattle.bpaf_line.specs.{declared.error.Error.Error, Messages.is_memory, Taking.IsMissingIn}
use Rattle.bpaf_laws.specs.Reading.{Outcome, IsEmptyShare, HasPlace, Share}
use Rattle.bpaf_laws.specs.Leaves.{Looks, ArePassed, FirstMatch, looked_at}
use Rattle.bpaf_laws.specs.Adjacent.{Failure, Probe, Tries, longer, EndsWith, taken_by}
use Rattle.bpaf_base.specs.{declared.arg.Arg.Arg, Items.is_attached}
use Rattle.bpaf_doc.specs.declared.item.Item.{Item}
use Rattle.bpaf_doc.specs.Shape.{Shape, Part, part_of, first_part}
use Rattle.bpaf.specs.declared.adjacent.failures.Failed.{Failed}
use Rattle.bpaf.specs.declared.adjacent.AdjacentError.{AdjacentError}
use Rattle.bpaf.specs.declared.adjacent.attempts.AttemptEnd.{AttemptEnd}
use Rattle.bpaf.specs.declared.adjacent.failures.Remembered.{Remembered}
use Rattle.bpaf_line.specs.declared.error.Message.TheVariants as message
use Rattle.bpaf.specs.declared.adjacent.AdjacentError.TheVariants as refused
use Rattle.bpaf.specs.declared.adjacent.attempts.AttemptEnd.TheVariants as ending

-- None, where no item is taken there or the attempts fail; a value; or want of memory. The longest
-- failure is remembered, before it and behind it
pub data TriesAt (T : Type 0) (inner : Outcome T) (s : Situation) (place stop : ℕ)
    (best : Option Failure) : Result (Option T) Error → Option Failure → Situation → Type 0 where
  skipped : Probe T inner s place stop IsEmptyShare
      → TriesAt T inner s place stop best (Ok None) best s
  failed : (e : Error) (t : Situation) → Probe T inner s place stop HasPlace
      → Tries T inner s place (Err e) t → is_memory e.0 ≡ false
      → TriesAt T inner s place stop best (Ok None)
      (longer s best (record { error = e; left = t })) s
  found : (v : T) (t : Situation) → Probe T inner s place stop HasPlace
      → Tries T inner s place (Ok v) t → TriesAt T inner s place stop best (Ok (Some v)) best t
  no_memory : (e : Error) → is_memory e.0 ≡ true → TriesAt T inner s place stop best (Err e) best s

-- the first item looked at that matches: its place, whether it is attached, its value; or none does
abbrev pub FindsMatch : {T : Type 0} → Looks T → Bool → Situation → Option (ℕ × Bool × T) → Type 0
FindsMatch looks anywhere s (Some hit) = (item : Arg)
    × FirstMatch looks (looked_at anywhere s) hit.0 item hit.2 × (hit.1 ≡ is_attached item)
FindsMatch looks anywhere s None = ArePassed looks (looked_at anywhere s)

-- What the search of an adjacent group keeps of a failure, and what its steps answer.

-- a failure whose steps begin at a situation
abbrev pub failure_from : Situation → Failed → Failure
failure_from s kept = record { error = kept.error; left = redone kept.steps s }

-- the failure that is remembered
abbrev pub failure_of : Situation → Remembered → Option Failure
failure_of s best = option_map (failure_from s) best.failed

-- its steps can be done, and it left as many places present as are remembered
pub record IsRemembered (s : Situation) (best : Remembered) : Type 0 where
  pub left : best.left + taken_by s (failure_of s best) ≡ open_count s
  pub redo : IfSome best.failed (λ kept. CanRedo kept.steps s)

-- after a failure the one that took more places is remembered
pub record TriesFrom (s : Situation) (best : Remembered) (e : Error) (t : Situation)
    (after : Remembered) : Type 0 where
  pub longer : failure_of s after ≡ longer s (failure_of s best) (record { error = e; left = t })
  pub sound : IsRemembered s after

-- the first item is missing; or memory for that is wanted
abbrev pub IsMissingFirst : Situation → Part → Error → Type 0
IsMissingFirst s first e =
    ((items : List MissingItem) × (e.0 ≡ message.Missing items) × IsMissingIn s (Some first) items)
    ⊎ (is_memory e.0 ≡ true)

-- the end of a search without a value; or memory for that is wanted, and nothing changes
abbrev pub IsEnd : Situation → Part → Remembered → Error → Situation → Type 0
IsEnd s first best e t =
    EndsWith s first (failure_of s best) e t ⊎ ((is_memory e.0 ≡ true) × (t ≡ s))

-- some places are taken, or none
abbrev pub HasPlaceIf : Bool → Share → Type 0
HasPlaceIf true = HasPlace
HasPlaceIf false = IsEmptyShare

-- whether an evaluation over the places from one on up to another takes one of them
abbrev pub TakesOnePlace : (T : Type 0) → Outcome T → Situation → ℕ → ℕ → Bool → Type 0
TakesOnePlace T inner s place stop takes = Probe T inner s place stop (HasPlaceIf takes)

-- an attempt over places from one on up to another left none, or this as the first; or it failed
abbrev pub EndsAttempt : (T : Type 0) → Outcome T → Situation → ℕ → ℕ → Result (AttemptEnd T) Error
    → Situation → Type 0
EndsAttempt T inner s place stop (Ok (ending.Whole v)) u =
    (t : Situation) × inner (with_scope s place stop) (Ok v) t
    × HasNoneOpen (with_scope t place stop) place × (u ≡ with_scope t s.start s.«end»)
EndsAttempt T inner s place stop (Ok (ending.Left p)) u =
    (v : T) × (t : Situation) × inner (with_scope s place stop) (Ok v) t
    × IsNextOpen (with_scope t place stop) place p × (u ≡ s)
EndsAttempt T inner s place stop (Err e) u = inner (with_scope s place stop) (Err e) u

-- an item that a product may show first
abbrev pub IsFirstOf : (Shape → Type 0) → Item → Type 0
IsFirstOf describes item =
    (shape : Shape) × describes shape × (first_part shape ≡ Some (part_of item))

-- a product is no group where it shows no item first; else for want of memory
abbrev pub IsRefused : (Shape → Type 0) → AdjacentError → Type 0
IsRefused describes refused.NoFirstItem =
    (shape : Shape) × describes shape × (first_part shape ≡ None)
IsRefused describes refused.Memory = Unit {0}

-- the same answers, of which an Ok tells no value
abbrev pub WithoutValue : {V : Type 0} → Outcome V → Outcome (Unit {0})
WithoutValue {V} outcome s (Ok _) t = (v : V) × outcome s (Ok v) t
WithoutValue outcome s (Err e) t = outcome s (Err e) t

-- want of memory behind a field that failed, and else that field's error
abbrev pub worse_error : {V : Type 0} → Error → Result V Error → Error
worse_error e (Ok v) = e
worse_error e (Err f) = if is_memory f.0 then f else e

-- what is told of a field's error: want of memory, else the worse of it and the rest's answer
abbrev pub IsErrorBefore : {V : Type 0} → Outcome V → Error → Situation → Error → Situation → Type 0
IsErrorBefore {V} rest e s told t = ((is_memory e.0 ≡ true) × (told ≡ e) × (t ≡ s))
    ⊎ ((is_memory e.0 ≡ false) × ((b : Result V Error) × rest s b t × (told ≡ worse_error e b)))
