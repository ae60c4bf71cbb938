-- What a value is read from: sets of places, and nothing of marks, scopes, copies or retries; what
-- a text, a kept value and the environment give.
use Rattle.std.specs.Prelude.{◌≡◌, ℕ, Bool, false, true, ◌&&◌, ◌||◌, ◌==◌, ◌+◌, Result, List, Ok}
use Rattle.std.specs.Prelude.{Err, Option, ⊤, [], ◌∷◌, Some, None}
use Rattle.std.specs.Option.{option_map_or, option_or, is_some}
use Rattle.bpaf_base.specs.declared.arg.Arg.{Arg}
use Rattle.bpaf_line.specs.Situation.{Situation, Context, item_in}
use Rattle.bpaf_line.specs.declared.error.Message.TheVariants.{Memory, ParseFailed, Missing, NoEnv}
use Rattle.bpaf_line.specs.Taking.{IsMissingIn, entry_of}
use Rattle.bpaf_line.specs.{declared.error.Error.Error, declared.error.Message.Message}
use Rattle.bpaf_text.specs.declared.fault.TextFault.{TextFault}
use Rattle.bpaf_doc.specs.Shape.{Part}
use Rattle.bpaf_text.specs.declared.fault.TextFault.TheVariants as fault

-- a share: a set of places
abbrev pub Share : Type 0
Share = ℕ → Bool

-- which values may be read off which places of a line
abbrev pub Readings : Type 0 → Type 1
Readings T = Context → Share → T → Type 0

-- what one evaluation may answer in a situation, and which situation it leaves
abbrev pub Outcome : Type 0 → Type 1
Outcome T = Situation → Result T Error → Situation → Type 0

-- no place
abbrev pub IsEmptyShare : Share → Type 0
IsEmptyShare share = (p : ℕ) → share p ≡ false

-- one place at least
abbrev pub HasPlace : Share → Type 0
HasPlace share = (p : ℕ) × (share p ≡ true)

-- one place alone
abbrev pub IsPlace : ℕ → Share → Type 0
IsPlace place share = (p : ℕ) → share p ≡ (p == place)

-- a place and the next one alone
abbrev pub IsPair : ℕ → Share → Type 0
IsPair place share = (p : ℕ) → share p ≡ (p == place || p == place + 1)

-- all of one share and all of another, which have no place in common
pub record Joins (a b whole : Share) : Type 0 where
  pub all : (p : ℕ) → whole p ≡ (a p || b p)
  pub apart : (p : ℕ) → (a p && b p) ≡ false

-- the line has an item at a place, and it passes the test
abbrev pub HasItem : (Arg → Bool) → Context → ℕ → Type 0
HasItem test context p = option_map_or test (item_in context p) false ≡ true

-- a fault where the text means no value, at the current place; or want of memory
abbrev pub FaultsText : {T : Type 0} → (List ℕ → T → Type 0) → List ℕ → Option ℕ → Message → Type 0
FaultsText {T} means text current (ParseFailed place fault) =
    ((v : T) → ¬ (means text v)) × (place ≡ current)
FaultsText means text current Memory = ⊤
FaultsText means text current m = ⊥

-- a value that the text means, or a fault
abbrev pub ReadsValue : {T : Type 0} → (List ℕ → T → Type 0) → List ℕ → Option ℕ → Result T Error
    → Type 0
ReadsValue means text current (Ok v) = means text v
ReadsValue means text current (Err e) = FaultsText means text current e.0

-- what a reading of a text is for a parser: its value; a fault at the current place; want of memory
abbrev pub TellsReading : {T : Type 0} → Result T TextFault → Option ℕ → Result T Error → Type 0
TellsReading (Ok v) current (Ok w) = w ≡ v
TellsReading (Err (fault.Fault text)) current (Err e) =
    (told : List ℕ) × (e.0 ≡ ParseFailed current told)
TellsReading (Err fault.Memory) current (Err e) = e.0 ≡ Memory
TellsReading (Ok v) current (Err e) = ⊥
TellsReading (Err fault) current (Ok w) = ⊥

-- the kept value itself
abbrev pub IsKept : {T : Type 0} → T → T → Type 0
IsKept kept v = v ≡ kept

-- the value of the first of the names that is set
abbrev pub first_set : List (List ℕ × List ℕ) → List (List ℕ) → Option (List ℕ)
first_set env [] = None
first_set env (name ∷ names) = option_or (entry_of env name) (first_set env names)

-- one of the names is set
abbrev pub is_set : List (List ℕ × List ℕ) → List (List ℕ) → Bool
is_set env names = is_some (first_set env names)

-- a refusal: this item is missing
abbrev pub MissesItem : Situation → Option Part → Message → Type 0
MissesItem s part (Missing items) = IsMissingIn s part items
MissesItem s part m = ⊥

-- a refusal: the variable of this name is not set
abbrev pub LacksVariable : List ℕ → Message → Type 0
LacksVariable name (NoEnv m) = m ≡ name
LacksVariable name m = ⊥

-- the refusal of a key that is nowhere: its item is missing, or if it shows none its name isn't set
abbrev pub IsAbsence : Situation → Option Part → List (List ℕ) → Message → Type 0
IsAbsence s (Some part) envs = MissesItem s (Some part)
IsAbsence s None [] = MissesItem s None
IsAbsence s None (name ∷ envs) = LacksVariable name
