-- Flags, arguments, items by their text, and the name of the program.
use Rattle.std.specs.Prelude.{option_and_then, if◌then◌else◌, string_bytes, slice_get, Option, Bool}
use Rattle.std.specs.Prelude.{IfSome, String, Result, false, codes, true, List, ◌++◌, take, Some, ℕ}
use Rattle.std.specs.Prelude.{None, zero, ◌||◌, ◌≡◌, ◌≢◌, ◌⊎◌, ◌+◌, ◌∷◌, All, Err, suc, ◌≤◌, ◌<◌, ⊤}
use Rattle.std.specs.{Option.option_map_or, Option.IsSomeRelated, declared.alloc.Global.Global}
use Rattle.std.specs.Prelude.{Ok, []}
use Rattle.bpaf_base.specs.Items.{is_argument_key, is_attached, value_text, item_text, is_key_of}
use Rattle.bpaf_base.specs.declared.arg.Arg.{Arg}
use Rattle.bpaf_doc.specs.Shape.{Optional, Shape, Shown, Part, Skip}
use Rattle.bpaf_text.specs.Named.{argument_part, KeyWithValue, flag_part, Named}
use Rattle.bpaf_line.specs.Situation.{with_current, take_place, Situation, Context, item_in}
use Rattle.bpaf_line.specs.declared.error.Message.TheVariants.{ParseFailed, NoArgument, Missing}
use Rattle.bpaf_line.specs.Taking.{RefusesArgument, IsMissingIn, value_after, open_items, TakesFlag}
use Rattle.bpaf_line.specs.Taking.{TakesValue, is_match, HasNone, IsFirst}
use Rattle.bpaf_line.specs.{declared.error.Message.TheVariants.Memory, declared.error.Error.Error}
use Rattle.bpaf_line.specs.{declared.error.Message.Message, Situation.is_open}
use Rattle.bpaf_laws.specs.Reading.{IsEmptyShare, FaultsText, first_set, IsAbsence, Readings, Share}
use Rattle.bpaf_laws.specs.Reading.{Outcome, IsPlace, HasItem, IsPair, is_set}

-- what a look at a text may answer: Some of a value where it matches, None where it doesn't
abbrev pub Looks : Type 0 → Type 1
Looks T = List ℕ → Option T → Type 0

-- a look by a check of a value that the text means; a text that means none doesn't match
abbrev pub ChecksText : {I T : Type 0} → (List ℕ → I → Type 0) → (I → Option T → Type 0) → Looks T
ChecksText {I} means checks text (Some v) = (x : I) × means text x × checks x (Some v)
ChecksText {I} means checks text None =
    ((x : I) → ¬ (means text x)) ⊎ ((x : I) × means text x × checks x None)

-- a look that matches one text alone
abbrev pub IsLiteral : List ℕ → Looks (Unit {0})
IsLiteral literal text (Some v) = text ≡ literal
IsLiteral literal text None = text ≢ literal

-- the items that are looked at: under `anywhere` all present in scope, in order, else the first
abbrev pub looked_at : Bool → Situation → List (ℕ × Arg)
looked_at true s = open_items s
looked_at false s = take 1 (open_items s)

-- each of these items may be passed by
abbrev pub ArePassed : {T : Type 0} → Looks T → List (ℕ × Arg) → Type 0
ArePassed looks items = All (λ placed. looks (item_text placed.1) None) items

-- the first of these items that matches
pub record FirstMatch {T : Type 0} (looks : Looks T) (items : List (ℕ × Arg)) (place : ℕ)
    (item : Arg) (v : T) : Type 0 where
  pub before : List (ℕ × Arg)
  pub after : List (ℕ × Arg)
  pub split : items ≡ before ++ (place, item) ∷ after
  pub passed : ArePassed looks before
  pub matched : looks (item_text item) (Some v)

-- a place taken, if it is present and in scope
abbrev pub take_if_open : Situation → ℕ → Situation
take_if_open s p = if is_open s p then take_place s p else s

-- a place taken, and behind an attached key the next one, if it is present and in scope
abbrev pub take_item : Situation → ℕ → Bool → Situation
take_item s place attached =
    if attached then take_if_open (take_place s place) (place + 1) else take_place s place

-- the first item that is looked at and matches is taken; or none matches, and nothing changes
abbrev pub TakesMatch : {T : Type 0} → Looks T → Bool → Situation → Option T → Situation → Type 0
TakesMatch looks anywhere s (Some v) t =
    (place : ℕ) × (item : Arg) × FirstMatch looks (looked_at anywhere s) place item v
    × (t ≡ take_item s place (is_attached item))
TakesMatch looks anywhere s None t = ArePassed looks (looked_at anywhere s) × (t ≡ s)

-- one place, of an attached key perhaps the next too; and what a look at its text may answer
pub record AnyReads (T : Type 0) (looks : Looks T) (context : Context) (share : Share) (v : T)
    : Type 0 where
  pub place : ℕ
  pub item : Arg
  pub there : item_in context place ≡ Some item
  pub matched : looks (item_text item) (Some v)
  pub places : IsPlace place share ⊎ ((is_attached item ≡ true) × IsPair place share)

-- a refusal: no item that is looked at matches; or want of memory; nothing changes
abbrev pub AnyFails : {T : Type 0} → Looks T → Part → Bool → Situation → Message → Situation
    → Type 0
AnyFails looks part anywhere s (Missing items) t =
    TakesMatch looks anywhere s None t × IsMissingIn s (Some part) items
AnyFails looks part anywhere s Memory t = t ≡ s
AnyFails looks part anywhere s m t = ⊥

-- the value of the first item that is looked at and matches
abbrev pub AnyOutcome : {T : Type 0} → Looks T → Part → Bool → Outcome T
AnyOutcome looks part anywhere s (Ok v) t = TakesMatch looks anywhere s (Some v) t
AnyOutcome looks part anywhere s (Err e) t = AnyFails looks part anywhere s e.0 t

-- the first entry of a path, else `app`
abbrev pub first_entry : List (List ℕ) → List ℕ
first_entry [] = codes "app"
first_entry (entry ∷ entries) = entry

-- the path begins with the set name, where one is set
abbrev pub BeginsWithName : Situation → Type 0
BeginsWithName s = IfSome s.context.name (λ name. slice_get s.path 0 ≡ Some name)

-- no place, and the set name; where none is set, any text
abbrev pub AppnameReads : Readings (String Global)
AppnameReads context share v =
    IsEmptyShare share × IfSome context.name (λ name. string_bytes v ≡ name)

-- the first entry of the path, which begins with the set name; or want of memory. Nothing changes
abbrev pub AppnameOutcome : Outcome (String Global)
AppnameOutcome s (Ok v) t = (string_bytes v ≡ first_entry s.path) × BeginsWithName s × (t ≡ s)
AppnameOutcome s (Err e) t = (e.0 ≡ Memory) × (t ≡ s)

-- Arguments: a key and the text behind it.

-- a key of the argument
abbrev pub is_key_with_value : KeyWithValue → Arg → Bool
is_key_with_value argument = is_argument_key argument.named.names argument.adjacent

-- a key of the argument is at this place, and behind it a Word or an ArgWord with this text
pub record IsKeyBefore (argument : KeyWithValue) (context : Context) (key : ℕ) (text : List ℕ)
    : Type 0 where
  pub is_key : HasItem (is_argument_key argument.named.names argument.adjacent) context key
  pub behind_it : option_and_then value_text (item_in context (key + 1)) ≡ Some text

-- the places behind those of a set
abbrev pub behind : Share → Share
behind keys zero = false
behind keys (suc p) = keys p

-- keys of the argument, one at least, and the places behind; the greatest has this text behind it
pub record AreKeysWithText (argument : KeyWithValue) (context : Context) (share : Share)
    (text : List ℕ) : Type 0 where
  pub keys : Share
  pub are_keys : (p : ℕ) → keys p ≡ true → (own : List ℕ) × IsKeyBefore argument context p own
  pub places : (p : ℕ) → share p ≡ (keys p || behind keys p)
  pub greatest : ℕ
  pub is_key : keys greatest ≡ true
  pub no_greater : (p : ℕ) → keys p ≡ true → p ≤ greatest
  pub before : IsKeyBefore argument context greatest text

-- a key and the text behind it; where the last one counts, keys and the text behind the last one
abbrev pub IsOwnText : Bool → KeyWithValue → Context → Share → List ℕ → Type 0
IsOwnText false argument context share text =
    (key : ℕ) × IsKeyBefore argument context key text × IsPair key share
IsOwnText true argument context share text = AreKeysWithText argument context share text

-- what the text behind a key means; or no place, and what that of the first set variable means
abbrev pub ArgumentReads : (T : Type 0) → (List ℕ → T → Type 0) → KeyWithValue → Readings T
ArgumentReads T means argument context share v =
    ((text : List ℕ) × IsOwnText argument.last argument context share text × means text v)
    ⊎ (IsEmptyShare share × IsSomeRelated means (first_set context.env argument.named.envs) v)

-- the first key of the argument and the text behind it are taken
abbrev pub TakesKeyWithText : KeyWithValue → Situation → List ℕ → Situation → Type 0
TakesKeyWithText argument = TakesValue argument.named.names argument.adjacent

-- keys of the argument and the texts behind them are taken, in this order, each key the first one
abbrev pub TakesKeysWithTexts : KeyWithValue → Situation → List (List ℕ) → Situation → Type 0
TakesKeysWithTexts argument s [] t = t ≡ s
TakesKeysWithTexts argument s (text ∷ texts) t =
    (m : Situation) × TakesKeyWithText argument s text m × TakesKeysWithTexts argument m texts t

-- no key of the argument is present in scope
abbrev pub HasNoKey : KeyWithValue → Situation → Type 0
HasNoKey argument = HasNone (is_key_with_value argument)

-- all keys of the argument and the texts behind them are taken, and this is the last text
pub record TakesLastText (argument : KeyWithValue) (s : Situation) (text : List ℕ) (t : Situation)
    : Type 0 where
  pub before : List (List ℕ)
  pub taken : TakesKeysWithTexts argument s (before ++ text ∷ []) t
  pub no_more : HasNoKey argument t

-- the first key and its text are taken; where the last one counts, all keys with their texts
abbrev pub TakesOwnText : Bool → KeyWithValue → Situation → List ℕ → Situation → Type 0
TakesOwnText false = TakesKeyWithText
TakesOwnText true = TakesLastText

-- what was taken when no text was found: nothing; where the last counts any keys with their texts
abbrev pub TakesBefore : Bool → KeyWithValue → Situation → Situation → Type 0
TakesBefore false argument s t = t ≡ s
TakesBefore true argument s t = (texts : List (List ℕ)) × TakesKeysWithTexts argument s texts t

-- no key is there, and this is the text of the first name that is set; no place is current then
pub record ReadsVariable (argument : KeyWithValue) (s : Situation) (text : List ℕ) (t : Situation)
    : Type 0 where
  pub no_key : HasNoKey argument s
  pub set : first_set s.context.env argument.named.envs ≡ Some text
  pub left : t ≡ with_current s None

-- an argument's text: that behind its key, both taken; or, with no key, that of the environment
abbrev pub GetsText : KeyWithValue → Situation → List ℕ → Situation → Type 0
GetsText argument s text t =
    TakesOwnText argument.last argument s text t ⊎ ReadsVariable argument s text t

-- the first key has no text behind it
abbrev pub LacksText : KeyWithValue → Situation → Message → Type 0
LacksText argument = RefusesArgument argument.named.names argument.adjacent argument.metavar

-- a key has no text behind it, or memory is wanted
abbrev pub RefusesKey : Bool → KeyWithValue → Situation → Message → Situation → Type 0
RefusesKey last argument s (NoArgument key m) t =
    LacksText argument t (NoArgument key m) × TakesBefore last argument s t
RefusesKey last argument s Memory t = TakesBefore last argument s t
RefusesKey last argument s m t = ⊥

-- the text behind the first key, or behind the last of all; no key, nothing changed; or a refusal
abbrev pub TakesAtKey : Bool → KeyWithValue → Situation → Result (Option (List ℕ)) Error
    → Situation → Type 0
TakesAtKey last argument s (Ok (Some text)) t = TakesOwnText last argument s text t
TakesAtKey last argument s (Ok None) t = HasNoKey argument s × (t ≡ s)
TakesAtKey last argument s (Err e) t = RefusesKey last argument s e.0 t

-- no environment name is set, and the refusal says that the argument is nowhere
abbrev pub IsNowhere : KeyWithValue → Situation → Message → Type 0
IsNowhere argument s m =
    (first_set s.context.env argument.named.envs ≡ None)
    × IsAbsence s (argument_part argument) argument.named.envs m

-- no text: the key has none behind it; or there is neither a key nor a variable; or memory is
-- wanted; nothing changes, but for keys that were taken before it, where the last one counts
abbrev pub RefusesText : KeyWithValue → Situation → Message → Situation → Type 0
RefusesText argument s (NoArgument key m) t =
    LacksText argument t (NoArgument key m) × TakesBefore argument.last argument s t
RefusesText argument s Memory t = TakesBefore argument.last argument s t
RefusesText argument s m t = HasNoKey argument s × IsNowhere argument s m × (t ≡ s)

-- the text of an argument, or a refusal
abbrev pub TextOutcome : KeyWithValue → Situation → Result (List ℕ) Error → Situation → Type 0
TextOutcome argument s (Ok text) t = GetsText argument s text t
TextOutcome argument s (Err e) t = RefusesText argument s e.0 t

-- a refusal: no text; or one that means no value, its places taken; or want of memory for its value
abbrev pub ArgumentFails : {T : Type 0} → (List ℕ → T → Type 0) → KeyWithValue → Situation → Message
    → Situation → Type 0
ArgumentFails means argument s (ParseFailed place fault) t =
    (text : List ℕ) × GetsText argument s text t
    × FaultsText means text t.current (ParseFailed place fault)
ArgumentFails means argument s Memory t =
    TakesBefore argument.last argument s t ⊎ ((text : List ℕ) × GetsText argument s text t)
ArgumentFails means argument s m t = RefusesText argument s m t

-- the text of the argument means the answer
abbrev pub ArgumentOutcome : {T : Type 0} → (List ℕ → T → Type 0) → KeyWithValue → Outcome T
ArgumentOutcome means argument s (Ok v) t =
    (text : List ℕ) × GetsText argument s text t × means text v
ArgumentOutcome means argument s (Err e) t = ArgumentFails means argument s e.0 t

-- what an argument shows: its item; without a name nothing
abbrev pub argument_shape : KeyWithValue → Shape
argument_shape argument = option_map_or Shown (argument_part argument) Skip

-- what stands for no key: where its variable is set the present value, else the absent one
abbrev pub value_without_key : {T : Type 0} → T → Option T → Option (List ℕ) → Option T
value_without_key present absent (Some text) = Some present
value_without_key present absent None = absent

-- one key with one of the names and a clone of the present value; or no place, and one for no key
pub data FlagReads (T : Type 0) (clones : T → T → Type 0) (named : Named) (present : T)
    (absent : Option T) (context : Context) (share : Share) (v : T) : Type 0 where
  at_key : (key : ℕ) → HasItem (is_key_of named.names) context key → IsPlace key share
      → clones present v → FlagReads T clones named present absent context share v
  nowhere : IsEmptyShare share
      → IsSomeRelated clones (value_without_key present absent (first_set context.env named.envs)) v
      → FlagReads T clones named present absent context share v

-- a flag is present: its key is taken; or it is not on the line, and an environment name is set
abbrev pub IsFlagPresent : Named → Situation → Situation → Type 0
IsFlagPresent named s t =
    TakesFlag named.names s true t
    ⊎ (TakesFlag named.names s false t × (is_set s.context.env named.envs ≡ true))

-- it is neither on the line nor in the environment
abbrev pub IsFlagAbsent : Named → Situation → Situation → Type 0
IsFlagAbsent named s t = TakesFlag named.names s false t × (is_set s.context.env named.envs ≡ false)

-- whether a key without a value is present: one test for flags and for the keys of help and version
abbrev pub IsPresent : Named → Situation → Bool → Situation → Type 0
IsPresent named s true t = IsFlagPresent named s t
IsPresent named s false t = IsFlagAbsent named s t

-- a refusal: a flag without absent value is absent; or a clone, or the refusal, wanted memory
abbrev pub FlagFails : {T : Type 0} → Named → Option T → Situation → Message → Situation → Type 0
FlagFails named absent s Memory t = (present : Bool) × IsPresent named s present t
FlagFails named absent s m t =
    IsFlagAbsent named s t × (absent ≡ None) × IsAbsence s (flag_part named) named.envs m

-- present with the present value, or absent with the absent one
abbrev pub FlagOutcome : {T : Type 0} → (T → T → Type 0) → Named → T → Option T → Outcome T
FlagOutcome clones named present absent s (Ok v) t =
    (IsFlagPresent named s t × clones present v)
    ⊎ (IsFlagAbsent named s t × IsSomeRelated clones absent v)
FlagOutcome clones named present absent s (Err e) t = FlagFails named absent s e.0 t

-- what may be left out is shown so
abbrev pub optional_if : {T : Type 0} → Option T → Shape → Shape
optional_if None shape = shape
optional_if (Some kept) shape = Optional shape

-- what a flag shows: its item, which it may lack with an absent value; without a name nothing
abbrev pub flag_shape : {T : Type 0} → Named → Option T → Shape
flag_shape named absent =
    option_map_or (λ part. optional_if absent (Shown part)) (flag_part named) Skip

-- A key comes before the environment.

-- p is the last place with a match
pub record IsLast (test : Arg → Bool) (s : Situation) (p : ℕ) : Type 0 where
  pub matches : is_match test s p ≡ true
  pub last : (q : ℕ) → p < q → is_match test s q ≡ false

-- the key that counts: the first one, or, of an argument that takes the last value, the last one
abbrev pub Counts : Bool → (Arg → Bool) → Situation → ℕ → Type 0
Counts false = IsFirst
Counts true = IsLast

-- a key has no text behind it, and each one before it has a text
pub record IsFirstBare (argument : KeyWithValue) (s : Situation) (key : ℕ) : Type 0 where
  pub matches : is_match (is_key_with_value argument) s key ≡ true
  pub bare : value_after s key ≡ None
  pub first : (q : ℕ) → q < key → is_match (is_key_with_value argument) s q ≡ true
      → (text : List ℕ) × (value_after s q ≡ Some text)

-- the first key has no text behind it; where the last one counts, some key has none
abbrev pub LacksOwnText : Bool → KeyWithValue → Situation → ℕ → List ℕ → Type 0
LacksOwnText false argument s key m = LacksText argument s (NoArgument key m)
LacksOwnText true argument s key m = IsFirstBare argument s key × (m ≡ argument.metavar)

-- the value is what the text behind the key that counts means
abbrev pub IsBehindKey : {T : Type 0} → (List ℕ → T → Type 0) → KeyWithValue → Situation → T
    → Situation → Type 0
IsBehindKey means argument s v t =
    (text : List ℕ) × TakesOwnText argument.last argument s text t × means text v

-- the value is what the text of the first name that is set means
abbrev pub IsInVariable : {T : Type 0} → (List ℕ → T → Type 0) → KeyWithValue → Situation → T
    → Type 0
IsInVariable means argument s v =
    (text : List ℕ) × (first_set s.context.env argument.named.envs ≡ Some text) × means text v

-- a text that means no value
abbrev pub MeansNothing : {T : Type 0} → (List ℕ → T → Type 0) → List ℕ → Type 0
MeansNothing {T} means text = (v : T) → ¬ (means text v)

-- the text behind the key that counts means no value, and stands at this place
pub record IsFaultAtKey {T : Type 0} (means : List ℕ → T → Type 0) (argument : KeyWithValue)
    (s : Situation) (place : Option ℕ) : Type 0 where
  pub key : ℕ
  pub counts : Counts argument.last (is_key_with_value argument) s key
  pub text : List ℕ
  pub behind : value_after s key ≡ Some text
  pub nothing : MeansNothing means text
  pub is : place ≡ Some (key + 1)

-- a refusal where a key is there: it has no text behind it, or the text behind the one that counts
-- means no value; or want of memory
abbrev pub FailsAtKey : {T : Type 0} → (List ℕ → T → Type 0) → KeyWithValue → Situation → Message
    → Type 0
FailsAtKey means argument s (NoArgument key m) = LacksOwnText argument.last argument s key m
FailsAtKey means argument s (ParseFailed place fault) = IsFaultAtKey means argument s place
FailsAtKey means argument s Memory = ⊤
FailsAtKey means argument s m = ⊥

-- a refusal where no key is there: the text of the first name that is set means no value, and no
-- place is named; or none is set; or want of memory
abbrev pub FailsInVariable : {T : Type 0} → (List ℕ → T → Type 0) → KeyWithValue → Situation
    → Message → Type 0
FailsInVariable means argument s (ParseFailed place fault) =
    (text : List ℕ) × (first_set s.context.env argument.named.envs ≡ Some text)
    × MeansNothing means text × (place ≡ None)
FailsInVariable means argument s Memory = ⊤
FailsInVariable means argument s m = IsNowhere argument s m

-- a refusal, by whether a key of the argument is present in scope
abbrev pub FailsKeyFirst : {T : Type 0} → (List ℕ → T → Type 0) → KeyWithValue → Situation → Message
    → Type 0
FailsKeyFirst means argument s m =
    ((p : ℕ) → is_match (is_key_with_value argument) s p ≡ true → FailsAtKey means argument s m)
    × (HasNoKey argument s → FailsInVariable means argument s m)

-- where a key of the argument is present in scope, the answer is that of the one that counts,
-- whatever the environment has; where none is, it is that of the environment
abbrev pub KeyBeforeEnvironment : {T : Type 0} → (List ℕ → T → Type 0) → KeyWithValue → Outcome T
KeyBeforeEnvironment means argument s (Ok v) t =
    ((p : ℕ) → is_match (is_key_with_value argument) s p ≡ true → IsBehindKey means argument s v t)
    × (HasNoKey argument s → IsInVariable means argument s v)
KeyBeforeEnvironment means argument s (Err e) t = FailsKeyFirst means argument s e.0
