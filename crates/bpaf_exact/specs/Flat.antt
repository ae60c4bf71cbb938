-- What a flat field keeps to when it is evaluated: its answer and what it takes depend on its own
-- pieces alone; and what closures, defaults and repeats make of it.
use Rattle.std.specs.Prelude.{if◌then◌else◌, MatchBool, is_some, Option, length, filter, Result, []}
use Rattle.std.specs.Prelude.{false, Bool, List, true, zero, None, drop, take, Some, ◌++◌, suc, ◌<◌}
use Rattle.bpaf_exact.specs.Pieces.{no_roles, WithNext, is_value, Foreign, IsNamed, is_own, pieces}
use Rattle.bpaf_exact.specs.Pieces.{stands_behind, TakesPieces, word_roles, TakesPiece, LinePiece}
use Rattle.std.specs.Prelude.{◌∷◌, ◌≡◌, Err, not, ◌⊎◌, Ok, ℕ}
use Rattle.std.specs.{Option.IsSomeRelated, List.before_first, Global.Vec}
use Rattle.bpaf_base.specs.declared.arg.Arg.{Arg}
use Rattle.bpaf_line.specs.Messages.{is_memory, can_catch, is_wrong_input}
use Rattle.bpaf_line.specs.Situation.{open_count, Situation, is_taken}
use Rattle.bpaf_line.specs.{declared.error.Message.TheVariants.Missing, declared.error.Error.Error}
use Rattle.bpaf_line.specs.{declared.error.Message.Message, Taking.open_item}
use Rattle.bpaf_laws.specs.Combinators.{ListOutcome, UntilFault, UntilRest}
use Rattle.bpaf_laws.specs.Reading.{Outcome}
use Rattle.bpaf_exact.specs.Pieces.{Cells, Apart, Roles, Alone, One, Cut, Two}

-- the classes of refusals
pub data ErrorClass : Type 0 where
  OfMemory OfMissing Caught Refused : ErrorClass

-- it says that items are missing
abbrev pub is_missing : Message → Bool
is_missing (Missing items) = true
is_missing _ = false

-- the class by three tests: want of memory, a missing item, and whether it can be caught
abbrev pub class_of_tests : Bool → Bool → Bool → ErrorClass
class_of_tests true missing caught = OfMemory
class_of_tests false true caught = OfMissing
class_of_tests false false true = Caught
class_of_tests false false false = Refused

-- the class of a message
abbrev pub error_class : Message → ErrorClass
error_class m = class_of_tests (is_memory m) (is_missing m) (can_catch m)

-- the class of a refusal
abbrev pub class : Error → ErrorClass
class e = error_class e.0

-- what is at the first places, as many as a number says
abbrev pub first_cells : (ℕ → Option Arg) → ℕ → Cells
first_cells at zero = []
first_cells at (suc n) = at zero ∷ first_cells (λ p. at (suc p)) n

-- what is present at each place of the line
unfoldable pub cells : Situation → Cells
cells s = first_cells (open_item s) (length s.context.line)

-- nothing is present
pub data NonePresent : Cells → Type 0 where
  no_place : NonePresent []
  none_here : {cs : Cells} → NonePresent cs → NonePresent (None ∷ cs)

-- the variables of an environment, by their names, each with its value
abbrev pub Variables : Type 0
Variables = List (List ℕ × List ℕ)

-- each place that isn't taken lies in the scope: it reaches to the line's end, and nothing is left
-- in front of it; and the environment has these variables
pub record IsWholeIn (variables : Variables) (s : Situation) : Type 0 where
  pub end : s.end ≡ length s.context.line
  pub front : (p : ℕ) → p < s.start → is_taken s p ≡ true
  pub environment : s.context.env ≡ variables

-- nothing but what is taken, conflicts and the current place has changed, and none is given back
pub record Steady (s t : Situation) : Type 0 where
  pub context : t.context ≡ s.context
  pub start : t.start ≡ s.start
  pub end : t.end ≡ s.end
  pub path : t.path ≡ s.path
  pub keeps : (p : ℕ) → is_taken s p ≡ true → is_taken t p ≡ true

-- a named field; a positional field without a repeat; a positional field with one; those of words
-- stop before the first one behind `--`, or don't
pub data FieldKind : Type 0 where
  ByName : FieldKind
  OneWord EachWord : (stops : Bool) → FieldKind

-- a piece stands behind `--`
abbrev pub is_behind : LinePiece → Bool
is_behind (One k) = stands_behind k
is_behind (Two k w) = false

-- Of the pieces that the fields before it left, a field's portion: for a named field those that
-- begin with one of its names; for a positional field those up to the first that it stops at, and
-- without a repeat one of them, if there is one.
abbrev pub portion : FieldKind → Roles → List LinePiece → List LinePiece
portion ByName q os = filter (is_own q) os
portion (OneWord stops) q os = take 1 (if stops then before_first is_behind os else os)
portion (EachWord stops) q os = if stops then before_first is_behind os else os

-- what it leaves to the fields after it
abbrev pub left : FieldKind → Roles → List LinePiece → List LinePiece
left ByName q os = filter (λ o. not (is_own q o)) os
left k q os = drop (length (portion k q os)) os

-- of pieces that are all its own, what a field takes
abbrev pub front : FieldKind → List LinePiece → List LinePiece
front ByName os = os
front k os = portion k no_roles os

-- of pieces that are all its own, what a field leaves
abbrev pub back : FieldKind → List LinePiece → List LinePiece
back ByName os = []
back k os = left k no_roles os

-- the keys of a field
abbrev pub keys : FieldKind → Roles → Roles
keys ByName q = q
keys k q = no_roles

-- the items of a positional field are the words
pub record IsWords (q : Roles) : Type 0 where
  pub words : (k : Arg) → q k ≡ word_roles k

-- a field's own items are keys; a positional field's are the words
abbrev pub OwnItems : FieldKind → Roles → Type 0
OwnItems ByName q = IsNamed q
OwnItems k q = IsWords q

-- a named field leaves none of its own keys
abbrev pub NoKeysLeft : FieldKind → Roles → Cells → Type 0
NoKeysLeft ByName q cs = pieces q cs ≡ []
NoKeysLeft k q cs = Unit {0}

-- what an outcome keeps to where the environment has these variables: by where it begins and where
-- it leads, which values it gives, and of which classes its refusals are
pub record KeepsTo (variables : Variables) (T : Type 0) (outcome : Outcome T)
    (gives : Situation → T → Situation → Type 0)
    (refuses : Situation → ErrorClass → Situation → Type 0) : Type 0 where
  pub ok : (s t : Situation) (v : T) → IsWholeIn variables s → outcome s (Ok v) t → gives s v t
  pub err : (s t : Situation) (e : Error) → IsWholeIn variables s → outcome s (Err e) t
      → refuses s (class e) t

-- An answer of a field: it takes pieces of its own alone, and if none of a named field's is left
-- over, the answer is a value of its portion. Where that has a value, none is.
pub record FieldTook (T : Type 0) (k : FieldKind) (q : Roles) (value : List LinePiece → T → Type 0)
    (s : Situation) (v : T) (t : Situation) : Type 0 where
  pub steady : Steady s t
  pub takes : TakesPieces q (cells s) (cells t)
  pub read : NoKeysLeft k q (cells t) → value (front k (pieces q (cells s))) v
  pub rest : NoKeysLeft k q (cells t) → pieces q (cells t) ≡ back k (pieces q (cells s))
  pub all : (w : T) → value (front k (pieces q (cells s))) w → NoKeysLeft k q (cells t)

-- The laws of a flat field. Where its portion has a value, a refusal is want of memory.
pub record FieldLaw (variables : Variables) (T : Type 0) (outcome : Outcome T) (k : FieldKind)
    (q : Roles) (value : List LinePiece → T → Type 0) : Type 0 where
  pub own : OwnItems k q
  pub keeps : KeepsTo variables T outcome (FieldTook T k q value)
      (λ s c t. (w : T) → value (front k (pieces q (cells s))) w → c ≡ OfMemory)

-- the values of fields are read off the pieces of a cut: their own, and each word; nothing is left
pub record ReadOff (V : Type 0) (r : Roles) (value : List LinePiece → V → Type 0) (cs : Cells)
    (v : V) : Type 0 where
  pub cut_into : List LinePiece
  pub cut : Cut r cs cut_into
  pub read : value cut_into v

-- a field has a value on its pieces
abbrev pub HasValue : {T : Type 0} → (List LinePiece → T → Type 0) → List LinePiece → Type 0
HasValue {T = T} value os = (v : T) × value os v

-- how a record's fields read the pieces: which values they have, and whether each has its own
pub record FieldsReading (V : Type 0) : Type 1 where
  pub value : List LinePiece → V → Type 0
  pub each : List LinePiece → Type 0

-- an answer of flat fields: it is read off where nothing is left, as where each has a value
pub record FieldsTook (V : Type 0) (r : Roles) (reading : FieldsReading V) (s : Situation) (v : V)
    (t : Situation) : Type 0 where
  pub steady : Steady s t
  pub read : NonePresent (cells t) → ReadOff V r reading.value (cells s) v
  pub all : (os : List LinePiece) → Cut r (cells s) os → reading.each os → NonePresent (cells t)

-- the laws of a list of flat fields; where each has a value, a refusal is want of memory
pub record FieldsLaw (variables : Variables) (V : Type 0) (outcome : Outcome V) (r : Roles)
    (reading : FieldsReading V) : Type 0 where
  pub named : IsNamed r
  pub has_each : (os : List LinePiece) (v : V) → reading.value os v → reading.each os
  pub keeps : KeepsTo variables V outcome (FieldsTook V r reading)
      (λ s c t. (os : List LinePiece) → Cut r (cells s) os → reading.each os → c ≡ OfMemory)

-- a field before others: their keys are apart, and after a positional field no named one stands
abbrev pub Before : FieldKind → Roles → Roles → Type 0
Before ByName q r = Apart q r
Before k q r = (item : Arg) → r item ≡ Foreign

-- how a field and those after it read the pieces
abbrev pub both_reading : {A B : Type 0} → FieldKind → Roles → (List LinePiece → A → Type 0)
    → FieldsReading B → FieldsReading (A × B)
both_reading {A = A} k q first rest = record {
  value = λ os v. first (portion k q os) v.0 × rest.value (left k q os) v.1;
  each = λ os. ((v : A) × first (portion k q os) v) × rest.each (left k q os);
}

-- A flat field without a repeat or default: one evaluation, and what these make of it.

-- how one evaluation reads a value off the front of the own pieces, and which it leaves
abbrev pub Groups : Type 0 → Type 1
Groups T = List LinePiece → T → List LinePiece → Type 0

-- the first piece alone, where each piece has its value by itself
abbrev pub FrontOf : (T : Type 0) → (LinePiece → T → Type 0) → Groups T
FrontOf T value os v rest = (o : LinePiece) × (os ≡ o ∷ rest) × value o v

-- the values read off the pieces, one after the other
pub data Own (T : Type 0) (group : Groups T) : List LinePiece → List T → Type 0 where
  own_none : Own T group [] []
  own_more : {os rest : List LinePiece} {v : T} {vs : List T} → group os v rest
      → Own T group rest vs → Own T group os (v ∷ vs)

-- at least one piece taken
pub record TakesAny (q : Roles) (cs ds : Cells) : Type 0 where
  pub piece : LinePiece
  pub middle : Cells
  pub one : TakesPiece q cs piece middle
  pub more : TakesPieces q middle ds

-- whether there is a value for no piece at all, and which it may be
pub record Gap (T : Type 0) : Type 1 where
  pub has : Bool
  pub absent : T → Type 0

-- for no piece at all what something means, if there is something
abbrev pub gap_of : {X T : Type 0} → (X → T → Type 0) → Option X → Gap T
gap_of means kept = record { has = is_some kept; absent = IsSomeRelated means kept }

-- a value read off the front of the own pieces, of which at least one was taken
pub record TookGroup (T : Type 0) (q : Roles) (group : Groups T) (s : Situation) (v : T)
    (t : Situation) : Type 0 where
  pub steady : Steady s t
  pub takes : TakesAny q (cells s) (cells t)
  pub read : group (pieces q (cells s)) v (pieces q (cells t))

-- refusals of the class can be caught, for a missing item or otherwise
pub data CanCatch (c : ErrorClass) : Type 0 where
  catch_missing : c ≡ OfMissing → CanCatch c
  catch_other : c ≡ Caught → CanCatch c

-- a refusal of one evaluation of a positional field
pub data SingleErr (T : Type 0) (stops : Bool) (q : Roles) (group : Groups T) (s : Situation)
    (c : ErrorClass) (t : Situation) : Type 0 where
  of_memory : c ≡ OfMemory → SingleErr T stops q group s c t
  -- no word; where it says that an item is missing, nothing was taken
  of_missing : CanCatch c → front (OneWord stops) (pieces q (cells s)) ≡ []
      → (c ≡ OfMissing → cells t ≡ cells s) → SingleErr T stops q group s c t
  -- a word that can't be read
  of_piece : c ≡ Refused → (front (OneWord stops) (pieces q (cells s)) ≡ [] → ⊥)
      → ((w : T) (rest : List LinePiece) → group (pieces q (cells s)) w rest → ⊥)
      → SingleErr T stops q group s c t

-- a positional field without a repeat reads its first word alone, none behind what it stops at;
-- of all that a repeat of it takes it reads the first too
pub record WordByWord (T : Type 0) (stops : Bool) (group : Groups T) : Type 0 where
  pub by_front : (os : List LinePiece) (v : T) (rest : List LinePiece) → group os v rest
      → group (front (OneWord stops) os) v [] × (rest ≡ back (OneWord stops) os)
  pub of_front : (os : List LinePiece) (v : T) → group (front (OneWord stops) os) v []
      → group os v (back (OneWord stops) os)
  pub by_each : (os : List LinePiece) (v : T) (rest : List LinePiece) → group os v rest
      → group (front (EachWord stops) os) v (front (EachWord stops) rest)
      × (back (EachWord stops) rest ≡ back (EachWord stops) os)
  pub of_each : (os : List LinePiece) (v : T) (rest : List LinePiece)
      → group (front (EachWord stops) os) v rest
      → (more : List LinePiece) × group os v more × (rest ≡ front (EachWord stops) more)

-- how one evaluation reads: no piece is no group, and without a value for no piece none is one
pub record IsGroup (T : Type 0) (group : Groups T) (gap : Gap T) : Type 0 where
  pub starts : (v : T) (rest : List LinePiece) → group [] v rest → ⊥
  pub no_absent : (v : T) → gap.has ≡ false → gap.absent v → ⊥

-- the laws of a positional field without a repeat or default, which stands for no absent value
pub record SingleLaw (variables : Variables) (T : Type 0) (outcome : Outcome T) (stops : Bool)
    (q : Roles) (group : Groups T) (gap : Gap T) : Type 0 where
  pub own : IsWords q
  pub words : WordByWord T stops group
  pub is : IsGroup T group gap
  pub none : gap.has ≡ false
  pub keeps : KeepsTo variables T outcome (TookGroup T q group) (SingleErr T stops q group)

-- The own list under a repeat, which asks once more: an absent value is there also if unused.
pub data OwnList (T : Type 0) (group : Groups T) (gap : Gap T) : List LinePiece → List T
    → Type 0 where
  listed : {os : List LinePiece} {vs : List T} → gap.has ≡ false → Own T group os vs
      → OwnList T group gap os vs
  listed_and_absent : {os : List LinePiece} {v a : T} {vs : List T} → gap.has ≡ true → gap.absent a
      → Own T group os (v ∷ vs) → OwnList T group gap os (v ∷ vs)
  only_absent : {a : T} → gap.has ≡ true → gap.absent a → OwnList T group gap [] (a ∷ [])

-- the value of a field without a repeat or default: that of all pieces, or of none the absent one
abbrev pub SingleValue : (T : Type 0) → Groups T → Gap T → List LinePiece → T → Type 0
SingleValue T group gap os v = group os v [] ⊎ ((os ≡ []) × gap.absent v)

-- the laws of a key, of a choice of keys, and of closures round such
pub record KeyLaw (variables : Variables) (T : Type 0) (outcome : Outcome T) (q : Roles)
    (group : Groups T) (gap : Gap T) : Type 0 where
  pub is : IsGroup T group gap
  pub field : FieldLaw variables T outcome ByName q (SingleValue T group gap)

-- with a repeat a positional field gets all words
abbrev pub repeated : FieldKind → FieldKind
repeated (OneWord stops) = EachWord stops
repeated k = k

-- after an error a turn stops where nothing was found, or the error can be caught otherwise
pub data Stops (e : Error) (s m : Situation) : Type 0 where
  nothing_found : class e ≡ OfMissing → open_count m ≡ open_count s → Stops e s m
  caught : class e ≡ Caught → Stops e s m

-- the values of a repeat, until a turn stops; with `idle` also one value alone that took nothing
abbrev pub RepeatOutcome : {T : Type 0} → Outcome T → Bool → Outcome (List T)
RepeatOutcome inner false s r t = ListOutcome inner false s r t
RepeatOutcome inner true s (Ok values) t = UntilRest inner s values t
RepeatOutcome inner true s (Err e) t = UntilFault inner s e t

-- the number of places where an item is present
abbrev pub present_count : Cells → ℕ
present_count [] = 0
present_count (None ∷ cs) = present_count cs
present_count (Some x ∷ cs) = suc (present_count cs)

-- What closures, optional and fallback make of a field's answers.

-- what a closure may do with a value: yes, with which answer, or no
pub record Closure (A B : Type 0) : Type 1 where
  pub yes : A → B → Type 0
  pub no : A → Type 0

-- map, a constructor, count, collect, a kept value: what it promises, and never no
abbrev pub map_closure : {A B : Type 0} → (A → B → Type 0) → Closure A B
map_closure answers = record { yes = answers; no = λ x. ⊥ }

-- parse: its Ok and its Err
abbrev pub parse_closure : {A B E : Type 0} → (A → Result B E → Type 0) → Closure A B
parse_closure {E = E} answers =
    record { yes = λ x v. answers x (Ok v); no = λ x. (fault : E) × answers x (Err fault) }

-- guard: the same value where the check may be true, no where it may be false
abbrev pub guard_closure : {A : Type 0} → (A → Bool → Type 0) → Closure A A
guard_closure checks = record { yes = λ x v. (v ≡ x) × checks x true; no = λ x. checks x false }

-- what is called on nothing: its Ok and its Err
abbrev pub answer_closure : {B E : Type 0} → (Result B E → Type 0) → Closure (Unit {0}) B
answer_closure answers = parse_closure (λ u. answers)

-- what it may accept it doesn't refuse
abbrev pub Decides : {A B : Type 0} → Closure A B → Type 0
Decides {A = A} {B = B} f = (x : A) (v : B) → f.yes x v → f.no x → ⊥

-- the same of several values of the same pieces: where it may accept one, it doesn't refuse another
abbrev pub AgreesOn : {A B : Type 0} → (A → Type 0) → Closure A B → Type 0
AgreesOn {A = A} {B = B} value f = (x y : A) (v : B) → value x → value y → f.yes x v → f.no y → ⊥

-- a closure on what a parser answered; a no is an error of the class c
pub data ClosedEval (A B : Type 0) (inner : Outcome A) (f : Closure A B) (c : ErrorClass)
    (s : Situation) : Result B Error → Situation → Type 0 where
  closed_yes : {x : A} {v : B} {t : Situation} → inner s (Ok x) t → f.yes x v
      → ClosedEval A B inner f c s (Ok v) t
  closed_no : {x : A} {e : Error} {t : Situation} → inner s (Ok x) t → f.no x → class e ≡ c
      → is_wrong_input e.0 ≡ false → ClosedEval A B inner f c s (Err e) t
  closed_memory : {x : A} {e : Error} {t : Situation} → inner s (Ok x) t → class e ≡ OfMemory
      → ClosedEval A B inner f c s (Err e) t
  closed_err : {e : Error} {t : Situation} → inner s (Err e) t → ClosedEval A B inner f c s
      (Err e) t

-- a closure's answer on a value that something has: pieces, or cells
pub record ClosedValue {X A B : Type 0} (value : X → A → Type 0) (f : Closure A B) (x : X) (v : B)
    : Type 0 where
  pub from : A
  pub read : value x from
  pub made : f.yes from v

-- what may be left out
pub data OptionalEval (T : Type 0) (inner : Outcome T) (s : Situation) : Result (Option T) Error
    → Situation → Type 0 where
  optional_some : {v : T} {t : Situation} → inner s (Ok v) t → OptionalEval T inner s
      (Ok (Some v)) t
  optional_none : {e : Error} {m : Situation} → inner s (Err e) m → Stops e s m
      → OptionalEval T inner s (Ok None) s
  optional_err : {e : Error} {t : Situation} → inner s (Err e) t → (Stops e s t → ⊥)
      → OptionalEval T inner s (Err e) t
  optional_memory : {e : Error} {t : Situation} → class e ≡ OfMemory
      → OptionalEval T inner s (Err e) t

-- its value: Some of the one inside; or None, where there is neither a piece nor an absent value
abbrev pub OptionalValue : (T : Type 0) → Groups T → Gap T → List LinePiece → Option T → Type 0
OptionalValue T group gap os (Some v) = SingleValue T group gap os v
OptionalValue T group gap os None = (os ≡ []) × (gap.has ≡ false)

-- yes: what the fallback may give; no: that it may refuse, which is a fault of its own
pub data FallbackEval (T : Type 0) (inner : Outcome T) (f : Closure (Unit {0}) T)
    (s : Situation) : Result T Error → Situation → Type 0 where
  fallback_ok : {v : T} {t : Situation} → inner s (Ok v) t → FallbackEval T inner f s (Ok v) t
  fallback_given : {v : T} {e : Error} {m : Situation} → inner s (Err e) m → CanCatch (class e)
      → f.yes tt v → FallbackEval T inner f s (Ok v) s
  fallback_no : {e g : Error} {m : Situation} → inner s (Err e) m → CanCatch (class e) → f.no tt
      → class g ≡ Caught → is_wrong_input g.0 ≡ false → FallbackEval T inner f s (Err g) s
  fallback_memory : {e : Error} → class e ≡ OfMemory → FallbackEval T inner f s (Err e) s
  fallback_err : {e : Error} {m : Situation} → inner s (Err e) m → (CanCatch (class e) → ⊥)
      → FallbackEval T inner f s (Err e) s

-- the value of a field with a default: its own; or what stands for neither piece nor absent value
abbrev pub FallbackValue : (T : Type 0) → Groups T → Gap T → Closure (Unit {0}) T
    → List LinePiece → T → Type 0
FallbackValue T group gap f os v =
    SingleValue T group gap os v ⊎ ((os ≡ []) × (gap.has ≡ false) × f.yes tt v)

-- the absent value, through a closure
abbrev pub closed_gap : {A B : Type 0} → Gap A → Closure A B → Gap B
closed_gap {A = A} gap f =
    record { has = gap.has; absent = λ v. (x : A) × gap.absent x × f.yes x v }

-- many: the list
abbrev pub list_closure : (T : Type 0) → Closure (List T) (Vec T)
list_closure T = map_closure (λ values filled. filled.items ≡ values)

-- some: the list, not empty
abbrev pub some_closure : (T : Type 0) → Closure (List T) (Vec T)
some_closure T = record { yes = λ xs v. (v.items ≡ xs) × (xs ≡ [] → ⊥); no = λ xs. xs ≡ [] }

-- it is the last of a list
pub record IsLastOf (T : Type 0) (vs : List T) (v : T) : Type 0 where
  pub before : List T
  pub is : vs ≡ before ++ (v ∷ [])

-- the last of the own list
abbrev pub LastOf : (T : Type 0) → Groups T → Gap T → List LinePiece → T → Type 0
LastOf T group gap os v = (before : List T) × OwnList T group gap os (before ++ v ∷ [])

-- no item of the field's own
abbrev pub NotOwn : Roles → Option Arg → Type 0
NotOwn q None = Unit {0}
NotOwn q (Some k) = q k ≡ Foreign

-- the first piece of a field's own taken
pub data TakesFirst (q : Roles) : Cells → LinePiece → Cells → Type 0 where
  first_one : {k : Arg} {cs : Cells} → q k ≡ Alone → TakesFirst q (Some k ∷ cs) (One k) (None ∷ cs)
  first_two : {k w : Arg} {cs : Cells} → q k ≡ WithNext → is_value w ≡ true
      → TakesFirst q (Some k ∷ (Some w ∷ cs)) (Two k w) (None ∷ (None ∷ cs))
  first_later : {c : Option Arg} {cs ds : Cells} {o : LinePiece} → NotOwn q c → TakesFirst q cs o ds
      → TakesFirst q (c ∷ cs) o (c ∷ ds)

-- a piece has the value that the alternative gives that it belongs to
abbrev pub either_value : {T : Type 0} → Roles → (LinePiece → T → Type 0) → (LinePiece → T → Type 0)
    → LinePiece → T → Type 0
either_value q a b o v = MatchBool (is_own q o) (a o v) (b o v)
