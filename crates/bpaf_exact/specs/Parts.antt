-- Named parts, their entries, and the law of one evaluation of one.
use Rattle.std.specs.Prelude.{Option, List, Some, None, [], ◌≡◌, ◌⊎◌, ◌∷◌, false, true, Ok, Err}
use Rattle.bpaf_exact.specs.Flat.{TakesAny, cells, class, Closure, TakesFirst, Gap, NotOwn}
use Rattle.bpaf_exact.specs.Flat.{AgreesOn, Variables, ErrorClass, OfMemory, Refused, CanCatch}
use Rattle.bpaf_exact.specs.Pieces.{Cells, Roles, pieces, TakesPieces, IsNamed, Apart, either}
use Rattle.std.specs.{Prelude.Bool, Prelude.◌++◌, Prelude.ℕ, Global.Vec}
use Rattle.bpaf_base.specs.{declared.arg.Arg.Arg, Items.item_text}
use Rattle.bpaf_line.specs.{declared.error.Error.Error, Messages.is_wrong_input}
use Rattle.bpaf_line.specs.Situation.{Situation}
use Rattle.bpaf_laws.specs.Reading.{Outcome}
use Rattle.bpaf_exact.specs.Pieces.{LinePiece, is_own_role, is_own, no_roles, Owns, Two}
use Rattle.bpaf_exact.specs.Flat.{Steady, IsWholeIn, NonePresent, IsLastOf, some_closure}
use Rattle.bpaf_doc.specs.Names.{Names}

-- a named part: the items that are its own; its first entry's value, and what is left without that;
-- which values it may have where it is absent, and whether it is missing then
pub record Part (T : Type 0) : Type 1 where
  pub roles : Roles
  pub first : Cells → T → Cells → Type 0
  pub absent : T → Type 0
  pub missing : Type 0

-- none of its own pieces is here
abbrev pub NoOwn : {T : Type 0} → Part T → Cells → Type 0
NoOwn part cs = pieces part.roles cs ≡ []

-- its entries, one after the other, until none of its own pieces is left
pub data Entries {T : Type 0} (part : Part T) : Cells → List T → Cells → Type 0 where
  no_entry : {cs : Cells} → NoOwn part cs → Entries part cs [] cs
  entry : {cs ds es : Cells} {v : T} {vs : List T} → part.first cs v ds → Entries part ds vs es
      → Entries part cs (v ∷ vs) es

-- its own pieces have entries
abbrev pub HasEntries : {T : Type 0} → Part T → Cells → Type 0
HasEntries {T = T} part cs = (vs : List T) × (es : Cells) × Entries part cs vs es

-- they have none
abbrev pub IsSpoiled : {T : Type 0} → Part T → Cells → Type 0
IsSpoiled part cs = HasEntries part cs → ⊥

-- its first entry; or no own piece, and what is absent
pub data Turn {T : Type 0} (part : Part T) (cs : Cells) (v : T) (ds : Cells) : Type 0 where
  present : part.first cs v ds → Turn part cs v ds
  absent : NoOwn part cs → part.absent v → ds ≡ cs → Turn part cs v ds

-- the first own piece was taken, whatever else was
pub data TakenHead (q : Roles) : Cells → Cells → Type 0 where
  head_here : {k : Arg} {cs ds : Cells} → is_own_role (q k) ≡ true
      → TakenHead q (Some k ∷ cs) (None ∷ ds)
  head_later : {c d : Option Arg} {cs ds : Cells} → NotOwn q c → TakenHead q cs ds
      → TakenHead q (c ∷ cs) (d ∷ ds)

-- What a part is.
pub record IsPart {T : Type 0} (part : Part T) : Type 0 where
  pub named : IsNamed part.roles
  -- an entry takes own pieces, at least one
  pub takes : {cs ds : Cells} {v : T} → part.first cs v ds → TakesAny part.roles cs ds
  -- which pieces doesn't depend on the value
  pub one : {cs ds es : Cells} {v w : T} → part.first cs v ds → part.first cs w es → ds ≡ es
  -- pieces of others that are given back don't matter
  pub back : {q : Roles} {cs ds es : Cells} {v : T} → IsNamed q → Apart q part.roles
      → TakesPieces q cs ds → part.first ds v es
      → (fs : Cells) × part.first cs v fs × TakesPieces q fs es
  -- the first own piece is among them
  pub heads : {cs ds : Cells} {v : T} → part.first cs v ds → TakenHead part.roles cs ds
  -- what is missing has no absent value
  pub not_both : {v : T} → part.missing → part.absent v → ⊥

-- an answer of one evaluation
pub record PartOk {T : Type 0} (part : Part T) (s : Situation) (v : T) (t : Situation) : Type 0
  where
    pub steady : Steady s t
    pub takes : TakesPieces part.roles (cells s) (cells t)
    pub gave : Turn part (cells s) v (cells t)
        ⊎ (IsSpoiled part (cells s) × IsSpoiled part (cells t))

-- why there is no value: it is missing, which can be caught; or its absent value is refused
pub data Lacks {T : Type 0} (part : Part T) (c : ErrorClass) : Type 0 where
  lacks_missing : CanCatch c → part.missing → Lacks part c
  lacks_refused : c ≡ Refused → ((v : T) → part.absent v → ⊥) → (part.missing → ⊥) → Lacks part c

-- why an evaluation is refused
abbrev pub WhyNone : {T : Type 0} → Part T → Cells → ErrorClass → Type 0
WhyNone part cs c = (NoOwn part cs × Lacks part c) ⊎ IsSpoiled part cs

-- a refusal that isn't want of memory; without own pieces the words of the line aren't at fault
pub record PartErr {T : Type 0} (part : Part T) (s : Situation) (e : Error) (t : Situation)
    : Type 0 where
  pub steady : Steady s t
  pub takes : TakesPieces part.roles (cells s) (cells t)
  pub why : WhyNone part (cells s) (class e)
  pub calm : NoOwn part (cells s) → is_wrong_input e.0 ≡ false

-- the law of a part, where the environment has these variables
pub record PartLaw (variables : Variables) (T : Type 0) (outcome : Outcome T) (part : Part T)
    : Type 0 where
  pub is : IsPart part
  pub ok : (s t : Situation) (v : T) → IsWholeIn variables s → outcome s (Ok v) t
      → PartOk part s v t
  pub err : (s t : Situation) (e : Error) → IsWholeIn variables s → outcome s (Err e) t
      → (class e ≡ OfMemory) ⊎ PartErr part s e t

-- A group's first entry: of the first entry of each part, or of what is absent of one.
pub data GroupFirst {A B : Type 0} (a : Part A) (b : Part B) (cs : Cells) (v : A × B)
    (es : Cells) : Type 0 where
  left_first : {ds : Cells} → a.first cs v.0 ds → Turn b ds v.1 es → GroupFirst a b cs v es
  right_first : NoOwn a cs → a.absent v.0 → b.first cs v.1 es → GroupFirst a b cs v es

-- two parts together
abbrev pub part_group : {A B : Type 0} → Part A → Part B → Part (A × B)
part_group {A = A} a b = record {
  roles = either a.roles b.roles;
  first = GroupFirst a b;
  absent = λ v. a.absent v.0 × b.absent v.1;
  missing = a.missing ⊎ ((x : A) × a.absent x × b.missing);
}

-- a part whose entries are made of those of another, which has these values where it is absent
abbrev pub part_wrapped : {A B : Type 0} → Part A → (A → B → Type 0) → (B → Type 0) → Type 0
    → Part B
part_wrapped {A = A} part makes gone lost = record {
  roles = part.roles;
  first = λ cs v ds. (x : A) × part.first cs x ds × makes x v;
  absent = gone;
  missing = lost;
}

-- where a part is absent: Some of its absent value, or None where it is missing
abbrev pub OptionalAbsent : {T : Type 0} → Part T → Option T → Type 0
OptionalAbsent part (Some v) = part.absent v
OptionalAbsent part None = part.missing

-- what may be left out: Some of each entry
abbrev pub part_optional : {T : Type 0} → Part T → Part (Option T)
part_optional part = part_wrapped part (λ x v. v ≡ Some x) (OptionalAbsent part) ⊥

-- a closure round a part
abbrev pub part_closed : {A B : Type 0} → Part A → Closure A B → Part B
part_closed {A = A} part f =
    part_wrapped part f.yes (λ v. (x : A) × part.absent x × f.yes x v) part.missing

-- the premise: whether a closure accepts depends on what is present alone, whichever its values are
abbrev pub PartAgrees : {A B : Type 0} → Closure A B → Part A → Type 0
PartAgrees {A = A} f part =
    ((cs : Cells) → AgreesOn (λ v. (ds : Cells) × part.first cs v ds) f) × AgreesOn part.absent f

-- a default: the same entries; where it is missing what stands for that
abbrev pub part_default : {T : Type 0} → Part T → Closure (Unit {0}) T → Part T
part_default part f = part_wrapped part (λ x v. v ≡ x)
    (λ v. part.absent v ⊎ (part.missing × f.yes tt v)) (part.missing × f.no tt)

-- a part isn't refused where it is absent
abbrev pub IsFine : {T : Type 0} → Part T → Type 0
IsFine {T = T} part = part.missing ⊎ ((v : T) × part.absent v)

-- a repeat: all entries together are one; where nothing is there the absent value once, or none.
-- What is absent is asked for once more, so it may not be refused.
pub record RepeatFirst {T : Type 0} (part : Part T) (cs : Cells) (vs : List T) (ds : Cells)
    : Type 0 where
  pub entries : Entries part cs vs ds
  pub some : NoOwn part cs → ⊥
  pub fine : IsFine part

pub data RepeatAbsent {T : Type 0} (part : Part T) (vs : List T) : Type 0 where
  no_value : part.missing → vs ≡ [] → RepeatAbsent part vs
  one_value : {v : T} → part.absent v → vs ≡ v ∷ [] → RepeatAbsent part vs

-- the list of all entries
abbrev pub part_repeat : {T : Type 0} → Part T → Part (List T)
part_repeat part = record {
  roles = part.roles;
  first = RepeatFirst part;
  absent = RepeatAbsent part;
  missing = ⊥;
}

-- The value of a part on all its own pieces, of which none is left.
pub record PartValue {T : Type 0} (part : Part T) (cs : Cells) (v : T) (ds : Cells) : Type 0 where
  pub turn : Turn part cs v ds
  pub none : NoOwn part ds

-- its value where nothing else is there
pub record PartAlone {T : Type 0} (part : Part T) (cs : Cells) (v : T) : Type 0 where
  pub left : Cells
  pub turn : Turn part cs v left
  pub none : NonePresent left

-- a part before what ends a program, on what it leaves
pub record PartThen {A B : Type 0} (part : Part A) (rest : Cells → B → Type 0) (cs : Cells)
    (v : A × B) : Type 0 where
  pub left : Cells
  pub own : PartValue part cs v.0 left
  pub behind : rest left v.1

-- A key: the first of its own pieces, where that means a value.
pub record KeyFirst {T : Type 0} (q : Roles) (value : LinePiece → T → Type 0) (cs : Cells) (v : T)
    (ds : Cells) : Type 0 where
  pub piece : LinePiece
  pub takes : TakesFirst q cs piece ds
  pub means : value piece v

-- the part of a key
abbrev pub key_part : {T : Type 0} → Roles → (LinePiece → T → Type 0) → Gap T → Part T
key_part q value gap = record {
  roles = q;
  first = KeyFirst q value;
  absent = gap.absent;
  missing = gap.has ≡ false;
}

-- A choice: the entries of both, in line order.
pub record Leads (q r : Roles) (cs : Cells) : Type 0 where
  pub piece : LinePiece
  pub behind : List LinePiece
  pub first : pieces r cs ≡ piece ∷ behind
  pub own : is_own q piece ≡ true

pub data ChoiceFirst {T : Type 0} (a b : Part T) (cs : Cells) (v : T) (ds : Cells) : Type 0 where
  of_first : a.first cs v ds → Leads a.roles (either a.roles b.roles) cs → ChoiceFirst a b cs v ds
  of_second : b.first cs v ds → Leads b.roles (either a.roles b.roles) cs → ChoiceFirst a b cs v ds

pub data ChoiceAbsent {T : Type 0} (a b : Part T) (v : T) : Type 0 where
  absent_first : a.absent v → ChoiceAbsent a b v
  absent_second : ((x : T) → a.absent x → ⊥) → b.absent v → ChoiceAbsent a b v

-- one of two parts
abbrev pub part_choice : {T : Type 0} → Part T → Part T → Part T
part_choice a b = record {
  roles = either a.roles b.roles;
  first = ChoiceFirst a b;
  absent = ChoiceAbsent a b;
  missing = a.missing × b.missing;
}

-- a kept value: no item is its own
abbrev pub kept_part : {T : Type 0} → (T → Type 0) → Part T
kept_part given = record {
  roles = no_roles;
  first = λ cs v ds. ⊥;
  absent = given;
  missing = ⊥;
}

-- what is never there
abbrev pub never_part : {T : Type 0} → Part T
never_part = record {
  roles = no_roles;
  first = λ cs v ds. ⊥;
  absent = λ v. ⊥;
  missing = Unit {0};
}

-- the list of a repeat that has a value at least
abbrev pub part_some : {T : Type 0} → Part T → Part (Vec T)
part_some {T = T} part = part_wrapped (part_repeat part) (some_closure T).yes
    (λ v. (x : T) × part.absent x × (v.items ≡ x ∷ [])) part.missing

-- the last value of a repeat
abbrev pub part_last : {T : Type 0} → Part T → Part T
part_last {T = T} part = part_wrapped (part_repeat part) (IsLastOf T) part.absent part.missing

-- an argument's keys, each with the text behind it
abbrev pub texts_part : Roles → Part (Arg × Arg)
texts_part q = key_part q (λ o pair. o ≡ Two pair.0 pair.1)
    (record { has = false; absent = λ pair. ⊥ })

-- the text behind the last of some keys means the value
pub record LastMeans {T : Type 0} (means : List ℕ → T → Type 0) (pairs : List (Arg × Arg)) (v : T)
    : Type 0 where
  pub before : List (Arg × Arg)
  pub last : Arg × Arg
  pub is : pairs ≡ before ++ last ∷ []
  pub meant : means (item_text last.1) v

-- an argument of which the last value counts: all its keys with their texts make one entry
abbrev pub last_key_part : {T : Type 0} → (List ℕ → T → Type 0) → Roles → Gap T → Part T
last_key_part means q gap = part_wrapped (part_repeat (texts_part q)) (LastMeans means) gap.absent
    (gap.has ≡ false)

-- A parser may be a named part.
pub data PartForm (T : Type 0) : Type 1 where
  no_part : PartForm T
  some_part : Part T → PartForm T

-- it is one
abbrev pub is_part : {T : Type 0} → PartForm T → Bool
is_part no_part = false
is_part (some_part p) = true

-- what is made of a part
abbrev pub of_part : {A B : Type 0} → (Part A → Part B) → PartForm A → PartForm B
of_part f no_part = no_part
of_part f (some_part p) = some_part (f p)

-- what is made of two
abbrev pub of_parts : {A B C : Type 0} → (Part A → Part B → Part C) → PartForm A → PartForm B
    → PartForm C
of_parts f (some_part p) (some_part r) = some_part (f p r)
of_parts f _ _ = no_part

-- where a test holds
abbrev pub part_if : {T : Type 0} → Bool → PartForm T → PartForm T
part_if true p = p
part_if false p = no_part

-- the law of such with keys of these names
abbrev pub PartLawOf : {T : Type 0} → Variables → Outcome T → List Names → PartForm T → Type 0
PartLawOf variables outcome names no_part = Unit {0}
PartLawOf {T = T} variables outcome names (some_part p) =
    PartLaw variables T outcome p × Owns p.roles names

-- such an outcome keeps to it
pub record PartFormLaw {T : Type 0} (variables : Variables) (outcome : Outcome T)
    (names : List Names) (form : PartForm T) : Type 0 where
  pub by : PartLawOf variables outcome names form

-- whether a closure accepts depends on what is present alone
abbrev pub PartFormAgrees : {A B : Type 0} → Closure A B → PartForm A → Type 0
PartFormAgrees f no_part = Unit {0}
PartFormAgrees f (some_part p) = PartAgrees f p
