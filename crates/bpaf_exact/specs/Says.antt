-- What values of a field, a record and a program say of a line's pieces; values that look alike.
use Rattle.std.specs.Prelude.{Option, filter, false, Bool, true, List, ◌++◌, Some, None, ◌≡◌, ◌∷◌}
use Rattle.std.specs.{Prelude.map, Prelude.not, Prelude.[], Prelude.ℕ}
use Rattle.bpaf_base.specs.{declared.arg.Arg.Arg, Items.item_text}
use Rattle.bpaf_doc.specs.Names.{Names}
use Rattle.bpaf_exact.specs.Pieces.{stands_behind, is_key_of_any, LinePiece, is_own, others, Roles}
use Rattle.bpaf_exact.specs.Pieces.{Cells, mine, Owns, One, Two, Cut}
use Rattle.bpaf_exact.specs.Flat.{FieldKind, repeated, IsLastOf, Closure, ByName, Groups, front}
use Rattle.bpaf_exact.specs.Flat.{back, Own}
use Rattle.bpaf_exact.specs.ProgramForm.{before_commands, ProgramForm, alternative, no_program}
use Rattle.bpaf_exact.specs.ProgramForm.{CellsValue, FieldThen, complete, commands, product, single}
use Rattle.bpaf_exact.specs.ProgramForm.{part, after_parts, product_roles, last_choice}
use Rattle.bpaf_exact.specs.ProgramForm.{PartOrCommands}
use Rattle.bpaf_exact.specs.Parts.{Part, PartForm, PartAlone, Turn, some_part, no_part}

-- The pieces of a field's own.

-- the item with which a piece begins
abbrev pub first_item : LinePiece → Arg
first_item (One k) = k
first_item (Two k w) = k

-- the pieces that begin with a key with one of these names, in line order
abbrev pub keyed : List Names → List LinePiece → List LinePiece
keyed names os = filter (λ o. is_key_of_any names (first_item o)) os

-- the pieces that begin with none
abbrev pub unkeyed : List Names → List LinePiece → List LinePiece
unkeyed names os = filter (λ o. not (is_key_of_any names (first_item o))) os

-- of which pieces a field says something: those of a kind; or those of a last product with words
pub data SaidKind : Type 0 where
  of_kind : FieldKind → SaidKind
  of_rest : SaidKind

-- that of a product
abbrev pub product_kind : (named : Bool) → SaidKind
product_kind true = of_kind ByName
product_kind false = of_rest

-- that of what is a product or a field by itself
abbrev pub form_kind : {T : Type 0} → ProgramForm T → SaidKind
form_kind (product wide named r fields) = product_kind named
form_kind s = of_kind ByName

-- that of a repeat
abbrev pub repeated_kind : SaidKind → SaidKind
repeated_kind (of_kind k) = of_kind (repeated k)
repeated_kind of_rest = of_rest

-- a field's own of the pieces of a line, and of the words that the fields before it leave
abbrev pub its_pieces : SaidKind → List Names → List LinePiece → List LinePiece → List LinePiece
its_pieces (of_kind ByName) names os words = keyed names os
its_pieces (of_kind k) names os words = front k words
its_pieces of_rest names os words = keyed names os ++ words

-- the words that it leaves to the fields behind it
abbrev pub words_after : SaidKind → List LinePiece → List LinePiece
words_after (of_kind ByName) words = words
words_after (of_kind k) words = back k words
words_after of_rest words = []

-- What values say.

-- what a value says of pieces
abbrev pub Said : Type 0 → Type 1
Said T = List LinePiece → T → Type 0

-- a flag: one key and the present value; or none and the present or absent one, by its variable
pub data FlagSays {T : Type 0} (clones : T → T → Type 0) (present : T) (absent : Option T)
    (set : Option (List ℕ)) (os : List LinePiece) (v : T) : Type 0 where
  says_present : (k : Arg) → os ≡ One k ∷ [] → clones present v
      → FlagSays clones present absent set os v
  says_variable : (text : List ℕ) → os ≡ [] → set ≡ Some text → clones present v
      → FlagSays clones present absent set os v
  says_absent : (a : T) → os ≡ [] → set ≡ None → absent ≡ Some a → clones a v
      → FlagSays clones present absent set os v

-- an argument: what the text behind its one key means; or, where the last value counts, what the
-- text behind the last of its keys means, each of which has one; or no key, and what the text of
-- its variable means
pub data ArgumentSays {T : Type 0} (means : List ℕ → T → Type 0) (last : Bool)
    (set : Option (List ℕ)) (os : List LinePiece) (v : T) : Type 0 where
  says_text : (k w : Arg) → os ≡ Two k w ∷ [] → means (item_text w) v
      → ArgumentSays means last set os v
  says_last_text : (before : List (Arg × Arg)) (k w : Arg) → last ≡ true
      → os ≡ map (λ pair. Two pair.0 pair.1) before ++ Two k w ∷ [] → means (item_text w) v
      → ArgumentSays means last set os v
  says_variable_text : (text : List ℕ) → os ≡ [] → set ≡ Some text → means text v
      → ArgumentSays means last set os v

-- a positional word on a side of `--` that is accepted: what its text means
pub record WordSays {T : Type 0} (accepts : Bool → Bool) (means : List ℕ → T → Type 0)
    (os : List LinePiece) (v : T) : Type 0 where
  pub word : Arg
  pub is : os ≡ One word ∷ []
  pub side : accepts (stands_behind word) ≡ true
  pub meant : means (item_text word) v

-- a choice: what one of its branches says
pub data EitherSays {T : Type 0} (this that : Said T) (os : List LinePiece) (v : T) : Type 0 where
  says_this : this os v → EitherSays this that os v
  says_that : that os v → EitherSays this that os v

-- with a closure round it: what a value says from which the closure makes this one
pub record MadeSays {A B : Type 0} (said : Said A) (f : Closure A B) (os : List LinePiece)
    (v : B) : Type 0 where
  pub from : A
  pub told : said os from
  pub made : f.yes from v

-- under `optional`: Some of what its value says, or None and no piece
pub data OptionalSays {T : Type 0} (said : Said T) (os : List LinePiece) (v : Option T) : Type 0
  where
    says_some : (x : T) → v ≡ Some x → said os x → OptionalSays said os v
    says_none : v ≡ None → os ≡ [] → OptionalSays said os v

-- under a fallback: what its value says, or no piece and what stands in its place
pub data FallbackSays {T : Type 0} (said : Said T) (kept : T → Type 0) (os : List LinePiece)
    (v : T) : Type 0 where
  says_own : said os v → FallbackSays said kept os v
  says_kept : os ≡ [] → kept v → FallbackSays said kept os v

-- the first pieces, at least one, have the value
pub record FrontSays {T : Type 0} (said : Said T) (os : List LinePiece) (v : T)
    (rest : List LinePiece) : Type 0 where
  pub part : List LinePiece
  pub is : os ≡ part ++ rest
  pub some : part ≡ [] → ⊥
  pub told : said part v

-- the values of a repeat, in line order; or, where no piece is there, the one that stands for that
pub data RepeatSays {T : Type 0} (said : Said T) (os : List LinePiece) (vs : List T) : Type 0 where
  says_in_turn : Own T (FrontSays said) os vs → RepeatSays said os vs
  says_alone : (a : T) → os ≡ [] → vs ≡ a ∷ [] → said [] a → RepeatSays said os vs

-- the last value of a repeat
pub record LastSays {T : Type 0} (said : Said T) (os : List LinePiece) (v : T) : Type 0 where
  pub values : List T
  pub told : RepeatSays said os values
  pub is : IsLastOf T values v

-- what the values of fields say of the pieces of a line, and of the words that are left to them
abbrev pub FieldsSaid : Type 0 → Type 1
FieldsSaid V = List LinePiece → List LinePiece → V → Type 0

-- a record: what the values of its fields say from which its constructor makes it; the words are
-- the pieces that begin with none of its keys
pub record RecordSays {V T : Type 0} (said : FieldsSaid V) (names : List Names) (f : Closure V T)
    (os : List LinePiece) (v : T) : Type 0 where
  pub from : V
  pub fields : said os (unkeyed names os) from
  pub made : f.yes from v

-- That a value says so.

-- each piece is a field's own
abbrev pub EachOwn : Roles → List LinePiece → Type 0
EachOwn q [] = Unit {0}
EachOwn q (o ∷ os) = (is_own q o ≡ true) × EachOwn q os

-- each piece is a named field's own
abbrev pub AllOwn : FieldKind → Roles → List LinePiece → Type 0
AllOwn ByName q os = EachOwn q os
AllOwn k q os = Unit {0}

-- the own ones of these pieces are those that begin with a key with one of the names
abbrev pub OwnBy : List Names → Roles → List LinePiece → Type 0
OwnBy names r [] = Unit {0}
OwnBy names r (o ∷ os) = (is_own r o ≡ is_key_of_any names (first_item o)) × OwnBy names r os

-- What the values of a program with commands say: each named field of its own pieces, and the rest
-- of what is left without these.

-- the cells are cut into pieces, by these roles, of which a value says so
pub record CutSays {T : Type 0} (roles : Roles) (said : Said T) (cs : Cells) (v : T) : Type 0
  where
    pub cut_into : List LinePiece
    pub cut : Cut roles cs cut_into
    pub told : said cut_into v

-- what a value says of the cells of its scope: what it says of them, where it ends in commands; or
-- of the pieces that they are cut into by these roles
abbrev pub scope_said : {T : Type 0} → (in_cells : Bool) → Roles → Said T → CellsValue T
    → CellsValue T
scope_said true roles said cells = cells
scope_said false roles said cells = CutSays roles said

-- what it says by the form of the whole program: with named parts what its value is
abbrev pub scope_told : {T : Type 0} → ProgramForm T → (in_cells : Bool) → Said T → CellsValue T
    → CellsValue T
scope_told (part p) in_cells said cells = PartAlone p
scope_told (after_parts value) in_cells said cells = value
scope_told s in_cells said cells = scope_said in_cells (product_roles s) said cells

-- a named field before others: it says so of its own pieces, and they do of what is left
pub record FieldThenSays {A B : Type 0} (names : List Names) (said : Said A) (rest : CellsValue B)
    (cs : Cells) (v : A × B) : Type 0 where
  pub roles : Roles
  pub owns : Owns roles names
  pub told : FieldThen A B roles said rest cs v

-- what a last field says, as fields do: of all pieces and of the words that are left
abbrev pub AloneSays : {T : Type 0} → SaidKind → List Names → Said T → FieldsSaid T
AloneSays kind names said os words v = said (its_pieces kind names os words) v

-- what a field before others says, and these of the words that it leaves
abbrev pub BothSay : {A B : Type 0} → SaidKind → List Names → Said A → FieldsSaid B
    → FieldsSaid (A × B)
BothSay kind names said more os words v =
    said (its_pieces kind names os words) v.0 × more os (words_after kind words) v.1

-- That a value says so.

-- each value says so
abbrev pub IsSaid : {T : Type 0} → CellsValue T → CellsValue T → Type 0
IsSaid {T = T} value said = (cs : Cells) (v : T) → value cs v → said cs v

-- a value of this form, of a parser with these keys, says so of the pieces that it is read off; one
-- of commands does of the cells
abbrev pub FormSays : {T : Type 0} → List Names → ProgramForm T → SaidKind → (in_cells : Bool)
    → Said T → CellsValue T → Type 0
FormSays names no_program kind in_cells said cells = Unit {0}
FormSays {T = T} names (alternative wide q value) kind in_cells said cells =
    (in_cells ≡ false) × (kind ≡ of_kind ByName)
    × ((o : LinePiece) (v : T) → value o v → said (o ∷ []) v)
FormSays {T = T} names (single wide k q group gap) kind in_cells said cells =
    (in_cells ≡ false) × (kind ≡ of_kind k)
    × ((os rest : List LinePiece) (v : T) → group os v rest → FrontSays said os v rest)
    × ((v : T) → gap.absent v → said [] v)
FormSays {T = T} names (complete wide k q value) kind in_cells said cells =
    (in_cells ≡ false) × (kind ≡ of_kind k)
    × ((os : List LinePiece) (v : T) → AllOwn k q os → value os v → said os v)
FormSays {T = T} names (product wide named r fields) kind in_cells said cells =
    (in_cells ≡ false) × (kind ≡ product_kind named)
    × ((whole os : List LinePiece) (v : T) → OwnBy names r whole → OwnBy names r os
    → fields.value os v → mine r whole ≡ mine r os → others r whole ≡ others r os → said whole v)
FormSays names (commands optional value) kind in_cells said cells =
    (in_cells ≡ true) × IsSaid value cells
FormSays names (before_commands value) kind in_cells said cells =
    (in_cells ≡ true) × IsSaid value cells
FormSays names (part p) kind in_cells said cells = Unit {0}
FormSays names (last_choice p own value) kind in_cells said cells = Unit {0}
FormSays names (after_parts value) kind in_cells said cells = Unit {0}

-- a value of such a parser does
pub record Says {T : Type 0} (names : List Names) (form : ProgramForm T) (kind : SaidKind)
    (in_cells : Bool) (said : Said T) (cells : CellsValue T) : Type 0 where
  pub by : FormSays names form kind in_cells said cells

-- values of such fields say so of all pieces of a line, of which those that they are read off are
-- all that begin with their keys; or of the cells
abbrev pub FieldsFormSays : {V : Type 0} → List Names → ProgramForm V → (in_cells : Bool)
    → FieldsSaid V → CellsValue V → Type 0
FieldsFormSays {V = V} names (product wide named r fields) in_cells said cells =
    (in_cells ≡ false) × ((whole os : List LinePiece) (v : V) → OwnBy names r whole
    → OwnBy names r os → fields.value os v → mine r whole ≡ mine r os → said whole (others r os) v)
FieldsFormSays names (before_commands value) in_cells said cells =
    (in_cells ≡ true) × IsSaid value cells
FieldsFormSays names no_program in_cells said cells = Unit {0}
FieldsFormSays names (part p) in_cells said cells = Unit {0}
FieldsFormSays names (after_parts value) in_cells said cells = Unit {0}
FieldsFormSays names _ in_cells said cells = ⊥

-- the values of fields do
pub record FieldsSay {V : Type 0} (names : List Names) (form : ProgramForm V) (in_cells : Bool)
    (said : FieldsSaid V) (cells : CellsValue V) : Type 0 where
  pub by : FieldsFormSays names form in_cells said cells

-- all these values look alike
abbrev pub Alike : {T X : Type 0} → (T → X) → (T → Type 0) → Type 0
Alike {T = T} see value = (v w : T) → value v → value w → see v ≡ see w

-- all values of the same group of pieces look alike, and the same pieces are left
abbrev pub OneGroup : {T X : Type 0} → (T → X) → Groups T → Type 0
OneGroup {T = T} see group = (os rest others : List LinePiece) (v w : T) → group os v rest
    → group os w others → (see v ≡ see w) × (rest ≡ others)

-- all values of a turn of a part on the same cells look alike, and the same is left
abbrev pub PartOneView : {T X : Type 0} → (T → X) → Part T → Type 0
PartOneView {T = T} see p = (cs ds es : Cells) (v w : T) → Turn p cs v ds → Turn p cs w es
    → (see v ≡ see w) × (ds ≡ es)

-- the values of the same pieces look alike, and those of commands on the same cells
abbrev pub HasOneView : {T X : Type 0} → (T → X) → ProgramForm T → Type 0
HasOneView see no_program = Unit {0}
HasOneView see (alternative wide q value) = (o : LinePiece) → Alike see (value o)
HasOneView see (single wide k q group gap) = OneGroup see group × Alike see gap.absent
HasOneView see (complete wide k q value) = (os : List LinePiece) → Alike see (value os)
HasOneView see (product wide named q fields) = (os : List LinePiece) → Alike see (fields.value os)
HasOneView see (commands optional value) = (cs : Cells) → Alike see (value cs)
HasOneView see (before_commands value) = (cs : Cells) → Alike see (value cs)
HasOneView see (part p) = PartOneView see p
HasOneView {T = T} see (last_choice p own value) = PartOneView see p
    × ((cs : Cells) → Alike see (value cs))
    × ((cs : Cells) → Alike see (PartOrCommands p own value cs))
HasOneView see (after_parts value) = (cs : Cells) → Alike see (value cs)

-- what may be a part has values that look alike
abbrev pub PartFormOneView : {T X : Type 0} → (T → X) → PartForm T → Type 0
PartFormOneView see no_part = Unit {0}
PartFormOneView see (some_part p) = PartOneView see p

-- A closure that can't tell apart what looks alike: it accepts both or none, with answers alike.
pub record Respects (A B X Y : Type 0) (see : A → X) (look : B → Y) (f : Closure A B) : Type 0 where
  pub same : (x y : A) (v w : B) → see x ≡ see y → f.yes x v → f.yes y w → look v ≡ look w
  pub apart : (x y : A) (v : B) → see x ≡ see y → f.yes x v → f.no y → ⊥

-- that of two fields
abbrev pub pair_view : {A B X Y : Type 0} → (A → X) → (B → Y) → A × B → X × Y
pair_view see look v = (see v.0, look v.1)
