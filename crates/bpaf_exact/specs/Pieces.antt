-- How a flat record sees a line: places cut into pieces, which fields share out by their names.
use Rattle.std.specs.Prelude.{Bool, List, Option, Some, [], false, filter, if◌then◌else◌, true, ◌≡◌}
use Rattle.bpaf_base.specs.Items.{is_positional, value_text, is_among, is_text_among, is_key_of}
use Rattle.std.specs.{Prelude.None, Prelude.not, Prelude.◌∷◌, Prelude.◌&&◌, Option.is_some}
use Rattle.std.specs.List.{list_all, list_any}
use Rattle.bpaf_base.specs.{declared.arg.Arg.TheVariants.PosWord, declared.arg.Arg.Arg}
use Rattle.bpaf_base.specs.Items.{is_key}
use Rattle.bpaf_doc.specs.Names.{Names}

-- the places of a line, each with the item that is present there, if one is
abbrev pub Cells : Type 0
Cells = List (Option Arg)

-- what an item is to a field: nothing of its own, a piece by itself, or the key of a piece of two
pub data Role : Type 0 where
  Foreign Alone WithNext : Role

-- the items that are a field's own
abbrev pub Roles : Type 0
Roles = Arg → Role

-- an item by itself, or a key and its value
pub data LinePiece : Type 0 where
  One : Arg → LinePiece
  Two : Arg → Arg → LinePiece

-- a key may take it as its value
abbrev pub is_value : Arg → Bool
is_value item = is_some (value_text item)

-- an item stands behind `--`
abbrev pub stands_behind : Arg → Bool
stands_behind (PosWord text) = true
stands_behind _ = false

-- an item of the field's own
abbrev pub is_own_role : Role → Bool
is_own_role Foreign = false
is_own_role _ = true

-- a piece that begins with an item of the field's own
abbrev pub is_own : Roles → LinePiece → Bool
is_own r (One k) = is_own_role (r k)
is_own r (Two k w) = is_own_role (r k)

-- the pieces of a field's own
abbrev pub mine : Roles → List LinePiece → List LinePiece
mine r os = filter (is_own r) os

-- those of others
abbrev pub others : Roles → List LinePiece → List LinePiece
others r os = filter (λ o. not (is_own r o)) os

-- what an item is to two fields that share none
abbrev pub either_role : Role → Role → Role
either_role a b = if is_own_role a then a else b

-- the items of either
abbrev pub either : Roles → Roles → Roles
either q r k = if is_own_role (q k) then q k else r k

-- no item
abbrev pub no_roles : Roles
no_roles k = Foreign

-- the items that pass a test, each in this role
abbrev pub roles_of : (Arg → Bool) → Role → Roles
roles_of test role k = if test k then role else Foreign

-- all positional words
abbrev pub word_roles : Roles
word_roles = roles_of is_positional Alone

-- only keys are a named field's own
pub record IsNamed (r : Roles) : Type 0 where
  pub only_keys : (k : Arg) → is_key k ≡ false → r k ≡ Foreign

-- no item belongs to both
pub record Apart (q r : Roles) : Type 0 where
  pub left : (k : Arg) → is_own_role (q k) ≡ true → r k ≡ Foreign
  pub right : (k : Arg) → is_own_role (r k) ≡ true → q k ≡ Foreign

-- the line cut from front to back into pieces: the key of a flag; the key of an argument with the
-- next item, which is a Word or ArgWord; a Word or PosWord by itself; the marker is passed by
pub data Cut (r : Roles) : Cells → List LinePiece → Type 0 where
  at_end : Cut r [] []
  passed : {cs : Cells} {os : List LinePiece} → Cut r cs os → Cut r (None ∷ cs) os
  flag : {k : Arg} {cs : Cells} {os : List LinePiece} → r k ≡ Alone → Cut r cs os
      → Cut r (Some k ∷ cs) (One k ∷ os)
  argument : {k w : Arg} {cs : Cells} {os : List LinePiece} → r k ≡ WithNext → is_value w ≡ true
      → Cut r cs os → Cut r (Some k ∷ (Some w ∷ cs)) (Two k w ∷ os)
  word : {w : Arg} {cs : Cells} {os : List LinePiece} → is_positional w ≡ true → Cut r cs os
      → Cut r (Some w ∷ cs) (One w ∷ os)

-- what an own key makes with the place after it: a piece of two where a value is present there
abbrev pub with_next : Arg → Cells → LinePiece
with_next k [] = One k
with_next k (None ∷ cs) = One k
with_next k (Some w ∷ cs) = if is_value w then Two k w else One k

-- the pieces from an item on, where those behind it are known
abbrev pub begin_piece : Role → Arg → Cells → List LinePiece → List LinePiece
begin_piece Foreign k cs os = os
begin_piece Alone k cs os = One k ∷ os
begin_piece WithNext k cs os = with_next k cs ∷ os

-- a field's own keys or words that are present, in line order, each with its value if one is
abbrev pub pieces : Roles → Cells → List LinePiece
pieces r [] = []
pieces r (None ∷ cs) = pieces r cs
pieces r (Some k ∷ cs) = begin_piece (r k) k cs (pieces r cs)

-- the pieces that begin with an item of a field's own taken, wherever they stand: a key of a flag,
-- or one of an argument with the value in the next cell; and what is left
pub data Takes (q : Roles) : Cells → List LinePiece → Cells → Type 0 where
  no_cells : Takes q [] [] []
  empty_stays : {cs ds : Cells} {os : List LinePiece} → Takes q cs os ds
      → Takes q (None ∷ cs) os (None ∷ ds)
  other_stays : {k : Arg} {cs ds : Cells} {os : List LinePiece} → q k ≡ Foreign → Takes q cs os ds
      → Takes q (Some k ∷ cs) os (Some k ∷ ds)
  takes_flag : {k : Arg} {cs ds : Cells} {os : List LinePiece} → q k ≡ Alone → Takes q cs os ds
      → Takes q (Some k ∷ cs) (One k ∷ os) (None ∷ ds)
  takes_argument : {k w : Arg} {cs ds : Cells} {os : List LinePiece} → q k ≡ WithNext
      → is_some (value_text w) ≡ true → Takes q cs os ds
      → Takes q (Some k ∷ (Some w ∷ cs)) (Two k w ∷ os) (None ∷ (None ∷ ds))

-- one piece of a field's own taken
pub data TakesPiece (r : Roles) : Cells → LinePiece → Cells → Type 0 where
  takes_one : {k : Arg} {cs : Cells} → r k ≡ Alone → TakesPiece r (Some k ∷ cs) (One k) (None ∷ cs)
  takes_two : {k w : Arg} {cs : Cells} → r k ≡ WithNext → is_value w ≡ true
      → TakesPiece r (Some k ∷ (Some w ∷ cs)) (Two k w) (None ∷ (None ∷ cs))
  takes_later : {c : Option Arg} {cs ds : Cells} {o : LinePiece} → TakesPiece r cs o ds
      → TakesPiece r (c ∷ cs) o (c ∷ ds)

-- some pieces of a field's own taken, in any order
pub data TakesPieces (r : Roles) : Cells → Cells → Type 0 where
  takes_none : {cs : Cells} → TakesPieces r cs cs
  takes_more : {cs ds es : Cells} {o : LinePiece} → TakesPiece r cs o ds → TakesPieces r ds es
      → TakesPieces r cs es

-- an item is a key with one of the names of one of these keys
abbrev pub is_key_of_any : List Names → Arg → Bool
is_key_of_any keys item = list_any (λ names. is_key_of names item) keys

-- no short name and no long name stands in both
abbrev pub are_apart : Names → Names → Bool
are_apart own others =
    list_all (λ name. not (is_among others.shorts name)) own.shorts
    && list_all (λ name. not (is_text_among others.longs name)) own.longs

-- each key of the one list is apart from each of the other
abbrev pub are_all_apart : List Names → List Names → Bool
are_all_apart keys others = list_all (λ names. list_all (are_apart names) others) keys

-- each of a field's own items is a key with one of its names
pub record Owns (r : Roles) (keys : List Names) : Type 0 where
  pub own : (k : Arg) → is_own_role (r k) ≡ true → is_key_of_any keys k ≡ true
