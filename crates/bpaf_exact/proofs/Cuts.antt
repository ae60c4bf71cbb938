-- What taking pieces does to the other pieces and to the cut; that at most one cut exists, and a
-- value is read off one; cuts of words alone; the first piece, of two fields together too; and that
-- a cut line holds together.
use Rattle.std.proofs.Common.{if◌then◌else◌, Option, ⊎_elim, arith, false, List, None, Some}
use Rattle.std.proofs.Common.{refl, true, ◌++◌, inl, inr, not, sym, ◌∙◌, ◌∷◌, ◌≡◌, ◌⊎◌, [], ap}
use Rattle.std.proofs.lemmas.List.Elements.{filter-append, All-cons, All-nil}
use Rattle.std.proofs.{lemmas.Bool.false_from_ne_true, lemmas.List.append_assoc, Common.ℕ}
use Rattle.std.specs.List.{AllPass}
use Rattle.bpaf_base.specs.{declared.arg.Arg.TheVariants.ArgWord, declared.arg.Arg.Arg}
use Rattle.bpaf_base.specs.Items.{is_positional, is_key}
use Rattle.bpaf_exact.specs.Flat.{NonePresent, first_later, TakesFirst, none_here, first_one}
use Rattle.bpaf_exact.specs.Pieces.{takes_argument, TakesPieces, begin_piece, either_role, WithNext}
use Rattle.bpaf_exact.specs.Pieces.{takes_none, TakesPiece, takes_flag, LinePiece, takes_one, Alone}
use Rattle.bpaf_exact.specs.Pieces.{IsNamed, at_end, either, is_own, others, passed, pieces}
use Rattle.bpaf_exact.specs.Pieces.{empty_stays, is_own_role, other_stays, takes_later, takes_more}
use Rattle.bpaf_exact.specs.Pieces.{Apart, Cells, Roles, Takes, Role, flag, mine, word, Cut, One}
use Rattle.bpaf_exact.specs.Pieces.{takes_two, with_next, argument, is_value, no_cells, Foreign}
use Rattle.bpaf_exact.specs.ProgramForm.{HoldsTogether, is_word_alone, HasItsValue, EndsInKey}
use Rattle.bpaf_exact.specs.{Flat.first_two, Flat.no_place, Flat.IsWords, Pieces.Two}

-- a value is no key
pub value_not_key : (w : Arg) → is_value w ≡ true → is_key w ≡ false
value_not_key x h = grind arith

-- a word is no key
pub word_not_key : (w : Arg) → is_positional w ≡ true → is_key w ≡ false
word_not_key x h = grind arith

-- a value belongs to no named field
pub value_foreign : {q : Roles} {w : Arg} → IsNamed q → is_value w ≡ true → q w ≡ Foreign
value_foreign {w} n h = n.only_keys w (value_not_key w h)

-- a word belongs to no named field
pub word_foreign : {q : Roles} {w : Arg} → IsNamed q → is_positional w ≡ true → q w ≡ Foreign
word_foreign {w} n h = n.only_keys w (word_not_key w h)

-- an item begins a piece by its role
pub begin_at : {x y : Role} (k : Arg) (cs : Cells) (os : List LinePiece) → x ≡ y
    → begin_piece x k cs os ≡ begin_piece y k cs os
begin_at k cs os e = ap (λ z. begin_piece z k cs os) e

-- where no piece begins there is none behind
pub nil_rest : (x : Role) (k : Arg) (cs : Cells) {os : List LinePiece} → begin_piece x k cs os ≡ []
    → os ≡ []
nil_rest x k cs e = grind arith

-- where no piece begins the item isn't the field's own
pub nil_foreign : (x : Role) (k : Arg) (cs : Cells) (os : List LinePiece)
    → begin_piece x k cs os ≡ [] → x ≡ Foreign
nil_foreign x k cs os e = grind arith

-- taking a piece leaves what a key before it has next to it
pub same_next : {q : Roles} (k : Arg) {cs ds : Cells} {o : LinePiece} → IsNamed q
    → TakesPiece q cs o ds → with_next k ds ≡ with_next k cs
same_next k n x = grind arith

-- What one takes of its own leaves the pieces of another as they are.
pub keeps_other : {q r : Roles} {cs ds : Cells} {o : LinePiece} → IsNamed q → IsNamed r → Apart q r
    → TakesPiece q cs o ds → pieces r ds ≡ pieces r cs
keeps_other {r} nq nr a (takes_one {k} {cs} e) = grind (arith, begin_at)
keeps_other {r} nq nr a (takes_two {k} {w} {cs} e v) = grind (arith, begin_at, value_foreign)
keeps_other nq nr a (takes_later {c = None} t) = keeps_other nq nr a t
keeps_other {r} nq nr a (takes_later {c = Some k} {cs} {ds} t) =
    grind (arith, same_next k nq t, keeps_other nq nr a t)

-- Some pieces that one takes of its own leave those of another as they are.
pub keeps_other_some : {q r : Roles} {cs ds : Cells} → IsNamed q → IsNamed r → Apart q r
    → TakesPieces q cs ds → pieces r ds ≡ pieces r cs
keeps_other_some nq nr a takes_none = refl
keeps_other_some nq nr a (takes_more t more) = keeps_other_some nq nr a more ∙ keeps_other nq nr a t

-- The pieces of a field's own are those of the cut that begin with one of its keys.

-- an item that isn't the one's has the role that it has to the other
pub either_right : (x : Role) {y : Role} → x ≡ Foreign → either_role x y ≡ y
either_right x e = grind arith

-- an item of the one is of the same role to both
pub either_own : (x y z : Role) → x ≡ z → is_own_role z ≡ true → either_role x y ≡ z
either_own x y z e h = grind arith

-- an item begins a piece where it is the field's own
own_begin : (x : Role) (k : Arg) (cs : Cells) (o : LinePiece) {os ps : List LinePiece}
    → (is_own_role x ≡ true → begin_piece x k cs os ≡ o ∷ os) → os ≡ ps
    → begin_piece x k cs os ≡ (if is_own_role x then (o ∷ ps) else ps)
own_begin x k cs o f h = grind arith

-- the pieces of a field's own are those of the cut that begin with its keys
pub pieces_of_cut : {q : Roles} (r : Roles) {cs : Cells} {os : List LinePiece} → IsNamed q
    → Cut (either q r) cs os → pieces q cs ≡ mine q os
pieces_of_cut r n at_end = refl
pieces_of_cut r n (passed c) = pieces_of_cut r n c
pieces_of_cut {q} r n (flag {k} {cs} e c) =
    grind (arith, begin_at, either_own, own_begin, pieces_of_cut r n c)
pieces_of_cut {q} r n (argument {k} {w} {cs} e v c) =
    grind (arith, begin_at, either_own, own_begin, value_foreign, pieces_of_cut r n c)
pieces_of_cut {q} r n (word {w} {cs} h c) = own_begin (q w) w cs (One w)
    (λ own. let f = ap is_own_role (word_foreign n h) in absurd cc) (pieces_of_cut r n c)

-- The other way: a piece given back to its place.

-- a piece of the field's own isn't one of others
pub others_own : (q : Roles) (o : LinePiece) (os : List LinePiece) → is_own q o ≡ true
    → others q (o ∷ os) ≡ others q os
others_own q o os h = ap (λ b. if not b then (o ∷ others q os) else others q os) h

-- a piece of others is
pub others_foreign : (q : Roles) {o : LinePiece} (os : List LinePiece) → is_own q o ≡ false
    → others q (o ∷ os) ≡ o ∷ others q os
others_foreign q {o} os h = ap (λ b. if not b then (o ∷ others q os) else others q os) h

-- some pieces, and some more
pub some_trans : {q : Roles} {cs ds es : Cells} → TakesPieces q cs ds → TakesPieces q ds es
    → TakesPieces q cs es
some_trans takes_none b = b
some_trans (takes_more t more) b = takes_more t (some_trans more b)

-- a cut with the same pieces of others
pub record CutAlike (q r : Roles) (cs : Cells) (os : List LinePiece) : Type 0 where
  pub now : List LinePiece
  pub cut : Cut r cs now
  pub alike : others q now ≡ others q os

-- with one piece more in front
cut_more : {q r : Roles} {o : LinePiece} {cs ds : Cells} {os : List LinePiece} → CutAlike q r cs os
    → ((ps : List LinePiece) → Cut r cs ps → Cut r ds (o ∷ ps)) → CutAlike q r ds (o ∷ os)
cut_more i on = grind arith

-- a field's own pieces are ones of a cut by these keys: keys, or words
pub record CutsOff (q r : Roles) : Type 0 where
  pub alone : (k : Arg) → q k ≡ Alone → (r k ≡ Alone) ⊎ ((is_positional k ≡ true) × (r k ≡ Foreign))
  pub pair : (k : Arg) → q k ≡ WithNext → (r k ≡ WithNext) × (is_positional k ≡ false)
  pub value : (k w : Arg) → r k ≡ WithNext → is_value w ≡ true → q w ≡ Foreign

-- a named field's own pieces are ones of a cut by its keys and others
pub named_cuts : {q : Roles} (r : Roles) → IsNamed q → CutsOff q (either q r)
named_cuts r n = grind (arith, either_own, false_from_ne_true, word_foreign, value_foreign)

-- a piece given back to its place is cut off there again
pub put_back : {q r : Roles} {cs ds : Cells} {o : LinePiece} {os : List LinePiece} → CutsOff q r
    → TakesPiece q cs o ds → Cut r ds os → CutAlike q r cs os
put_back {q} f (takes_one {k} e) (passed {os} c) = record {
  now = One k ∷ os;
  cut = ⊎_elim (λ key. flag key c) (λ there. word there.0 c) (f.alone k e);
  alike = others_own q (One k) os (ap is_own_role e);
}
put_back {q} f (takes_two {k} {w} e v) (passed (passed {os} c)) = record {
  now = Two k w ∷ os;
  cut = argument (f.pair k e).0 v c;
  alike = others_own q (Two k w) os (ap is_own_role e);
}
put_back f (takes_later {c = None} t) (passed c) = let i = put_back f t c in
    record { now = i.now; cut = passed i.cut; alike = i.alike }
put_back f (takes_later {c = Some k} t) (flag e c) = cut_more (put_back f t c) (λ ps. flag e)
put_back f (takes_later {c = Some k} (takes_later {c = Some w} t)) (argument e v c) =
    cut_more (put_back f t c) (λ ps. argument e v)
put_back f (takes_later {c = Some k} t) (word h c) = cut_more (put_back f t c) (λ ps. word h)

-- some pieces given back to their places are cut off there again
pub put_back_some : {q r : Roles} {cs ds : Cells} {os : List LinePiece} → CutsOff q r
    → TakesPieces q cs ds → Cut r ds os → CutAlike q r cs os
put_back_some {os} f takes_none c = record { now = os; cut = c; alike = refl }
put_back_some f (takes_more t more) c =
    let i = put_back_some f more c in
    let j = put_back f t i.cut in
    record { now = j.now; cut = j.cut; alike = j.alike ∙ i.alike }

-- what is left of a cut when a piece is taken
pub take_from : {q r : Roles} {cs ds : Cells} {o : LinePiece} {os : List LinePiece} → CutsOff q r
    → TakesPiece q cs o ds → Cut r cs os → CutAlike q r ds os
take_from {q} f (takes_one {k} e) (flag {os} g c) =
    record { now = os; cut = passed c; alike = sym (others_own q (One k) os (ap is_own_role e)) }
take_from f (takes_one {k} e) (argument g v c) =
    absurd (⊎_elim (λ key. cc) (λ there. let h = there.1 in cc) (f.alone k e))
take_from {q} f (takes_one {k} e) (word {os} h c) =
    record { now = os; cut = passed c; alike = sym (others_own q (One k) os (ap is_own_role e)) }
take_from f (takes_two {k} e v) (flag g c) = let h = (f.pair k e).0 in absurd cc
take_from {q} f (takes_two {k} {w} e v) (argument {os} g u c) = record {
  now = os;
  cut = passed (passed c);
  alike = sym (others_own q (Two k w) os (ap is_own_role e));
}
take_from f (takes_two {k} e v) (word h c) = let g = (f.pair k e).1 in absurd cc
take_from f (takes_later {c = None} t) (passed c) = let i = take_from f t c in
    record { now = i.now; cut = passed i.cut; alike = i.alike }
take_from f (takes_later {c = Some k} t) (flag e c) = cut_more (take_from f t c) (λ ps. flag e)
take_from f (takes_later {c = Some k} (takes_later {c = Some w} t)) (argument e v c) =
    cut_more (take_from f t c) (λ ps. argument e v)
take_from f (takes_later {c = Some k} (takes_one {k = w} e')) (argument e v c) =
    let g = f.value k w e v in absurd cc
take_from f (takes_later {c = Some k} (takes_two {k = w} e' v')) (argument e v c) =
    let g = f.value k w e v in absurd cc
take_from f (takes_later {c = Some k} t) (word h c) = cut_more (take_from f t c) (λ ps. word h)

-- when some pieces are
pub take_some_from : {q r : Roles} {cs ds : Cells} {os : List LinePiece} → CutsOff q r
    → TakesPieces q cs ds → Cut r cs os → CutAlike q r ds os
take_some_from {os} f takes_none c = record { now = os; cut = c; alike = refl }
take_some_from f (takes_more t more) c =
    let j = take_from f t c in
    let i = take_some_from f more j.cut in
    record { now = i.now; cut = i.cut; alike = i.alike ∙ j.alike }

-- the pieces taken and what is left are told by the cells
pub one_take : {q : Roles} {cs ds es : Cells} {os ps : List LinePiece} → Takes q cs os ds
    → Takes q cs ps es → (os ≡ ps) × (ds ≡ es)
one_take no_cells no_cells = (refl, refl)
one_take (empty_stays t) (empty_stays u) = let i = one_take t u in (i.0, ap (λ z. None ∷ z) i.1)
one_take (other_stays {k} e t) (other_stays f u) = grind (arith, one_take t u)
one_take (takes_flag {k} e t) (takes_flag f u) = grind (arith, one_take t u)
one_take (takes_argument {k} {w} e v t) (takes_argument f y u) = grind (arith, one_take t u)
one_take (other_stays e t) (takes_flag f u) = absurd cc
one_take (other_stays e t) (takes_argument f y u) = absurd cc
one_take (takes_flag e t) (other_stays f u) = absurd cc
one_take (takes_flag e t) (takes_argument f y u) = absurd cc
one_take (takes_argument e v t) (other_stays f u) = absurd cc
one_take (takes_argument e v t) (takes_flag f u) = absurd cc

-- two cuts of the same cells are one
pub one_cut : {r : Roles} {cs : Cells} {os ps : List LinePiece} → IsNamed r → Cut r cs os
    → Cut r cs ps → os ≡ ps
one_cut n at_end at_end = refl
one_cut n (passed c) (passed d) = one_cut n c d
one_cut n (flag {k} e c) (flag f d) = ap (λ z. One k ∷ z) (one_cut n c d)
one_cut n (flag {k} e c) (word h d) = ap (λ z. One k ∷ z) (one_cut n c d)
one_cut n (word {w} h c) (flag e d) = ap (λ z. One w ∷ z) (one_cut n c d)
one_cut n (word {w} h c) (word i d) = ap (λ z. One w ∷ z) (one_cut n c d)
one_cut n (argument {k} {w} e v c) (argument f u d) = ap (λ z. Two k w ∷ z) (one_cut n c d)
one_cut n (flag e c) (argument f u d) = absurd cc
one_cut n (argument e v c) (flag f d) = absurd cc
one_cut n (argument e v c) (word h d) = let f = word_foreign n h in absurd cc
one_cut n (word h c) (argument e v d) = let f = word_foreign n h in absurd cc

-- no item is a key
abbrev pub NoKeys : Roles → Type 0
NoKeys r = (k : Arg) → r k ≡ Foreign

-- an item of a positional field is a word
word_of : {q : Roles} (k : Arg) → IsWords q → q k ≡ Alone → is_positional k ≡ true
word_of k n e = grind arith

-- an item of a positional field is a piece by itself
pub never_two : {q : Roles} {k : Arg} → IsWords q → q k ≡ WithNext → ⊥
never_two n e = grind arith

-- its pieces are ones of a cut by no keys
pub words_cut : {q r : Roles} → IsWords q → NoKeys r → CutsOff q r
words_cut n f = grind (arith, word_of, never_two)

-- Where no key is cut off, the pieces are the words that are present.
pub words_of_cut : {q r : Roles} {cs : Cells} {os : List LinePiece} → IsWords q → NoKeys r
    → Cut r cs os → pieces q cs ≡ os
words_of_cut n f at_end = refl
words_of_cut n f (passed c) = words_of_cut n f c
words_of_cut n f (flag {k} e c) = let g = f k in cc
words_of_cut n f (argument {k} e v c) = let g = f k in cc
words_of_cut {q} n f (word {w} {cs} h c) = grind (arith, begin_at, words_of_cut n f c)

-- Where nothing is present the cut is empty, and only there.
pub empty_cut : {r : Roles} {cs : Cells} → NonePresent cs → Cut r cs []
empty_cut no_place = at_end
empty_cut (none_here n) = passed (empty_cut n)

-- an empty cut leaves nothing present
pub cut_empty : {r : Roles} {cs : Cells} {os : List LinePiece} → Cut r cs os → os ≡ []
    → NonePresent cs
cut_empty at_end e = no_place
cut_empty (passed c) e = none_here (cut_empty c e)
cut_empty _ e = absurd cc

-- taking the first piece is taking one
pub first_takes : {q : Roles} {cs ds : Cells} {o : LinePiece} → TakesFirst q cs o ds
    → TakesPiece q cs o ds
first_takes (first_one e) = takes_one e
first_takes (first_two e v) = takes_two e v
first_takes (first_later n t) = takes_later (first_takes t)

-- a key and its value are one piece
pub pair_pieces : {q : Roles} {k w : Arg} (cs : Cells) → IsNamed q → q k ≡ WithNext
    → is_value w ≡ true → pieces q (Some k ∷ (Some w ∷ cs)) ≡ Two k w ∷ pieces q cs
pair_pieces cs n e v = grind (arith, begin_at, value_foreign)

-- The first piece heads the list.
pub first_pieces : (q : Roles) {cs ds : Cells} {o : LinePiece} → IsNamed q → TakesFirst q cs o ds
    → pieces q cs ≡ o ∷ pieces q ds
first_pieces q n (first_one {k} {cs} e) = begin_at k cs (pieces q cs) e
first_pieces q n (first_two {cs} e v) = pair_pieces cs n e v
first_pieces q n (first_later {c = None} h t) = first_pieces q n t
first_pieces q n (first_later {c = Some k} {cs} {ds} h t) =
    let a = begin_at k cs (pieces q cs) h in
    let b = begin_at k ds (pieces q ds) h in
    let i = first_pieces q n t in
    cc

-- what was taken was there
pub takes_nonempty : {q : Roles} {cs ds : Cells} {o : LinePiece} → TakesPiece q cs o ds
    → pieces q cs ≡ [] → ⊥
takes_nonempty {q} (takes_one {k} {cs} e) h = let f = nil_foreign (q k) k cs (pieces q cs) h in cc
takes_nonempty {q} (takes_two {k} {w} {cs} e v) h =
    let f = nil_foreign (q k) k (Some w ∷ cs) (pieces q (Some w ∷ cs)) h in cc
takes_nonempty (takes_later {c = None} t) h = takes_nonempty t h
takes_nonempty {q} (takes_later {c = Some k} {cs} t) h = takes_nonempty t (nil_rest (q k) k cs h)

-- the items of two fields together
pub record Union (qa qb r : Roles) : Type 0 where
  pub apart : Apart qa qb
  pub named_left : IsNamed qa
  pub named_right : IsNamed qb
  pub left : (k : Arg) → is_own_role (qa k) ≡ true → r k ≡ qa k
  pub right : (k : Arg) → is_own_role (qb k) ≡ true → r k ≡ qb k
  pub none : (k : Arg) → qa k ≡ Foreign → qb k ≡ Foreign → r k ≡ Foreign

-- the items of two fields, in the other order
pub swap_union : {qa qb r : Roles} → Union qa qb r → Union qb qa r
swap_union u = grind arith

-- the items of two fields that share none
pub either_union : {qa qb : Roles} → IsNamed qa → IsNamed qb → Apart qa qb
    → Union qa qb (either qa qb)
either_union na nb a = grind (arith, either_own, either_right)

-- they are keys
pub union_named : {qa qb r : Roles} → Union qa qb r → IsNamed r
union_named u = grind arith

-- an item of the first keeps its role
left_role : {qa qb r : Roles} {k : Arg} {x : Role} → Union qa qb r → is_own_role x ≡ true → qa k ≡ x
    → r k ≡ x
left_role {k} u h e = u.left k (ap is_own_role e ∙ h) ∙ e

-- what the first takes both take
pub takes_left : {qa qb r : Roles} {cs ds : Cells} {o : LinePiece} → Union qa qb r
    → TakesPiece qa cs o ds → TakesPiece r cs o ds
takes_left u (takes_one e) = takes_one (left_role u refl e)
takes_left u (takes_two e v) = takes_two (left_role u refl e) v
takes_left u (takes_later t) = takes_later (takes_left u t)

-- a piece is its key's
pub own_next : (q : Roles) (k : Arg) (cs : Cells) → is_own q (with_next k cs) ≡ is_own_role (q k)
own_next q k xs = grind arith

-- what an item is to each of two fields
pub data Belongs (qa qb r : Roles) (k : Arg) : Type 0 where
  to_first : is_own_role (qa k) ≡ true → r k ≡ qa k → qb k ≡ Foreign → Belongs qa qb r k
  to_second : is_own_role (qb k) ≡ true → r k ≡ qb k → qa k ≡ Foreign → Belongs qa qb r k
  to_none : qa k ≡ Foreign → qb k ≡ Foreign → r k ≡ Foreign → Belongs qa qb r k

-- an item belongs to one of both, or to neither
pub belongs : {qa qb r : Roles} {k : Arg} → Union qa qb r → Belongs qa qb r k
belongs {qa} {qb} {r} {k} u = grind (arith, to_first, to_none, to_second)

-- the first piece of both is the first piece of its owner
abbrev pub HeadOf : Roles → Cells → LinePiece → Type 0
HeadOf q cs o = (tail : List LinePiece) × (pieces q cs ≡ o ∷ tail) × (is_own q o ≡ true)

-- the first piece of both is that of one of them
pub owner : {qa qb r : Roles} (cs : Cells) {o : LinePiece} {os : List LinePiece} → Union qa qb r
    → pieces r cs ≡ o ∷ os → HeadOf qa cs o ⊎ HeadOf qb cs o
owner [] u e = absurd cc
owner (None ∷ cs) u e = owner cs u e
owner {qa} {qb} {r} (Some k ∷ cs) {o} u e =
    by_owner (belongs u) (λ h. owner cs u (sym (begin_at k cs (pieces r cs) h) ∙ e))
  where
    own_head : (q : Roles) (x : Role) → q k ≡ x → r k ≡ x → is_own_role x ≡ true
        → HeadOf q (Some k ∷ cs) o
    own_head q Foreign f g h = absurd cc
    own_head q Alone f g h =
        let a = begin_at k cs (pieces r cs) g in
        let b = begin_at k cs (pieces q cs) f in
        let d : One k ≡ o = cc in
        (pieces q cs, cc, ap (is_own q) (sym d) ∙ ap is_own_role f)
    own_head q WithNext f g h =
        let a = begin_at k cs (pieces r cs) g in
        let b = begin_at k cs (pieces q cs) f in
        let d : with_next k cs ≡ o = cc in
        (pieces q cs, cc, ap (is_own q) (sym d) ∙ (own_next q k cs ∙ ap is_own_role f))

    by_owner : Belongs qa qb r k → (r k ≡ Foreign → HeadOf qa cs o ⊎ HeadOf qb cs o)
        → HeadOf qa (Some k ∷ cs) o ⊎ HeadOf qb (Some k ∷ cs) o
    by_owner (to_first h g f) i = inl (own_head qa (qa k) refl g h)
    by_owner (to_second h g f) i = inr (own_head qb (qb k) refl g h)
    by_owner (to_none f g h) i = grind (arith, begin_at)

-- where neither has a piece both have none
pub both_nil : {qa qb r : Roles} (cs : Cells) → Union qa qb r → pieces qa cs ≡ []
    → pieces qb cs ≡ [] → pieces r cs ≡ []
both_nil [] u e f = refl
both_nil (None ∷ cs) u e f = both_nil cs u e f
both_nil {qa} {qb} {r} (Some k ∷ cs) u e f =
    grind (
      arith,
      begin_at,
      nil_foreign,
      nil_rest,
      both_nil cs u (nil_rest (qa k) k cs e) (nil_rest
          (qb k) k cs f),
    )

-- the left one took the leftmost place that only one of the two took
pub data TookLeft : Cells → Cells → Type 0 where
  left_here : {x : Arg} {cs ds : Cells} → TookLeft (None ∷ cs) (Some x ∷ ds)
  left_later : {c d : Option Arg} {cs ds : Cells} → c ≡ d → TookLeft cs ds
      → TookLeft (c ∷ cs) (d ∷ ds)

-- A cut line holds together.
module _ (r : Roles) (n : IsNamed r) where
  -- an argument's key with its value on a line that is cut on either side of them
  has_its_value : {before after : Cells} {os : List LinePiece} {k : Arg} (value : Arg)
      {behind : Cells} {earlier later : List LinePiece} → r k ≡ WithNext → is_value value ≡ true
      → after ≡ Some value ∷ behind → Cut r before earlier → Cut r behind later
      → os ≡ earlier ++ (Two k value ∷ later) → HasItsValue r before k after os
  has_its_value value e v next cut_before cut_behind is = grind (arith, filter-append, others_own)

  -- what an item of a cut line is: a flag's key, an argument's key, its value, or a word
  data Item (before : Cells) (k : Arg) (after : Cells) (os : List LinePiece) : Type 0 where
    flag_key : r k ≡ Alone → Item before k after os
    argument_key : r k ≡ WithNext → HasItsValue r before k after os → Item before k after os
    value_of_key : is_value k ≡ true → EndsInKey r before → Item before k after os
    positional : is_positional k ≡ true → Item before k after os

  -- it is the same where more stands before it
  further : (front : Cells) (ps : List LinePiece)
      → ((cs : Cells) (os : List LinePiece) → Cut r cs os → Cut r (front ++ cs) (ps ++ os))
      → {before : Cells} {k : Arg} {after : Cells} {os : List LinePiece} → Item before k after os
      → Item (front ++ before) k after (ps ++ os)
  further front ps c (flag_key e) = flag_key e
  further front ps c {before} {k} (argument_key e h) = grind (arith, append_assoc, has_its_value)
  further front ps c (value_of_key v i) =
      value_of_key v (record {
        before = front ++ i.before;
        key = i.key;
        is = ap (λ z. front ++ z) i.is ∙ sym (append_assoc front i.before (Some i.key ∷ []));
        wants_value = i.wants_value;
      })
  further front ps c (positional h) = positional h

  -- each item of a cut line is one of these
  item_of : (before : Cells) {k : Arg} {after : Cells} {os : List LinePiece}
      → Cut r (before ++ (Some k ∷ after)) os → Item before k after os
  item_of [] (flag e c) = flag_key e
  item_of [] (argument {w} e v c) = argument_key e (has_its_value w e v refl at_end c refl)
  item_of [] (word h c) = positional h
  item_of (None ∷ b) (passed c) = further (None ∷ []) [] (λ cs ps d. passed d) (item_of b c)
  item_of (Some j ∷ []) (flag e c) =
      further (Some j ∷ []) (One j ∷ []) (λ cs ps d. flag e d) (item_of [] c)
  item_of (Some j ∷ []) (argument e v c) =
      value_of_key v (record { before = []; key = j; is = refl; wants_value = e })
  item_of (Some j ∷ []) (word h c) =
      further (Some j ∷ []) (One j ∷ []) (λ cs ps d. word h d) (item_of [] c)
  item_of (Some j ∷ (None ∷ b)) (flag e c) =
      further (Some j ∷ []) (One j ∷ []) (λ cs ps d. flag e d) (item_of (None ∷ b) c)
  item_of (Some j ∷ (None ∷ b)) (word h c) =
      further (Some j ∷ []) (One j ∷ []) (λ cs ps d. word h d) (item_of (None ∷ b) c)
  item_of (Some j ∷ (Some w ∷ b)) (flag e c) =
      further (Some j ∷ []) (One j ∷ []) (λ cs ps d. flag e d) (item_of (Some w ∷ b) c)
  item_of (Some j ∷ (Some w ∷ b)) (argument e v c) =
      further (Some j ∷ (Some w ∷ [])) (Two j w ∷ []) (λ cs ps d. argument e v d) (item_of b c)
  item_of (Some j ∷ (Some w ∷ b)) (word h c) =
      further (Some j ∷ []) (One j ∷ []) (λ cs ps d. word h d) (item_of (Some w ∷ b) c)

  -- a key is one of the record's
  own_key : {before after : Cells} {os : List LinePiece} {k : Arg} → Item before k after os
      → is_key k ≡ true → is_own_role (r k) ≡ true
  own_key x h = grind (arith, value_not_key, word_not_key)

  -- an argument's key has its value
  own_value : {before after : Cells} {os : List LinePiece} {k : Arg} → Item before k after os
      → r k ≡ WithNext → HasItsValue r before k after os
  own_value x h = grind (arith, value_foreign, word_foreign)

  -- an attached value stands behind such a key
  behind_key : {before after : Cells} {os : List LinePiece} {text : List ℕ}
      → Item before (ArgWord text) after os → EndsInKey r before
  behind_key x = grind arith

  -- what begins with none of the keys are words
  words_alone : {cs : Cells} {os : List LinePiece} → Cut r cs os
      → AllPass is_word_alone (others r os)
  words_alone at_end = All-nil (λ o. is_word_alone o ≡ true)
  words_alone (passed c) = words_alone c
  words_alone (flag {k} {os} e c) = rw (others_own r (One k) os (ap is_own_role e)) (words_alone c)
  words_alone (argument {k} {w} {os} e v c) = grind (arith, others_own, words_alone c)
  words_alone (word {w} {os} h c) =
      grind (arith, All-cons, others_foreign, word_foreign, words_alone c)

  -- a cut line holds together
  pub cut_holds_together : (cs : Cells) (os : List LinePiece) → Cut r cs os → HoldsTogether r cs os
  cut_holds_together cs os c = grind (arith, own_key, own_value, behind_key, words_alone, item_of)
