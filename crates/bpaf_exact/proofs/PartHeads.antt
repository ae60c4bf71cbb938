-- That a first own piece is taken, and which of two took further left.
use Rattle.bpaf_exact.proofs.Cuts.{value_foreign, nil_foreign, nil_rest, Union, begin_at, belongs}
use Rattle.bpaf_exact.proofs.Cuts.{own_next, to_first, to_second, to_none, TookLeft, left_here}
use Rattle.bpaf_exact.specs.Pieces.{TakesPieces, TakesPiece, takes_none, takes_more, takes_one}
use Rattle.bpaf_exact.specs.Pieces.{Cells, pieces, Roles, IsNamed, Apart, takes_two, takes_later}
use Rattle.std.proofs.Common.{arith, Option, List, None, Some, ap, false, true, ◌∙◌, ◌∷◌, ◌≡◌, []}
use Rattle.bpaf_base.specs.declared.arg.Arg.{Arg}
use Rattle.bpaf_exact.proofs.Cuts.{left_later, swap_union}
use Rattle.bpaf_exact.specs.Pieces.{LinePiece, is_own_role, is_own, Foreign, One, Two, is_value}
use Rattle.bpaf_exact.specs.Flat.{TakesFirst, first_one, first_two, first_later}
use Rattle.bpaf_exact.specs.Parts.{TakenHead, head_here, head_later}

-- a key that takes its first piece
pub key_head : {q : Roles} {cs ds : Cells} {o : LinePiece} → TakesFirst q cs o ds
    → TakenHead q cs ds
key_head (first_one e) = head_here (ap is_own_role e)
key_head (first_two e v) = head_here (ap is_own_role e)
key_head (first_later n t) = head_later n (key_head t)

-- taking more
more_head : {p q : Roles} {cs ds es : Cells} {o : LinePiece} → TakenHead q cs ds
    → TakesPiece p ds o es → TakenHead q cs es
more_head (head_here e) (takes_later t) = head_here e
more_head (head_later n h) (takes_one e) = head_later n h
more_head (head_later n (head_later m h)) (takes_two e v) = head_later n (head_later m h)
more_head (head_later n h) (takes_later t) = head_later n (more_head h t)

-- so it is when more is taken
pub head_more : {p q : Roles} {cs ds es : Cells} → TakenHead q cs ds → TakesPieces p ds es
    → TakenHead q cs es
head_more h takes_none = h
head_more h (takes_more t more) = head_more (more_head h t) more

-- a piece of another given back
back_head : {p q : Roles} {cs ds es : Cells} {o : LinePiece} → IsNamed q → Apart p q
    → TakesPiece p cs o ds → TakenHead q ds es → TakenHead q cs es
back_head n a (takes_one {k} e) (head_later f h) = head_later (a.left k (ap is_own_role e)) h
back_head n a (takes_two {k} e v) (head_later f (head_later g h)) =
    head_later (a.left k (ap is_own_role e)) (head_later (value_foreign n v) h)
back_head n a (takes_later t) (head_here e) = head_here e
back_head n a (takes_later t) (head_later f h) = head_later f (back_head n a t h)

-- and when pieces of others are given back
pub head_back : {p q : Roles} {cs ds es : Cells} → IsNamed p → IsNamed q → Apart p q
    → TakesPieces p cs ds → TakenHead q ds es → TakenHead q cs es
head_back np n a takes_none h = h
head_back np n a (takes_more t more) h = back_head n a t (head_back np n a more h)

-- an own item of one is one of both
own_left : {qa qb r : Roles} (k : Arg) → Union qa qb r → is_own_role (qa k) ≡ true
    → is_own_role (r k) ≡ true
own_left k u e = ap is_own_role (u.left k e) ∙ e

-- and one of the other
own_right : {qa qb r : Roles} (k : Arg) → Union qa qb r → is_own_role (qb k) ≡ true
    → is_own_role (r k) ≡ true
own_right k u e = ap is_own_role (u.right k e) ∙ e

-- of two parts that both took their first
pub head_both : {qa qb r : Roles} {cs ds : Cells} → Union qa qb r → TakenHead qa cs ds
    → TakenHead qb cs ds → TakenHead r cs ds
head_both u (head_here e) h = head_here (own_left _ u e)
head_both u (head_later n g) (head_here e) = head_here (own_right _ u e)
head_both u (head_later {c = None} n g) (head_later m h) = head_later tt (head_both u g h)
head_both u (head_later {c = Some k} n g) (head_later m h) =
    head_later (u.none k n m) (head_both u g h)

-- where the other has none
pub head_alone : {qa qb r : Roles} {cs ds : Cells} → Union qa qb r → TakenHead qa cs ds
    → pieces qb cs ≡ [] → TakenHead r cs ds
head_alone u (head_here e) none = head_here (own_left _ u e)
head_alone u (head_later {c = None} n h) none = head_later tt (head_alone u h none)
head_alone {qb} u (head_later {c = Some k} {cs} n h) none =
    head_later (u.none k n (nil_foreign (qb k) k cs (pieces qb cs) none))
    (head_alone u h (nil_rest (qb k) k cs none))

-- an item that isn't the first one's own, before the first piece, isn't the other's either
not_either : {qa qb r : Roles} {k : Arg} (cs : Cells) {o : LinePiece} {os : List LinePiece}
    → Union qa qb r → qa k ≡ Foreign → is_own qa o ≡ true → pieces r (Some k ∷ cs) ≡ o ∷ os
    → (r k ≡ Foreign) × (pieces r cs ≡ o ∷ os)
not_either cs u f h e = grind (arith, begin_at, belongs, own_next, to_first, to_none, to_second)

-- where the first piece of both is the first one's
pub head_leads : {qa qb r : Roles} {cs ds : Cells} {o : LinePiece} {os : List LinePiece}
    → Union qa qb r → pieces r cs ≡ o ∷ os → is_own qa o ≡ true → TakenHead qa cs ds
    → TakenHead r cs ds
head_leads u e h (head_here i) = head_here (own_left _ u i)
head_leads u e h (head_later {c = None} n t) = head_later tt (head_leads u e h t)
head_leads u e h (head_later {c = Some k} {cs} n t) =
    let d = not_either cs u n h e in head_later d.0 (head_leads u d.1 h t)

-- so is a piece taken first
pub first_leads : {qa qb r : Roles} {cs ds : Cells} {o p : LinePiece} {os : List LinePiece}
    → Union qa qb r → pieces r cs ≡ o ∷ os → is_own qa o ≡ true → TakesFirst qa cs p ds
    → TakesFirst r cs p ds
first_leads u e h (first_one i) = first_one (u.left _ (ap is_own_role i) ∙ i)
first_leads u e h (first_two i v) = first_two (u.left _ (ap is_own_role i) ∙ i) v
first_leads u e h (first_later {c = None} n t) = first_later tt (first_leads u e h t)
first_leads u e h (first_later {c = Some k} {cs} n t) =
    let d = not_either cs u n h e in first_later d.0 (first_leads u d.1 h t)

-- it is an own piece
pub first_own : {q : Roles} {cs ds : Cells} {o : LinePiece} → TakesFirst q cs o ds
    → is_own q o ≡ true
first_own (first_one e) = ap is_own_role e
first_own (first_two e v) = ap is_own_role e
first_own (first_later n t) = first_own t

-- an own piece of the second of two isn't the first one's
pub not_left_own : {qa qb r : Roles} (o : LinePiece) → Union qa qb r → is_own qb o ≡ true
    → is_own qa o ≡ false
not_left_own (One k) u h = ap is_own_role (u.apart.right k h)
not_left_own (Two k w) u h = ap is_own_role (u.apart.right k h)

-- cell by cell, what own pieces that were taken leave
pub data Thins (q : Roles) : Cells → Cells → Type 0 where
  thin_end : Thins q [] []
  thin_same : {c : Option Arg} {cs ds : Cells} → Thins q cs ds → Thins q (c ∷ cs) (c ∷ ds)
  thin_one : {k : Arg} {cs ds : Cells} → is_own_role (q k) ≡ true → Thins q cs ds
      → Thins q (Some k ∷ cs) (None ∷ ds)
  thin_two : {k w : Arg} {cs ds : Cells} → is_own_role (q k) ≡ true → is_value w ≡ true
      → Thins q cs ds → Thins q (Some k ∷ (Some w ∷ cs)) (None ∷ (None ∷ ds))

-- nothing taken
thin_refl : {q : Roles} (cs : Cells) → Thins q cs cs
thin_refl [] = thin_end
thin_refl (c ∷ cs) = thin_same (thin_refl cs)

-- one piece more
thin_more : {q : Roles} {cs ds es : Cells} {o : LinePiece} → Thins q cs ds → TakesPiece q ds o es
    → Thins q cs es
thin_more thin_end s = elim s [ ]
thin_more (thin_same t) (takes_one e) = thin_one (ap is_own_role e) t
thin_more (thin_same (thin_same t)) (takes_two e v) = thin_two (ap is_own_role e) v t
thin_more (thin_same t) (takes_later s) = thin_same (thin_more t s)
thin_more (thin_one e t) (takes_later s) = thin_one e (thin_more t s)
thin_more (thin_two e v t) (takes_later (takes_later s)) = thin_two e v (thin_more t s)

-- some more
thin_some : {q : Roles} {cs ds es : Cells} → Thins q cs ds → TakesPieces q ds es → Thins q cs es
thin_some t takes_none = t
thin_some t (takes_more s more) = thin_some (thin_more t s) more

-- what some pieces leave
pub thins : {q : Roles} {cs ds : Cells} → TakesPieces q cs ds → Thins q cs ds
thins {cs} t = thin_some (thin_refl cs) t

-- no item is both's
never_both : {qa qb r : Roles} (k : Arg) → Union qa qb r → is_own_role (qa k) ≡ true
    → is_own_role (qb k) ≡ true → ⊥
never_both k u e f = let z = u.apart.left k e in cc

-- nor is it the other's
not_own : {qa qb r : Roles} (k : Arg) → Union qa qb r → is_own_role (qa k) ≡ true → r k ≡ Foreign
    → ⊥
not_own k u e f = let z = u.left k e in cc

-- where the first piece of both is the second one's, and is taken, the first took nothing left of it
pub not_left : {qa qb r : Roles} {cs ca cb : Cells} {o : LinePiece} {os : List LinePiece}
    → Union qa qb r → pieces r cs ≡ o ∷ os → is_own qb o ≡ true → TakenHead qb cs cb
    → Thins qa cs ca → Thins qb cs cb → TookLeft ca cb → ⊥
not_left u e h (head_here i) (thin_one j t) s l = never_both _ u j i
not_left u e h (head_here i) (thin_two j v t) s l = never_both _ u j i
not_left u e h (head_here i) (thin_same t) s (left_later same l) = absurd cc
not_left u e h (head_later {c = None} n g) (thin_same t) (thin_same s) (left_later same l) =
    not_left u e h g t s l
not_left u e h (head_later {c = Some k} {cs} n g) (thin_one j t) s l =
    not_own k u j (not_either cs (swap_union u) n h e).0
not_left u e h (head_later {c = Some k} {cs} n g) (thin_two j v t) s l =
    not_own k u j (not_either cs (swap_union u) n h e).0
not_left u e h (head_later {c = Some k} {cs} n g) (thin_same t) (thin_same s) (left_later same l) =
    not_left u (not_either cs (swap_union u) n h e).1 h g t s l
not_left u e h (head_later {c = Some k} n g) (thin_same t) (thin_one j s) l = absurd cc
not_left u e h (head_later {c = Some k} n g) (thin_same t) (thin_two j v s) l = absurd cc

-- what took the first piece of one didn't leave what the other left
pub never_alike : {qa qb r : Roles} {cs ca cb : Cells} → Union qa qb r → TakenHead qb cs cb
    → Thins qa cs ca → ca ≡ cb → ⊥
never_alike u (head_here i) (thin_one j t) e = never_both _ u j i
never_alike u (head_here i) (thin_two j v t) e = never_both _ u j i
never_alike u (head_here i) (thin_same t) e = absurd cc
never_alike u (head_later n g) (thin_same t) e = never_alike u g t cc
never_alike u (head_later n g) (thin_one j t) e = never_alike u g t cc
never_alike u (head_later n (head_later m g)) (thin_two j v t) e = never_alike u g t cc
never_alike u (head_later n (head_here i)) (thin_two j v t) e =
    let z = value_foreign u.named_right v in absurd cc

-- nothing is further left than itself
pub left_alike : {cs ds : Cells} → TookLeft cs ds → cs ≡ ds → ⊥
left_alike left_here e = absurd cc
left_alike (left_later same l) e = left_alike l cc
