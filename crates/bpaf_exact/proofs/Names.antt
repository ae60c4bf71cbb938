-- Fields with keys apart have no item in common, pieces shared out by roles are so by names; and
-- what a field takes of pieces, and leaves.
use Rattle.std.proofs.Common.{if◌then◌else◌, append-nil, bytes_eq, ⊎_elim, length, arith, false, []}
use Rattle.std.proofs.Common.{List, refl, true, ◌&&◌, ◌++◌, ◌==◌, ◌||◌, Bool, take, drop, ap₂, not}
use Rattle.std.proofs.Common.{sym, ◌∙◌, ◌∷◌, ◌≡◌, ap}
use Rattle.std.proofs.lemmas.Bool.{false_from_ne_true, and_parts, both_ways, and_from, eqb-true}
use Rattle.std.proofs.lemmas.Bool.{not-true, or_cases, or_right, or_left}
use Rattle.std.proofs.lemmas.List.{take-append-drop, append_assoc}
use Rattle.std.proofs.{lemmas.List.Elements.filter-append, lemmas.List.Folds.list_any-append}
use Rattle.std.proofs.{lemmas.Slice.Eq.bytes_eq-Decides, lemmas.List.Sums.take_while-cons}
use Rattle.std.proofs.Math.Seq.{drop-append_seam}
use Rattle.std.specs.{List.position_or_len, List.list_all, List.list_any, Prelude.filter}
use Rattle.bpaf_base.specs.declared.arg.Arg.TheVariants.{PosWord, Short, Long, Word}
use Rattle.bpaf_base.specs.Items.{is_positional, is_text_among, is_key_of, is_among}
use Rattle.bpaf_base.specs.declared.arg.Arg.{Arg}
use Rattle.bpaf_doc.specs.Names.{Names}
use Rattle.bpaf_exact.specs.Pieces.{takes_argument, are_all_apart, is_key_of_any, either_role, Role}
use Rattle.bpaf_exact.specs.Pieces.{is_own, others, passed, Apart, Cells, Roles, Takes, Cut}
use Rattle.bpaf_exact.specs.Pieces.{LinePiece, argument, no_cells, Foreign, at_end, either}
use Rattle.bpaf_exact.specs.Pieces.{empty_stays, is_own_role, other_stays, takes_flag, are_apart}
use Rattle.bpaf_exact.specs.Pieces.{flag, mine, word, Owns}
use Rattle.bpaf_exact.specs.Says.{first_item, EachOwn, unkeyed, keyed, OwnBy}
use Rattle.bpaf_exact.specs.Flat.{FieldKind, is_behind, repeated, EachWord, OneWord}
use Rattle.bpaf_exact.specs.{Flat.ByName, Flat.front, Flat.back, ProgramForm.may_follow}

-- where a test holds of each element of a list, and another of one, both hold of one
pub both_hold : {X C : Type 0} (test pick : X → Bool)
    → ((x : X) → test x ≡ true → pick x ≡ true → C) → (xs : List X) → list_all test xs ≡ true
    → list_any pick xs ≡ true → C
both_hold test pick f [] all any = absurd cc
both_hold test pick f (x ∷ xs) all any =
    let each = and_parts (test x) (list_all test xs) all in
    ⊎_elim (λ here. f x each.0 here) (λ later. both_hold test pick f xs each.1 later)
    (or_cases (pick x) (list_any pick xs) any)

-- an item is a key of at most one of two that are apart
one_owner : (own others : Names) (k : Arg) → are_apart own others ≡ true → is_key_of own k ≡ true
    → is_key_of others k ≡ true → ⊥
one_owner own others (Short c attached whole) apart e f =
    both_hold (λ name. not (is_among others.shorts name)) (λ name. name == c)
    (λ name t h. both_ways (is_among others.shorts name) (not-true _ t)
    (rw (eqb-true name c h) f)) own.shorts
    (and_parts _ _ apart).0 e
one_owner own others (Long name attached whole) apart e f =
    both_hold (λ other. not (is_text_among others.longs other)) (λ other. bytes_eq other name)
    (λ other t h. both_ways (is_text_among others.longs other) (not-true _ t)
    (rw ((bytes_eq-Decides other name).0 h) f)) own.longs (and_parts _ _ apart).1 e
one_owner own others _ apart e f = cc

-- an item is a key of at most one of two lists that are apart
pub one_list : (keys others : List Names) (k : Arg) → are_all_apart keys others ≡ true
    → is_key_of_any keys k ≡ true → is_key_of_any others k ≡ true → ⊥
one_list keys others k apart e f =
    both_hold (λ names. list_all (are_apart names) others) (λ names. is_key_of names k)
    (λ names all h. both_hold (are_apart names) (λ other. is_key_of other k)
    (λ other t i. one_owner names other k t h i) others all f) keys apart e

-- what isn't the field's own
pub foreign_of : (x : Role) → is_own_role x ≡ false → x ≡ Foreign
foreign_of x e = grind arith

-- keys that are apart keep the fields apart
pub apart_of_names : {q r : Roles} {keys others : List Names} → Owns q keys → Owns r others
    → are_all_apart keys others ≡ true → Apart q r
apart_of_names a b h = grind (arith, foreign_of, false_from_ne_true, one_list)

-- an item of both is one of either
either_own : (x y : Role) → is_own_role (either_role x y) ≡ (is_own_role x || is_own_role y)
either_own x y = grind arith

-- the keys of two fields together
pub either_owns : {q r : Roles} {keys others : List Names} → Owns q keys → Owns r others
    → Owns (either q r) (keys ++ others)
either_owns {q} {r} {keys} {others} a b = record {
  own = λ k e. list_any-append (λ names. is_key_of names k) keys others ∙ ⊎_elim
      (λ (one : is_own_role (q k) ≡ true). or_left _ (is_key_of_any others k) (a.own k one))
      (λ (other : is_own_role (r k) ≡ true). or_right (is_key_of_any keys k) _ (b.own k other))
      (or_cases (is_own_role (q k)) (is_own_role (r k)) (sym (either_own (q k) (r k)) ∙ e));
}

-- two fields with these keys together
pub both_own : {q r : Roles} {keys : List Names} → Owns q keys → Owns r keys
    → Owns (either q r) keys
both_own {q} {r} a b = record {
  own = λ k e. ⊎_elim (a.own k) (b.own k)
      (or_cases (is_own_role (q k)) (is_own_role (r k)) (sym (either_own (q k) (r k)) ∙ e));
}

-- Filters.

-- of what a test keeps, a second keeps what a third does that holds where both do
pub kept_twice : (p q both : LinePiece → Bool) → ((o : LinePiece) → both o ≡ (q o && p o))
    → (os : List LinePiece) → filter p (filter q os) ≡ filter both os
kept_twice p q both same [] = refl
kept_twice p q both same (o ∷ os) = grind (arith, kept_twice p q both same os)

-- where a test never holds nothing is kept
kept_none : {p : LinePiece → Bool} → ((o : LinePiece) → p o ≡ false) → (os : List LinePiece)
    → filter p os ≡ []
kept_none none [] = refl
kept_none {p} none (o ∷ os) = grind (arith, kept_none none os)

-- where a test never holds of what another kept, nothing is kept
kept_neither : {p q : LinePiece → Bool} → ((o : LinePiece) → q o ≡ true → p o ≡ false)
    → (os : List LinePiece) → filter p (filter q os) ≡ []
kept_neither {p} {q} apart os =
    kept_twice p q (λ o. false) (λ o. sym (false_from_ne_true (q o && p o) (λ e.
    let h = and_parts (q o) (p o) e in both_ways (p o) (apart o h.0) h.1))) os
    ∙ kept_none (λ o. refl) os

-- a word is no key
no_key : (names : List Names) (w : Arg) → is_positional w ≡ true → is_key_of_any names w ≡ false
no_key [] (Word text) h = refl
no_key (own ∷ names) (Word text) h = no_key names (Word text) h
no_key [] (PosWord text) h = refl
no_key (own ∷ names) (PosWord text) h = no_key names (PosWord text) h
no_key names _ h = absurd cc

-- a piece is one's own by its first item
own_first : (r : Roles) (o : LinePiece) → is_own r o ≡ is_own_role (r (first_item o))
own_first r x = grind arith

module _ (r : Roles) (names : List Names) where
  -- where own pieces are those that begin with a key of one's names, a test keeps the same of both
  fits_kept : (f : Bool → Bool) (os : List LinePiece) → OwnBy names r os
      → filter (λ o. f (is_own r o)) os ≡ filter (λ o. f (is_key_of_any names (first_item o))) os
  fits_kept f [] fits = refl
  fits_kept f (o ∷ os) fits = grind (arith, fits_kept f os fits.1)

  -- own pieces are those that begin with a key of one's names
  pub mine_keyed : (os : List LinePiece) → OwnBy names r os → mine r os ≡ keyed names os
  mine_keyed = fits_kept (λ b. b)

  -- the pieces of others are those that begin with no key of one's names
  pub others_unkeyed : (os : List LinePiece) → OwnBy names r os → others r os ≡ unkeyed names os
  others_unkeyed = fits_kept not

  module _ (owned : Owns r names) where
    -- pieces that are all one's own do
    pub own_fit : (os : List LinePiece) → EachOwn r os → OwnBy names r os
    own_fit [] all = tt
    own_fit (o ∷ os) all =
        (all.0 ∙ sym (owned.own (first_item o) (sym (own_first r o) ∙ all.0)), own_fit os all.1)

    -- the own pieces of a cut by one's keys begin with a key of one's names
    pub cut_fit : {cs : Cells} {os : List LinePiece} → Cut r cs os → OwnBy names r os
    cut_fit at_end = tt
    cut_fit (passed c) = cut_fit c
    cut_fit (flag {k} e c) = let own = ap is_own_role e in (own ∙ sym (owned.own k own), cut_fit c)
    cut_fit (argument {k} e v c) = grind (arith, cut_fit c)
    cut_fit (word {w} h c) = grind (arith, false_from_ne_true, no_key, cut_fit c)

-- of two whose names are apart, each has the pieces that begin with its own
module _ {q r : Roles} {own behind : List Names} (owned : Owns q own) (owned_behind : Owns r behind)
    (apart : are_all_apart own behind ≡ true) where
  -- each has its own
  pub both_fits : (os : List LinePiece) → OwnBy (own ++ behind) (either q r) os
      → OwnBy own q os × OwnBy behind r os
  both_fits [] fits = (tt, tt)
  both_fits (o ∷ os) fits =
      grind (arith, either_own, list_any-append, one_list, both_fits os fits.1)

-- the own ones of pieces are all one's own
pub each_own : (q : Roles) (os : List LinePiece) → EachOwn q (mine q os)
each_own q [] = tt
each_own q (o ∷ os) = grind (arith, each_own q os)

-- the pieces taken from cells are all one's own
pub taken_own : {q : Roles} {cs ds : Cells} {os : List LinePiece} → Takes q cs os ds → EachOwn q os
taken_own no_cells = tt
taken_own (empty_stays t) = taken_own t
taken_own (other_stays e t) = taken_own t
taken_own (takes_flag e t) = (ap is_own_role e, taken_own t)
taken_own (takes_argument e v t) = (ap is_own_role e, taken_own t)

-- where each own item of the one is one of the other, its pieces are among the other's
pub mine_within : (q r : Roles) → ((k : Arg) → is_own_role (q k) ≡ true → is_own_role (r k) ≡ true)
    → (os : List LinePiece) → mine q (mine r os) ≡ mine q os
mine_within q r part = grind (arith, and_from, and_parts, kept_twice, own_first)

-- an own item of the first is one of either, and so is one of the second
pub first_within : (q r : Roles) (k : Arg) → is_own_role (q k) ≡ true
    → is_own_role (either q r k) ≡ true
first_within q r k = grind arith

-- the second
pub second_within : (q r : Roles) (k : Arg) → is_own_role (r k) ≡ true
    → is_own_role (either q r k) ≡ true
second_within q r k = grind arith

-- what has no role to two has none to each
none_of_both : (x : Role) {y : Role} → either_role x y ≡ Foreign → (x ≡ Foreign) × (y ≡ Foreign)
none_of_both x e = grind arith

-- what is apart from two is apart from each
pub apart_first : {p q : Roles} (r : Roles) → Apart p (either q r) → Apart p q
apart_first r a = grind (arith, none_of_both, first_within)

-- what is apart from two is apart from the second
pub apart_second : {p : Roles} (q : Roles) {r : Roles} → Apart p (either q r) → Apart p r
apart_second q a = grind (arith, none_of_both, second_within)

-- what is another's own isn't among one's own
pub mine_of_others : (p q : Roles) → ((k : Arg) → is_own_role (q k) ≡ true → p k ≡ Foreign)
    → (os : List LinePiece) → mine q (others p os) ≡ mine q os
mine_of_others p q apart = grind (arith, and_from, and_parts, kept_twice, own_first)

module _ (q : Roles) (none : (k : Arg) → is_own_role (q k) ≡ false) where
  -- where no item is one's own, no piece is
  pub mine_none : (os : List LinePiece) → mine q os ≡ []
  mine_none = kept_none (λ o. own_first q o ∙ none (first_item o))

  -- where no item is one's own, each piece is another's
  pub others_none : (os : List LinePiece) → others q os ≡ os
  others_none [] = refl
  others_none (o ∷ os) = grind (arith, own_first, others_none os)

-- where no piece is another's, each is one's own
pub all_mine : (q : Roles) (os : List LinePiece) → others q os ≡ [] → mine q os ≡ os
all_mine q [] e = refl
all_mine q (o ∷ os) e = grind (arith, all_mine q os)

-- what is neither's is no piece of both
pub others_both : (q r : Roles) (os : List LinePiece)
    → others r (others q os) ≡ others (either q r) os
others_both q r = grind (arith, kept_twice)

-- behind a positional field no item is another field's own
pub none_behind : {r : Roles} (own behind : List Names) → Owns r behind
    → may_follow (OneWord false) own behind ≡ true → (k : Arg) → is_own_role (r k) ≡ false
none_behind own xs owned e k = grind (arith, false_from_ne_true)

-- behind a positional field nothing begins with another's key
pub no_fits : (r : Roles) (own behind : List Names) → may_follow (OneWord false) own behind ≡ true
    → ((k : Arg) → is_own_role (r k) ≡ false) → (os : List LinePiece) → OwnBy behind r os
no_fits r own [] may none [] = tt
no_fits r own [] may none (o ∷ os) = grind (arith, own_first, no_fits r own [] may none os)
no_fits r own (names ∷ behind) may none os = absurd cc

-- all names are apart from none
pub apart_none : (names : List Names) → are_all_apart names [] ≡ true
apart_none [] = refl
apart_none (own ∷ names) = apart_none names

-- Of a product with words, which stands last in another: its keys' pieces, and words left to it.

-- what is left of pieces without those of others fits as they do
pub others_fit : (q r : Roles) (names : List Names) (os : List LinePiece) → OwnBy names r os
    → OwnBy names r (others q os)
others_fit q r names [] fit = tt
others_fit q r names (o ∷ os) fit =
    elim (is_own q o) as (λ b. OwnBy names r (if not b then (o ∷ others q os) else others q os))
    [ true ↦ others_fit q r names os fit.1 | false ↦ (fit.0, others_fit q r names os fit.1) ]

-- the pieces that what is left is told of fit as the whole line's do
pub rest_fit : (r : Roles) (names : List Names) (whole os : List LinePiece) → OwnBy names r whole
    → OwnBy names r os → OwnBy names r (keyed names whole ++ others r os)
rest_fit r names [] os fits fit = others_fit r r names os fit
rest_fit r names (o ∷ whole) os fits fit = grind (arith, rest_fit r names whole os fits.1 fit)

-- its own are those of the whole line
pub mine_rest : (r : Roles) (names : List Names) (whole os : List LinePiece) → OwnBy names r whole
    → mine r (keyed names whole ++ others r os) ≡ mine r whole
mine_rest r names whole os fits =
    filter-append (is_own r) (keyed names whole) (others r os)
    ∙ ap₂ ◌++◌ (ap (mine r) (sym (mine_keyed r names whole fits)) ∙ mine_within r r (λ k e. e)
    whole) (kept_neither (λ o. not-true (is_own r o)) os) ∙ append-nil (mine r whole)

-- the pieces of others are the words that are left
pub others_rest : (r : Roles) (names : List Names) (whole os : List LinePiece) → OwnBy names r whole
    → others r (keyed names whole ++ others r os) ≡ others r os
others_rest r names whole os fits =
    grind (arith, filter-append, kept_neither, and_from, and_parts, kept_twice, mine_keyed)

-- What a field takes of pieces, and what it leaves.

-- a list that something stands in isn't empty
pub never_nil : {T : Type 0} (before : List T) (x : T) (behind : List T)
    → before ++ x ∷ behind ≡ [] → ⊥
never_nil [] x behind e = cc
never_nil (y ∷ before) x behind e = cc

-- what stands behind the first pieces
behind_first : {os : List LinePiece} (first behind : List LinePiece) → first ++ behind ≡ os
    → first ++ drop (length first) os ≡ os
behind_first first behind e = rw (← e) (ap (λ z. first ++ z) (drop-append_seam first behind))

-- what a repeat takes and what it leaves are all
each_back : (b : Bool) {os : List LinePiece} → front (EachWord b) os ++ back (EachWord b) os ≡ os
each_back false {os} = behind_first os [] (append-nil os)
each_back true {os} =
    let n = position_or_len is_behind os in
    behind_first (take n os) (drop n os) (take-append-drop n os)

-- what a field takes and what it leaves are all
front_back : (k : FieldKind) {os : List LinePiece} → front k os ++ back k os ≡ os
front_back ByName {os} = append-nil os
front_back (EachWord b) = each_back b
front_back (OneWord b) {os} =
    let words = front (EachWord b) os in
    let rest = back (EachWord b) os in
    behind_first (take 1 words) (drop 1 words ++ rest)
    (sym (append_assoc (take 1 words) (drop 1 words) rest)
    ∙ (ap (λ z. z ++ rest) (take-append-drop 1 words) ∙ each_back b))

-- of nothing it takes nothing
pub front_nil : (k : FieldKind) → front k [] ≡ []
front_nil x = grind arith

-- where a field takes none it leaves all
pub back_all : (k : FieldKind) {os : List LinePiece} → front k os ≡ [] → back k os ≡ os
back_all x none = grind arith

-- where a field leaves none it takes all
pub all_front : (k : FieldKind) {os : List LinePiece} → back k os ≡ [] → front k os ≡ os
all_front k {os} none =
    sym (append-nil (front k os)) ∙ (ap (λ z. front k os ++ z) (sym none) ∙ front_back k)

-- where a repeat of a field takes none, nor does the field
pub nil_each : (k : FieldKind) (os : List LinePiece) → front (repeated k) os ≡ [] → front k os ≡ []
nil_each x os none = grind arith

-- what a repeat takes, by whether it stops at the first piece
pub each_front : (b : Bool) (o : LinePiece) (os : List LinePiece) → front (EachWord b) (o ∷ os)
    ≡ (if not (b && is_behind o) then (o ∷ front (EachWord b) os) else [])
each_front b o os = grind (arith, take_while-cons)

-- A first piece that a field may take: any, where it doesn't stop before one behind `--`.

-- a repeat takes it, and what it takes of the others
pub front_more : {b : Bool} {o : LinePiece} (os : List LinePiece) → (b ≡ true → is_behind o ≡ false)
    → front (EachWord b) (o ∷ os) ≡ o ∷ front (EachWord b) os
front_more os clear = grind (arith, each_front)

-- a repeat that takes a word leaves what it leaves of the others
pub back_more : {b : Bool} (o : LinePiece) (os : List LinePiece) → (b ≡ true → is_behind o ≡ false)
    → back (EachWord b) (o ∷ os) ≡ back (EachWord b) os
back_more o os clear = ap (λ z. drop (length z) (o ∷ os)) (front_more os clear)

-- a field without one takes it
pub front_one : (b : Bool) (o : LinePiece) (os : List LinePiece) → (b ≡ true → is_behind o ≡ false)
    → front (OneWord b) (o ∷ os) ≡ o ∷ []
front_one b o os clear = ap (take 1) (front_more os clear)

-- a field without a repeat that takes a word leaves the others
pub back_one : (b : Bool) (o : LinePiece) {os : List LinePiece} → (b ≡ true → is_behind o ≡ false)
    → back (OneWord b) (o ∷ os) ≡ os
back_one b o {os} clear = ap (λ z. drop (length z) (o ∷ os)) (front_one b o os clear)

-- what a field takes is the first piece
pub of_front_one : (b : Bool) (os : List LinePiece) (o : LinePiece) → front (OneWord b) os ≡ o ∷ []
    → os ≡ o ∷ back (OneWord b) os
of_front_one b os o e = sym (front_back (OneWord b)) ∙ ap (λ z. z ++ back (OneWord b) os) e

-- what a repeat takes begins with the first piece, and goes on with what it takes of the others
pub of_front_more : (b : Bool) (os : List LinePiece) (o : LinePiece) {rest : List LinePiece}
    → front (EachWord b) os ≡ o ∷ rest
    → (more : List LinePiece) × (os ≡ o ∷ more) × (rest ≡ front (EachWord b) more)
of_front_more b xs o e = grind (arith, each_front, front_nil)
