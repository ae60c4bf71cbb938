-- From places to cells: the first wanted place, its piece, what is left; and how many are present.
use Rattle.std.proofs.Common.{option_and_then, if◌then◌else◌, add-one, Option, length, arith, false}
use Rattle.std.proofs.Common.{Bool, List, None, Some, refl, true, zero, ap₂, suc, sym, ◌+◌, ℕ, ◌<◌}
use Rattle.bpaf_line.proofs.Places.{open_item_there, open_has_item, open_in_line, taken_other}
use Rattle.bpaf_line.specs.Situation.{open_count, take_place, Situation, in_scope, is_taken}
use Rattle.bpaf_exact.specs.Pieces.{TakesPieces, takes_later, TakesPiece, takes_more, takes_none}
use Rattle.bpaf_exact.specs.Pieces.{LinePiece, with_next, WithNext, is_value, Foreign, IsNamed}
use Rattle.bpaf_exact.specs.Flat.{present_count, first_later, first_cells, TakesFirst, first_one}
use Rattle.std.proofs.lemmas.Bool.{false_from_ne_true, true_from_ne_false, and_right, both_ways}
use Rattle.std.proofs.Common.{◌∙◌, ◌∷◌, ◌≡◌, ◌≢◌, ◌≤◌, [], ap}
use Rattle.std.specs.Option.{option_map_or, is_some}
use Rattle.bpaf_base.specs.Items.{value_text, is_key_of, item_text, any_item}
use Rattle.bpaf_base.specs.{declared.arg.Arg.Arg, Count.count_below}
use Rattle.bpaf_doc.specs.Names.{Names}
use Rattle.bpaf_base.proofs.Count.{count_below-same, count_below-some}
use Rattle.bpaf_line.proofs.Places.{taken_stays, taken_here}
use Rattle.bpaf_line.specs.Taking.{value_after, open_item, is_match, HasNone, IsFirst}
use Rattle.bpaf_line.specs.Situation.{is_open, item_at}
use Rattle.bpaf_exact.proofs.Cuts.{begin_at}
use Rattle.bpaf_exact.specs.Pieces.{pieces, Alone, Cells, Roles, Role, Owns, One, Two}
use Rattle.bpaf_exact.specs.Flat.{first_two, NotOwn, Steady, cells}

-- taking a place changes what is taken and the current place alone
pub take_steady : {s : Situation} {p : ℕ} → Steady s (take_place s p)
take_steady = grind (arith, taken_stays)

-- what is at the first places decides their cells
pub same_cells : {at : ℕ → Option Arg} (other : ℕ → Option Arg) (n : ℕ)
    → ((p : ℕ) → p < n → at p ≡ other p) → first_cells at n ≡ first_cells other n
same_cells other zero same = refl
same_cells other (suc n) same =
    ap₂ ◌∷◌ (same zero (omega arith))
    (same_cells (λ p. other (suc p)) n (λ p l. same (suc p) (omega arith)))

-- no own item stands before a place
pub record NoneBefore (r : Roles) (at : ℕ → Option Arg) (p : ℕ) : Type 0 where
  pub before : (q : ℕ) → q < p → NotOwn r (at q)

-- what is left when a place is taken
pub record TakenOne (at left : ℕ → Option Arg) (p : ℕ) : Type 0 where
  pub gone : left p ≡ None
  pub others : (q : ℕ) → q ≢ p → left q ≡ at q

-- what is left when a place and the next are taken
pub record TakenTwo (at left : ℕ → Option Arg) (p : ℕ) : Type 0 where
  pub gone : left p ≡ None
  pub next_gone : left (suc p) ≡ None
  pub others : (q : ℕ) → q ≢ p → q ≢ suc p → left q ≡ at q

-- the same from the second place on
tail_before : {r : Roles} {at : ℕ → Option Arg} {p : ℕ} → NoneBefore r at (suc p)
    → NoneBefore r (λ q. at (suc q)) p
tail_before none = record { before = λ q l. none.before (suc q) (omega arith) }

-- a later one is
later : {r : Roles} {c d : Option Arg} {cs ds : Cells} {o : LinePiece} → d ≡ c → NotOwn r c
    → TakesFirst r cs o ds → TakesFirst r (c ∷ cs) o (d ∷ ds)
later e n t = rw e (first_later n t)

-- the first item that is wanted, taken by itself
pub take_one : {r : Roles} {at left : ℕ → Option Arg} (n p : ℕ) {k : Arg} → p < n → at p ≡ Some k
    → r k ≡ Alone → NoneBefore r at p → TakenOne at left p
    → TakesFirst r (first_cells at n) (One k) (first_cells left n)
take_one zero p l e h none taken = absurd (omega arith)
take_one {at} (suc n) zero l e h none taken =
    rw (
      e,
      taken.gone,
      same_cells (λ q. at (suc q)) n (λ q i. taken.others (suc q) (λ f. absurd (omega arith))),
    ) (first_one h)
take_one (suc n) (suc p) l e h none taken = later (taken.others zero (λ f. absurd (omega arith)))
    (none.before zero (omega arith)) (take_one n p (omega arith) e h (tail_before none) (record {
      gone = taken.gone;
      others = λ q other. taken.others (suc q) (λ e. other (omega arith));
    }))

-- with the value after it
pub take_two : {r : Roles} {at left : ℕ → Option Arg} (n p : ℕ) {k w : Arg} → suc p < n
    → at p ≡ Some k → at (suc p) ≡ Some w → r k ≡ WithNext → is_value w ≡ true → NoneBefore r at p
    → TakenTwo at left p → TakesFirst r (first_cells at n) (Two k w) (first_cells left n)
take_two zero p l e f h v none taken = absurd (omega arith)
take_two (suc zero) zero l e f h v none taken = absurd (omega arith)
take_two {at} (suc (suc n)) zero l e f h v none taken =
    rw (
      e,
      f,
      taken.gone,
      taken.next_gone,
      same_cells (λ q. at (suc (suc q))) n
          (λ q i. taken.others (suc (suc q)) (λ g. absurd (omega arith))
          (λ g. absurd (omega arith))),
    ) (first_two h v)
take_two (suc n) (suc p) l e f h v none taken =
    later (taken.others zero (λ g. absurd (omega arith)) (λ g. absurd (omega arith)))
    (none.before zero (omega arith)) (take_two n p (omega arith) e f h v (tail_before none)
    (record { gone = taken.gone; next_gone = taken.next_gone; others = grind arith }))

-- an item that isn't the field's own heads no piece
pub pass_head : (r : Roles) (c : Option Arg) (cs : Cells) → NotOwn r c
    → pieces r (c ∷ cs) ≡ pieces r cs
pass_head r x cs n = grind (arith, begin_at)

-- nothing of the field's own is present
pub none_present : (r : Roles) (at : ℕ → Option Arg) (n : ℕ) → ((q : ℕ) → NotOwn r (at q))
    → pieces r (first_cells at n) ≡ []
none_present r at zero none = refl
none_present r at (suc n) none = pass_head r (at zero) _ (none zero)
    ∙ none_present r (λ q. at (suc q)) n (λ q. none (suc q))

-- a key without a value heads the pieces as it stands
pub record BareHead (r : Roles) (cs : Cells) (k : Arg) : Type 0 where
  pub tail : List LinePiece
  pub is : pieces r cs ≡ One k ∷ tail

-- a key before no value is a piece by itself
bare_next : {k : Arg} (at : ℕ → Option Arg) (n : ℕ)
    → ((w : Arg) → at zero ≡ Some w → is_value w ≡ true → ⊥)
    → with_next k (first_cells at n) ≡ One k
bare_next at n none = grind (arith, false_from_ne_true)

-- a key at the front
bare_key : (r : Roles) {c : Option Arg} (k : Arg) (cs : Cells) → c ≡ Some k → r k ≡ WithNext
    → with_next k cs ≡ One k → BareHead r (c ∷ cs) k
bare_key r k cs e h n = record {
  tail = pieces r cs;
  is = grind (arith, begin_at);
}

-- the first key that is wanted, without a value behind it
pub bare_first : {r : Roles} {at : ℕ → Option Arg} (n p : ℕ) {k : Arg} → p < n → at p ≡ Some k
    → r k ≡ WithNext → NoneBefore r at p → ((w : Arg) → at (suc p) ≡ Some w → is_value w ≡ true → ⊥)
    → BareHead r (first_cells at n) k
bare_first zero p l e h none bare = absurd (omega arith)
bare_first {r} {at} (suc n) zero {k} l e h none bare = grind (arith, bare_key, bare_next)
bare_first {r} {at} (suc n) (suc p) l e h none bare =
    grind (arith, pass_head, tail_before, bare_first n p (omega arith) e h (tail_before none) bare)

-- What is open after a place is taken.

-- nothing is open at a place that is taken
pub closed_item : (s : Situation) (p : ℕ) → is_taken s p ≡ true → open_item s p ≡ None
closed_item s p e = grind (arith, and_right)

-- a place where as much is taken as before has the item that it had
pub same_item : (s t : Situation) (p : ℕ) → in_scope t p ≡ in_scope s p → item_at t p ≡ item_at s p
    → is_taken t p ≡ is_taken s p → open_item t p ≡ open_item s p
same_item s t p e f g = grind arith

-- one place taken
pub open_one : (s : Situation) (p : ℕ) → TakenOne (open_item s) (open_item (take_place s p)) p
open_one s p = grind (arith, closed_item, taken_here, same_item, taken_other)

-- two places taken, one after the other
pub open_two : (s : Situation) (p : ℕ)
    → TakenTwo (open_item s) (open_item (take_place (take_place s p) (suc p))) p
open_two s p =
    let m = take_place s p in
    record {
      gone = closed_item (take_place m (suc p)) p
          (taken_other m (suc p) p (λ e. absurd (omega arith)) ∙ taken_here s p);
      next_gone = closed_item (take_place m (suc p)) (suc p) (taken_here m (suc p));
      others = λ q other next. same_item s (take_place m (suc p)) q refl refl
          (taken_other m (suc p) q next ∙ taken_other s p q other);
    }

-- The item of a match, and its piece.

-- the item of a match
pub record Match (test : Arg → Bool) (s : Situation) (p : ℕ) : Type 0 where
  pub item : Arg
  pub is : open_item s p ≡ Some item
  pub passes : test item ≡ true
  pub in_line : p < length s.context.line

-- a place with a match has an item that passes the test
pub match_of : (test : Arg → Bool) (s : Situation) (p : ℕ) → is_match test s p ≡ true
    → Match test s p
match_of test s p e = by_item (open_item s p) refl e
  where
    by_item : (c : Option Arg) → open_item s p ≡ c → option_map_or test c false ≡ true
        → Match test s p
    by_item None f h = absurd cc
    by_item (Some k) f h = record {
      item = k;
      is = f;
      passes = h;
      in_line = open_in_line s p (open_item_there s p k f).0;
    }

-- a role by a test
pub record ByTest (test : Arg → Bool) (r : Roles) (own : Role) : Type 0 where
  pub yes : (k : Arg) → test k ≡ true → r k ≡ own
  pub no : (k : Arg) → test k ≡ false → r k ≡ Foreign

-- the roles that a test gives
pub by_test : {test : Arg → Bool} {own : Role}
    → ByTest test (λ k. if test k then own else Foreign) own
by_test = grind arith

-- only keys have a role by a test that asks for names
pub test_named : (test : Arg → Bool) (names : Names) (own : Role)
    → ((k : Arg) → test k ≡ true → is_key_of names k ≡ true)
    → IsNamed (λ k. if test k then own else Foreign)
test_named test names own asks = grind (arith, false_from_ne_true, both_ways)

-- where a place has no match, nothing of the field's own is there
not_own : {test : Arg → Bool} {r : Roles} {own : Role} (s : Situation) (p : ℕ) → ByTest test r own
    → is_match test s p ≡ false → NotOwn r (open_item s p)
not_own s p t e = grind (arith, no)

-- nothing of the field's own stands before the first match
none_before : {test : Arg → Bool} {r : Roles} {own : Role} {s : Situation} {p : ℕ}
    → ByTest test r own → IsFirst test s p → NoneBefore r (open_item s) p
none_before {s} t f = record { before = λ q l. not_own s q t (f.first q l) }

-- without a match there is no piece
pub no_pieces : {test : Arg → Bool} {r : Roles} {own : Role} (s : Situation) → ByTest test r own
    → HasNone test s → pieces r (cells s) ≡ []
unfolding cells
no_pieces {r} s t none = grind (arith, none_present, not_own)

-- the first match, taken by itself
pub one_taken : {test : Arg → Bool} {r : Roles} {s : Situation} {p : ℕ} → ByTest test r Alone
    → IsFirst test s p → (m : Match test s p)
    → TakesFirst r (cells s) (One m.item) (cells (take_place s p))
unfolding cells
one_taken {s} {p} t f m =
    take_one (length s.context.line) p m.in_line m.is (t.yes m.item m.passes)
    (none_before t f) (open_one s p)

-- the value behind a key
pub record Behind (s : Situation) (p : ℕ) (text : List ℕ) : Type 0 where
  pub item : Arg
  pub is : open_item s (suc p) ≡ Some item
  pub value : is_value item ≡ true
  pub text_is : item_text item ≡ text
  pub in_line : suc p < length s.context.line

-- the text of a value is that of its item
value_is : (w : Arg) {text : List ℕ} → value_text w ≡ Some text
    → (is_some (value_text w) ≡ true) × (item_text w ≡ text)
value_is x e = grind arith

-- a text behind a key is that of an item there
pub behind_of : (s : Situation) {p : ℕ} {text : List ℕ} → value_after s p ≡ Some text
    → Behind s p text
behind_of s {p} {text} e =
    by_item (open_item s (suc p)) refl
    (ap (λ q. option_and_then value_text (open_item s q)) (sym (add-one p)) ∙ e)
  where
    by_item : (c : Option Arg) → open_item s (suc p) ≡ c → option_and_then value_text c ≡ Some text
        → Behind s p text
    by_item None f h = absurd cc
    by_item (Some w) f h =
        let v = value_is w h in
        record {
          item = w;
          is = f;
          value = v.0;
          text_is = v.1;
          in_line = open_in_line s (suc p) (open_item_there s (suc p) w f).0;
        }

-- where no text is behind a key, no value is there
none_behind : (s : Situation) (p : ℕ) → value_after s p ≡ None → (w : Arg)
    → open_item s (suc p) ≡ Some w → is_value w ≡ true → ⊥
none_behind s p e w f v = grind arith

-- the first match, taken with the value behind it
pub two_taken : {test : Arg → Bool} {r : Roles} (s : Situation) {p : ℕ} {text : List ℕ}
    → ByTest test r WithNext → IsFirst test s p → (m : Match test s p) (b : Behind s p text)
    → TakesFirst r (cells s) (Two m.item b.item) (cells (take_place (take_place s p) (suc p)))
unfolding cells
two_taken s {p} t f m b =
    take_two (length s.context.line) p b.in_line m.is b.is (t.yes m.item m.passes) b.value
    (none_before t f) (open_two s p)

-- the first match heads the pieces as it stands, where no value is behind it
pub bare_taken : {test : Arg → Bool} {r : Roles} {s : Situation} {p : ℕ} → ByTest test r WithNext
    → IsFirst test s p → (m : Match test s p) → value_after s p ≡ None → BareHead r (cells s) m.item
unfolding cells
bare_taken {s} {p} t f m e =
    bare_first (length s.context.line) p m.in_line m.is
    (t.yes m.item m.passes) (none_before t f) (none_behind s p e)

-- the own ones of a role by such a test have one of the names
pub test_owns : {test : Arg → Bool} {names : Names} (own : Role)
    → ((k : Arg) → test k ≡ true → is_key_of names k ≡ true)
    → Owns (λ k. if test k then own else Foreign) (names ∷ [])
test_owns own asks = grind (arith, true_from_ne_false)

-- a piece taken leaves fewer items
pub takes_fewer : {q : Roles} {cs ds : Cells} {o : LinePiece} → TakesPiece q cs o ds
    → present_count ds < present_count cs
takes_fewer (takes_later {c = None} t) = takes_fewer t
takes_fewer (takes_later {c = Some x} t) = let i = takes_fewer t in omega arith
takes_fewer _ = omega arith

-- some pieces taken leave no more
pub takes_some_fewer : {q : Roles} {cs ds : Cells} → TakesPieces q cs ds
    → present_count ds ≤ present_count cs
takes_some_fewer takes_none = omega arith
takes_some_fewer (takes_more t more) = grind (arith, takes_fewer, takes_some_fewer more)

-- the count of a set of places, with the first place set apart
count_first : (set : ℕ → Bool) (n : ℕ) → count_below set (suc n)
    ≡ (if set zero then (count_below (λ p. set (suc p)) n + 1) else count_below
    (λ p. set (suc p)) n)
count_first set zero = refl
count_first set (suc n) = grind (arith, count_first set n)

-- the places at which something stands are as many as the items there
count_cells : (at : ℕ → Option Arg) (n : ℕ)
    → count_below (λ p. is_some (at p)) n ≡ present_count (first_cells at n)
count_cells at zero = refl
count_cells at (suc n) = count_first (λ p. is_some (at p)) n
    ∙ by_head (at zero) _ (count_cells (λ p. at (suc p)) n)
  where
    by_head : (c : Option Arg) {a : ℕ} (cs : Cells) → a ≡ present_count cs
        → (if is_some c then (a + 1) else a) ≡ present_count (c ∷ cs)
    by_head None cs e = e
    by_head (Some x) cs e = omega arith

-- a place that is present and in scope has an item
open_some : (s : Situation) (p : ℕ) → is_open s p ≡ is_some (open_item s p)
open_some s p = by_test (is_open s p) (item_at s p) (λ h. open_has_item s p h)
  where
    by_test : (b : Bool) (at : Option Arg)
        → (b ≡ true → option_map_or any_item (if b then at else None) false ≡ true)
        → b ≡ is_some (if b then at else None)
    by_test true None h = let e = h refl in absurd cc
    by_test _ _ h = refl

-- the count of what is open is that of the cells
pub open_present : (s : Situation) → open_count s ≡ present_count (cells s)
unfolding cells
open_present s =
    count_below-same (is_open s) (λ p. is_some (open_item s p)) (length s.context.line)
    (λ p l. open_some s p) ∙ count_cells (open_item s) (length s.context.line)

-- an open place is counted
pub open_counted : (s : Situation) (p : ℕ) → is_open s p ≡ true → open_count s ≡ 0 → ⊥
open_counted s p there none =
    let some = count_below-some (is_open s) _ p (open_in_line s p there) there in
    omega arith
