-- Products: a field before other fields, the last field, and the constructor; and that a product of
-- named fields keeps to the laws of a named field, so it may stand in another product.
use Rattle.std.proofs.Common.{Result, filter, arith, false, subst, Bool, List, None, Some, refl}
use Rattle.std.proofs.Common.{true, Err, not, sym, ◌∙◌, ◌∷◌, ◌≡◌, Ok, [], ap}
use Rattle.bpaf_base.specs.declared.arg.Arg.{Arg}
use Rattle.bpaf_line.specs.{Situation.with_current, Situation.Situation, declared.error.Error.Error}
use Rattle.bpaf_laws.specs.Product.{ProductOutcome, BothOutcome, both_answers}
use Rattle.bpaf_laws.specs.Reading.{Outcome}
use Rattle.bpaf_exact.proofs.Cuts.{words_of_cut, either_union, nil_foreign, union_named, named_cuts}
use Rattle.bpaf_exact.proofs.Cuts.{keeps_other_some, others_foreign, take_some_from, pieces_of_cut}
use Rattle.bpaf_exact.proofs.Cuts.{put_back_some, value_foreign, either_right, word_foreign, Union}
use Rattle.bpaf_exact.proofs.Cuts.{empty_cut, words_cut, begin_at, nil_rest, both_nil, own_next}
use Rattle.bpaf_exact.proofs.Cuts.{swap_union, takes_left, some_trans, cut_empty, to_second}
use Rattle.bpaf_exact.proofs.Cuts.{to_first, Belongs, belongs, to_none}
use Rattle.bpaf_exact.proofs.Classes.{memory_class}
use Rattle.bpaf_exact.specs.Flat.{FieldsReading, present_count, both_reading, NonePresent, FieldLaw}
use Rattle.bpaf_exact.specs.Flat.{ClosedValue, map_closure, ErrorClass, NoKeysLeft, FieldKind, back}
use Rattle.bpaf_exact.specs.Flat.{FieldTook, FieldsLaw, IsWholeIn, Variables, none_here, HasValue}
use Rattle.bpaf_exact.specs.Flat.{OfMemory, OwnItems, no_place, KeepsTo, portion, Before, ByName}
use Rattle.bpaf_exact.specs.Flat.{Steady, cells, class, front, keys, left}
use Rattle.bpaf_exact.specs.Pieces.{others, passed, pieces, Apart, Cells, Roles, flag, mine, word}
use Rattle.bpaf_exact.specs.Pieces.{argument, no_roles, IsNamed, Foreign, at_end, either, is_own}
use Rattle.bpaf_exact.specs.Pieces.{TakesPieces, is_own_role, takes_more, takes_none, LinePiece}
use Rattle.bpaf_exact.specs.{ProgramForm.last_reading, Pieces.Cut}

-- what isn't taken stays in the scope
pub none_outside_after : {env : Variables} {s t : Situation} → IsWholeIn env s → Steady s t
    → IsWholeIn env t
none_outside_after w k = grind arith

-- nothing has changed
pub steady_refl : {s : Situation} → Steady s s
steady_refl = record { context = refl; start = refl; end = refl; path = refl; keeps = λ p h. h }

-- nothing has changed in two steps
pub steady_trans : {s m t : Situation} → Steady s m → Steady m t → Steady s t
steady_trans a b = grind arith

-- A cut by the keys of others holds no key of one's own.
pub no_own_in_cut : {q r : Roles} {cs : Cells} {os : List LinePiece} → IsNamed q → Apart q r
    → Cut r cs os → pieces q cs ≡ []
no_own_in_cut n a at_end = refl
no_own_in_cut n a (passed c) = no_own_in_cut n a c
no_own_in_cut {q} n a (flag {k} {cs} e c) = grind (arith, begin_at, no_own_in_cut n a c)
no_own_in_cut {q} n a (argument {k} {w} {cs} e v c) =
    grind (arith, begin_at, value_foreign, no_own_in_cut n a c)
no_own_in_cut {q} n a (word {w} {cs} h c) =
    begin_at w cs (pieces q cs) (word_foreign n h) ∙ no_own_in_cut n a c

-- with a piece of others more all are of others
others_all : (q : Roles) {o : LinePiece} {os : List LinePiece} → is_own q o ≡ false
    → others q os ≡ os → others q (o ∷ os) ≡ o ∷ os
others_all q {o} {os} h e = others_foreign q os h ∙ ap (λ z. o ∷ z) e

-- where a field has no piece a cut is one by keys that differ in its own, all pieces of others
recut : {q r : Roles} (p : Roles) {cs : Cells} {os : List LinePiece} → IsNamed q
    → ((k : Arg) → q k ≡ Foreign → p k ≡ r k) → pieces q cs ≡ [] → Cut r cs os
    → Cut p cs os × (others q os ≡ os)
recut p n f none at_end = (at_end, refl)
recut p n f none (passed c) = let i = recut p n f none c in (passed i.0, i.1)
recut {q} p n f none (flag {k} {cs} e c) =
    let g = nil_foreign (q k) k cs (pieces q cs) none in
    let i = recut p n f (nil_rest (q k) k cs none) c in
    (flag (f k g ∙ e) i.0, others_all q (ap is_own_role g) i.1)
recut {q} p n f none (argument {k} {w} {cs} e v c) =
    let g = nil_foreign (q k) k (Some w ∷ cs) (pieces q (Some w ∷ cs)) none in
    let i = recut p n f (nil_rest (q w) w cs (nil_rest (q k) k (Some w ∷ cs) none)) c in
    (argument (f k g ∙ e) v i.0, others_all q (ap is_own_role g) i.1)
recut {q} p n f none (word {w} {cs} h c) =
    let i = recut p n f (nil_rest (q w) w cs none) c in
    (word h i.0, others_all q (ap is_own_role (word_foreign n h)) i.1)

-- What is read off the pieces, seen from before a field was evaluated.

-- a cut from before a field was evaluated, with its portion and what it left
pub record StepBack (k : FieldKind) (q r : Roles) (cs : Cells)
    (after : List LinePiece) : Type 0 where
  pub before : List LinePiece
  pub cut : Cut (either (keys k q) r) cs before
  pub leaves : left k q before ≡ after
  pub own : front k (pieces q cs) ≡ portion k q before

-- of any field
pub step_back : (k : FieldKind) {q r : Roles} {T : Type 0} (value : List LinePiece → T → Type 0)
    {s m : Situation} {v : T} {os : List LinePiece} → OwnItems k q → Before k q r
    → FieldTook T k q value s v m → Cut r (cells m) os → StepBack k q r (cells s) os
step_back ByName {q} {r} value n b f c =
    let w = recut (either q r) n (λ k g. either_right (q k) g) (no_own_in_cut n b c) c in
    let p = put_back_some (named_cuts r n) f.takes w.0 in
    record { before = p.now; cut = p.cut; leaves = p.alike ∙ w.1; own = pieces_of_cut r n p.cut }
step_back k value n b f c =
    let p = put_back_some (words_cut n b) f.takes c in
    let all = words_of_cut n b p.cut in
    record {
      before = p.now;
      cut = p.cut;
      leaves = ap (back k) (sym all) ∙ (sym (f.rest tt) ∙ words_of_cut n b c);
      own = ap (front k) all;
    }

-- a field that left nothing of its own
pub none_left : (k : FieldKind) (q : Roles) {r : Roles} {cs : Cells} {os : List LinePiece}
    → OwnItems k q → Before k q r → Cut r cs os → NoKeysLeft k q cs
none_left x q n b c = grind (arith, no_own_in_cut)

-- The cut after a field was evaluated.

-- a field's own pieces are its portion of the cut
pub own_portion : (k : FieldKind) (q r : Roles) {cs : Cells} {os : List LinePiece} → OwnItems k q
    → Before k q r → Cut (either (keys k q) r) cs os → front k (pieces q cs) ≡ portion k q os
own_portion k q r n b c = grind (arith, pieces_of_cut, words_of_cut)

-- the cut after a field was evaluated
pub step_on : (k : FieldKind) {q r : Roles} {cs ds : Cells} {os : List LinePiece} → OwnItems k q
    → Before k q r → TakesPieces q cs ds → pieces q ds ≡ back k (pieces q cs)
    → Cut (either (keys k q) r) cs os → Cut r ds (left k q os)
step_on ByName {q} {r} n b t e c =
    let p = take_some_from (named_cuts r n) t c in
    let i = recut r n (λ k g. sym (either_right (q k) g)) e p.cut in
    subst (Cut r _) (sym i.1 ∙ p.alike) i.0
step_on k {r} n b t e c =
    let p = take_some_from (words_cut n b) t c in
    subst (Cut r _) (sym (words_of_cut n b p.cut) ∙ (e ∙ ap (back k) (words_of_cut n b c))) p.cut

-- Fields before others keep to the laws.

-- the keys of all are keys
pub both_named : (k : FieldKind) (q : Roles) {r : Roles} → OwnItems k q → IsNamed r
    → IsNamed (either (keys k q) r)
both_named x q n m = grind (arith, either_right)

-- what follows of an answer
abbrev follows : {T : Type 0} → (Situation → T → Situation → Type 0)
    → (Situation → ErrorClass → Type 0) → Situation → Result T Error → Situation → Type 0
follows gave refused s (Ok v) t = gave s v t
follows gave refused s (Err e) t = refused s (class e)

-- A field and what is evaluated after it keep to what follows of an answer of each; and so does a
-- refusal, which is want of memory, or that of the first.
module _ {env : Variables} {A B : Type 0} {first : Outcome A} {rest : Outcome B} {k : FieldKind}
    {q : Roles} {fv : List LinePiece → A → Type 0} {gives : Situation → B → Situation → Type 0}
    {refuses : Situation → ErrorClass → Situation → Type 0} (lf : FieldLaw env A first k q fv)
    (lr : KeepsTo env B rest gives refuses) (gave : Situation → A × B → Situation → Type 0)
    (refused : Situation → ErrorClass → Type 0)
    (of_both : (s m t : Situation) (x : A) (y : B) → FieldTook A k q fv s x m → gives m y t
    → gave s (x, y) t)
    (of_first : (s : Situation) (c : ErrorClass)
    → ((w : A) → fv (front k (pieces q (cells s))) w → c ≡ OfMemory) → refused s c)
    (of_rest : (s m t : Situation) (x : A) (c : ErrorClass) → FieldTook A k q fv s x m
    → refuses m c t → refused s c) where
  -- by the answers of both
  of_joined : {s m t : Situation} (a : Result A Error) (b : Result B Error) → IsWholeIn env s
      → first s a m → rest m b t → follows gave refused s (both_answers a b) t
  of_joined x y w f g = grind (arith, memory_class, none_outside_after)

  -- the laws
  pub both_keeps : KeepsTo env (A × B) (BothOutcome first rest) gave (λ s c t. refused s c)
  both_keeps = grind (arith, of_joined, memory_class)

module _ {env : Variables} {A B : Type 0} {first : Outcome A} {rest : Outcome B} {k : FieldKind}
    {q r : Roles} {fv : List LinePiece → A → Type 0} {others_read : FieldsReading B}
    (lf : FieldLaw env A first k q fv) (lr : FieldsLaw env B rest r others_read)
    (b : Before k q r) where
  -- how both read the pieces
  abbrev reading : FieldsReading (A × B)
  reading = both_reading k q fv others_read

  -- where each field has a value, so has the first on its own pieces
  own_value : (s : Situation) {os : List LinePiece} → Cut (either (keys k q) r) (cells s) os
      → (h : HasValue fv (portion k q os)) → fv (front k (pieces q (cells s))) h.0
  own_value s c h = rw (own_portion k q r lf.own b c) h.1

  -- what the first leaves is cut into what it leaves of the pieces
  rest_cut : {s m : Situation} {x : A} {os : List LinePiece} → FieldTook A k q fv s x m
      → Cut (either (keys k q) r) (cells s) os → HasValue fv (portion k q os)
      → Cut r (cells m) (left k q os)
  rest_cut {s} i c h = step_on k lf.own b i.takes (i.rest (i.all h.0 (own_value s c h))) c

  -- a flat field before flat fields: together they keep to the laws
  pub both_law : FieldsLaw env (A × B) (BothOutcome first rest) (either (keys k q) r) reading
  both_law = record {
    named = both_named k q lf.own lr.named;
    has_each = λ os v h. ((v.0, h.0), lr.has_each (left k q os) v.1 h.1);
    keeps = both_keeps lf lr.keeps _ _ (λ s m t x y i j. record {
      steady = steady_trans i.steady j.steady;
      read = λ e.
          let after = j.read e in
          let p = step_back k fv lf.own b i after.cut in record {
            cut_into = p.before;
            cut = p.cut;
            read = (
              rw (← p.own) (i.read (none_left k q lf.own b after.cut)),
              rw p.leaves after.read,
            );
          };
      all = λ os c g. j.all (left k q os) (rest_cut i c g.0) g.1;
    }) (λ s c no os d h. no h.0.0 (own_value s d h.0))
        (λ s m t x c i no os d h. no (left k q os) (rest_cut i d h.0) h.1);
  }

-- Nothing is present where the count is nought.
pub none_counted : (cs : Cells) → present_count cs ≡ 0 → NonePresent cs
none_counted [] e = no_place
none_counted (None ∷ cs) e = none_here (none_counted cs e)
none_counted (Some x ∷ cs) e = absurd (omega arith)

-- The count is nought where nothing is present.
pub count_none : {cs : Cells} → NonePresent cs → present_count cs ≡ 0
count_none no_place = refl
count_none (none_here n) = count_none n

-- The last field of a product, or a record of one field alone.
module _ {env : Variables} {T : Type 0} {outcome : Outcome T} {k : FieldKind} {q : Roles}
    {value : List LinePiece → T → Type 0} (l : FieldLaw env T outcome k q value) where
  -- a field may stand before none
  pub before_none : Before k q no_roles
  before_none = grind arith

  -- where the field has a value on its pieces, it has one on those of the cells
  last_value : (s : Situation) {os : List LinePiece} → Cut (either (keys k q) no_roles) (cells s) os
      → (h : HasValue value (portion k q os)) → value (front k (pieces q (cells s))) h.0
  last_value s c h = rw (own_portion k q no_roles l.own before_none c) h.1

  -- a last field keeps to the laws of a list of fields
  pub last_law : FieldsLaw env T outcome (either (keys k q) no_roles) (last_reading k q value)
  last_law = record {
    named = both_named k q l.own (record { only_keys = λ a h. refl });
    has_each = λ os v h. ((v, h.0), h.1);
    keeps = record {
      ok = λ s t v w o.
          let i = l.keeps.ok s t v w o in
          record {
            steady = i.steady;
            read = λ n.
                let c = empty_cut n in
                let p = step_back k value l.own before_none i c in
                record {
                  cut_into = p.before;
                  cut = p.cut;
                  read = (rw (← p.own) (i.read (none_left k q l.own before_none c)), p.leaves);
                };
            all = λ os c h. cut_empty
                (step_on k l.own before_none i.takes (i.rest (i.all h.0.0 (last_value s c h.0))) c)
                h.1;
          };
      err = λ s t e w o os c h. l.keeps.err s t e w o h.0.0 (last_value s c h.0);
    };
  }

-- The constructor of a product.

-- which place is current is nothing to the cells
pub current_cells : (s : Situation) → cells (with_current s None) ≡ cells s
unfolding cells
current_cells s = refl

-- a step that takes the same is as steady, whichever place is current
pub same_steady : {s t : Situation} → Steady s t → Steady s (with_current t None)
same_steady a = grind arith

-- what a constructor makes of the values of fields keeps to what follows of each answer of theirs
pub con_keeps : {env : Variables} {A B : Type 0} {fields : Outcome A} {makes : A → B → Type 0}
    {gives : Situation → A → Situation → Type 0} {gave : Situation → B → Situation → Type 0}
    {refuses refused : Situation → ErrorClass → Situation → Type 0}
    → KeepsTo env A fields gives refuses → ((s m : Situation) (x : A) (v : B) → gives s x m
    → makes x v → gave s v (with_current m None))
    → ((s m : Situation) (c : ErrorClass) → refuses s c m → refused s c (with_current m None))
    → KeepsTo env B (ProductOutcome fields makes) gave refused
con_keeps l answers fails = grind arith

-- a product with its constructor keeps to the laws of a list of fields
pub con_law : {env : Variables} {A B : Type 0} {fields : Outcome A} (makes : A → B → Type 0)
    {r : Roles} {reading : FieldsReading A} → FieldsLaw env A fields r reading
    → FieldsLaw env B (ProductOutcome fields makes) r (record {
      value = ClosedValue reading.value (map_closure makes);
      each = reading.each;
    })
unfolding cells
con_law makes l = record {
  named = l.named;
  has_each = λ os v h. l.has_each os h.from h.read;
  keeps = con_keeps l.keeps (λ s m x v i y. record {
    steady = same_steady i.steady;
    read = λ n. let a = i.read n in record {
      cut_into = a.cut_into;
      cut = a.cut;
      read = record { from = x; read = a.read; made = y };
    };
    all = i.all;
  }) (λ s m c refuses. refuses);
}

-- The pieces of two fields together.

-- Where a test keeps the pieces of a field's own items alone, those are the field's.
module _ (p q r : Roles) (test : LinePiece → Bool) where
  -- what it makes of the pieces that begin with an item
  data Kept (k : Arg) : Type 0 where
    kept : r k ≡ q k → ((o : LinePiece) → is_own p o ≡ is_own_role (p k) → test o ≡ true) → Kept k
    passed_by : q k ≡ Foreign → ((o : LinePiece) → is_own p o ≡ is_own_role (p k) → test o ≡ false)
        → Kept k

  -- what it makes of all pieces
  kept_pieces : ((k : Arg) → Kept k) → (cs : Cells) → filter test (pieces r cs) ≡ pieces q cs
  kept_pieces each [] = refl
  kept_pieces each (None ∷ cs) = kept_pieces each cs
  kept_pieces each (Some k ∷ cs) = grind (arith, begin_at, own_next, kept_pieces each cs)

module _ {p q r : Roles} (u : Union p q r) where
  -- of the pieces of both the first one's are its own
  pub mine_of_both : (cs : Cells) → mine p (pieces r cs) ≡ pieces p cs
  mine_of_both = grind (arith, Belongs, belongs, kept_pieces, to_first, to_none, to_second)

  -- of the pieces of both those of others than the first are the second one's
  pub others_of_both : (cs : Cells) → others p (pieces r cs) ≡ pieces q cs
  others_of_both = kept_pieces p q r (λ o. not (is_own p o)) (λ k. by_owner (belongs u))
    where
      by_owner : {k : Arg} → Belongs p q r k → Kept p q r (λ o. not (is_own p o)) k
      by_owner (to_first h g f) = passed_by f (λ o e. ap not (e ∙ h))
      by_owner (to_second h g f) = kept g (λ o e. ap not (e ∙ ap is_own_role f))
      by_owner (to_none f g h) = kept (h ∙ sym g) (λ o e. ap not (e ∙ ap is_own_role f))

  -- what the first takes both take
  takes_some_left : {cs ds : Cells} → TakesPieces p cs ds → TakesPieces r cs ds
  takes_some_left takes_none = takes_none
  takes_some_left (takes_more t more) = takes_more (takes_left u t) (takes_some_left more)

-- A named field before other named fields.
module _ {env : Variables} {A B : Type 0} {first : Outcome A} {rest : Outcome B} {q r : Roles}
    {fv : List LinePiece → A → Type 0} (read : FieldsReading B)
    (lf : FieldLaw env A first ByName q fv)
    (lr : FieldLaw env B rest ByName r read.value) (apart : Apart q r) where
  -- the values of both
  abbrev value : List LinePiece → A × B → Type 0
  value = (both_reading ByName q fv read).value

  -- the items of both
  abbrev both : Roles
  both = either q r

  together : Union q r both
  together = either_union lf.own lr.own apart

  -- a value of both on the pieces of both is one of each on its own
  each_value : (cs : Cells) {v : A × B} → value (pieces both cs) v
      → fv (pieces q cs) v.0 × read.value (pieces r cs) v.1
  each_value cs h = (rw (← mine_of_both together cs) h.0, rw (← others_of_both together cs) h.1)

  -- where both have a value, so have the others after the first
  rest_value : {s m : Situation} {x : A} {u : A × B} → FieldTook A ByName q fv s x m
      → value (pieces both (cells s)) u → read.value (pieces r (cells m)) u.1
  rest_value {s} i h = rw (keeps_other_some lf.own lr.own apart i.takes) (each_value (cells s) h).1

  -- together they keep to the laws of a named field
  pub named_both_law : FieldLaw env (A × B) (BothOutcome first rest) ByName both value
  named_both_law = record {
    own = union_named together;
    keeps = both_keeps lf lr.keeps _ _ (λ s m t x y i j. record {
      steady = steady_trans i.steady j.steady;
      takes = some_trans (takes_some_left together i.takes)
          (takes_some_left (swap_union together) j.takes);
      read = λ none. (
        rw (mine_of_both together (cells s)) (i.read (sym
            (grind (arith, keeps_other_some, j.takes))
            ∙ (sym (mine_of_both together (cells t)) ∙ ap (mine q) none))),
        rw
            (others_of_both together (cells s)) (rw (← keeps_other_some lf.own lr.own apart i.takes)
            (j.read (sym (others_of_both together (cells t)) ∙ ap (others q) none))),
      );
      rest = λ none. none;
      all = λ u h. both_nil (cells t) together
          ((grind (arith, keeps_other_some, j.takes)) ∙ i.all u.0 (each_value (cells s) h).0)
          (j.all u.1 (rest_value i h));
    }) (λ s c no u h. no u.0 (each_value (cells s) h).0)
        (λ s m t x c i no u h. no u.1 (rest_value i h));
  }

-- no item is nobody's own
pub none_of_nobody : (cs : Cells) → pieces no_roles cs ≡ []
none_of_nobody [] = refl
none_of_nobody (None ∷ cs) = none_of_nobody cs
none_of_nobody (Some k ∷ cs) = none_of_nobody cs

-- The last of named fields.
module _ {env : Variables} {T : Type 0} {outcome : Outcome T} {q : Roles}
    {value : List LinePiece → T → Type 0} (l : FieldLaw env T outcome ByName q value) where
  -- its items
  abbrev alone : Roles
  alone = either q no_roles

  by_itself : Union q no_roles alone
  by_itself = either_union l.own (record { only_keys = λ k h. refl }) (before_none l)

  -- a last field keeps to the laws of a named one
  pub named_last_law : FieldLaw env T outcome ByName alone (last_reading ByName q value).value
  named_last_law = record {
    own = union_named by_itself;
    keeps = record {
      ok = λ s t v w o.
          let i = l.keeps.ok s t v w o in
          record {
            steady = i.steady;
            takes = takes_some_left by_itself i.takes;
            read = λ none. (
              rw (mine_of_both by_itself (cells s))
                  (i.read (sym (mine_of_both by_itself (cells t)) ∙ ap (mine q) none)),
              others_of_both
                  by_itself (cells s) ∙ none_of_nobody (cells s),
            );
            rest = λ none. none;
            all = λ u h. both_nil (cells t) by_itself
                (i.all u (rw (← mine_of_both by_itself (cells s)) h.0)) (none_of_nobody (cells t));
          };
      err = λ s t e w o u h. l.keeps.err s t e w o u (rw (← mine_of_both by_itself (cells s)) h.0);
    };
  }

-- with its constructor a product of named fields keeps to the laws of a named field
pub named_con_law : {env : Variables} {A B : Type 0} {fields : Outcome A} (makes : A → B → Type 0)
    {q : Roles} {value : List LinePiece → A → Type 0} → FieldLaw env A fields ByName q value
    → FieldLaw env B (ProductOutcome fields makes) ByName q (ClosedValue value (map_closure makes))
unfolding cells
named_con_law makes l = record {
  own = l.own;
  keeps = con_keeps l.keeps (λ s m x v i y. record {
    steady = same_steady i.steady;
    takes = i.takes;
    read = λ none. record { from = x; read = i.read none; made = y };
    rest = i.rest;
    all = λ u h. i.all h.from h.read;
  }) (λ s m c refuses u h. refuses h.from h.read);
}
