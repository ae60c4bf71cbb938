-- What keys take, and the laws of positional words.
use Rattle.std.proofs.Common.{option_and_then, add-one, arith, false, subst, Bool, List, None, Some}
use Rattle.std.proofs.Common.{refl, true, ◌++◌, Err, not, sym, ◌∙◌, ◌∷◌, ◌≡◌, Ok, [], ap, ℕ}
use Rattle.std.proofs.lemmas.Bool.{and_parts}
use Rattle.bpaf_base.specs.Items.{is_positional, is_key_of, item_text, word_text}
use Rattle.bpaf_base.specs.declared.arg.Arg.{Arg}
use Rattle.bpaf_doc.specs.{Names.Names}
use Rattle.bpaf_text.specs.Named.{KeyWithValue}
use Rattle.bpaf_line.specs.{Taking.TakesText, Situation.Situation, declared.error.Error.Error}
use Rattle.bpaf_line.proofs.Places.{open_item_there}
use Rattle.bpaf_laws.specs.Leaves.{TakesKeyWithText, is_key_with_value, HasNoKey}
use Rattle.bpaf_exact.proofs.Names.{of_front_more, of_front_one, each_front, front_more, back_more}
use Rattle.bpaf_exact.proofs.Names.{front_nil, front_one, back_one}
use Rattle.bpaf_exact.proofs.Places.{take_steady, test_named, behind_of, no_pieces, one_taken}
use Rattle.bpaf_exact.proofs.Places.{test_owns, two_taken, match_of, by_test}
use Rattle.bpaf_exact.proofs.{Product.steady_trans, Cuts.never_two, Cuts.begin_at, Cuts.first_takes}
use Rattle.bpaf_exact.specs.Flat.{first_later, EachWord, TakesFirst, WordByWord, first_one}
use Rattle.bpaf_exact.specs.Flat.{first_two, of_piece, OneWord, FrontOf, of_missing, catch_missing}
use Rattle.bpaf_exact.specs.Flat.{catch_other, ByName, Steady, Groups, gap_of, cells, class, front}
use Rattle.bpaf_exact.specs.Flat.{back, Variables, is_behind, SingleErr, SingleLaw, of_memory}
use Rattle.bpaf_exact.specs.Flat.{TookGroup}
use Rattle.bpaf_exact.specs.ProgramForm.{argument_roles, pure_field, word_fault, CellsValue}
use Rattle.bpaf_exact.specs.ProgramForm.{word_missing, word_memory, word_passed, WordValue}
use Rattle.bpaf_exact.specs.ProgramForm.{word_read, WordEval, FormLaw, word_by}
use Rattle.bpaf_exact.specs.Pieces.{stands_behind, word_roles, LinePiece, WithNext, IsNamed, pieces}
use Rattle.bpaf_exact.specs.Pieces.{Cells, Roles, Owns, One, Two, takes_none}
use Rattle.bpaf_exact.specs.Says.{of_kind, Says}

-- Arguments.

-- the last element of a list is one
pub last_same : {T : Type 0} (xs ys : List T) {v w : T} → xs ++ (v ∷ []) ≡ ys ++ (w ∷ []) → v ≡ w
last_same [] [] e = cc
last_same [] (y ∷ []) e = absurd cc
last_same [] (y ∷ (z ∷ ys)) e = absurd cc
last_same (x ∷ []) [] e = absurd cc
last_same (x ∷ (z ∷ xs)) [] e = absurd cc
last_same (x ∷ xs) (y ∷ ys) e = last_same xs ys cc

-- the first key of some roles and its value, which has this text, are the first piece
pub record TookPair (q : Roles) (s t : Situation) (text : List ℕ) : Type 0 where
  pub key : Arg
  pub word : Arg
  pub text_is : item_text word ≡ text
  pub takes : TakesFirst q (cells s) (Two key word) (cells t)
  pub steady : Steady s t

module _ (argument : KeyWithValue) where
  -- the items of the argument
  abbrev q : Roles
  q = argument_roles argument.adjacent argument.named.names

  -- they are keys
  pub named : IsNamed q
  named = grind (arith, and_parts, test_named)

  -- with its names
  pub owns : Owns q (argument.named.names ∷ [])
  owns = test_owns WithNext (λ k e. (and_parts (is_key_of argument.named.names k) _ e).0)

  -- a key that was taken with its text
  pub took_pair : (s t : Situation) (text : List ℕ) → TakesKeyWithText argument s text t
      → TookPair q s t text
  took_pair s t text takes =
      let m = match_of (is_key_with_value argument) s takes.key takes.first.matches in
      let b = behind_of s takes.value in
      rw (takes.taken, add-one) (record {
        key = m.item;
        word = b.item;
        text_is = b.text_is;
        takes = two_taken s by_test takes.first m b;
        steady = steady_trans take_steady take_steady;
      })

  -- no key: there is no piece
  pub no_key : (s : Situation) → HasNoKey argument s → pieces q (cells s) ≡ []
  no_key s none = no_pieces s by_test none

-- Positional words.

-- the text and the side of a word are those of its item
pub word_is : (w : Arg) (strict : Bool) (text : List ℕ) → word_text w ≡ Some (strict, text)
    → (item_text w ≡ text) × (stands_behind w ≡ strict)
word_is w strict text e = grind arith

-- a field that stops takes none behind `--`
passed_by : (b : Bool) → b ≡ true → (o : LinePiece) (os : List LinePiece) → is_behind o ≡ true
    → front (OneWord b) (o ∷ os) ≡ []
passed_by b h o os behind = grind (arith, each_front)

-- a positional
module _ {T : Type 0} {b : Bool} {value : LinePiece → T → Type 0}
    (clear : b ≡ true → (o : LinePiece) (v : T) → value o v → is_behind o ≡ false) where
  -- the first word and its value
  abbrev group : Groups T
  group = FrontOf T value

  -- the first word heads the pieces
  word_pieces : {cs ds : Cells} {o : LinePiece} → TakesFirst word_roles cs o ds
      → pieces word_roles cs ≡ o ∷ pieces word_roles ds
  word_pieces (first_one {k} {cs} e) = begin_at k cs (pieces word_roles cs) e
  word_pieces (first_two {k} e v) = absurd (never_two (record { words = λ k. refl }) e)
  word_pieces (first_later {c = None} h t) = word_pieces t
  word_pieces (first_later {c = Some k} {cs} {ds} h t) =
      let a = begin_at k cs (pieces word_roles cs) h in
      let b = begin_at k ds (pieces word_roles ds) h in
      let i = word_pieces t in
      cc

  -- the first word is the first piece
  record TookWord (s t : Situation) (strict : Bool) (text : List ℕ) : Type 0 where
    word : Arg
    text_is : word_text word ≡ Some (strict, text)
    takes : TakesFirst word_roles (cells s) (One word) (cells t)
    steady : Steady s t

  -- a word that was taken
  took_word : {s t : Situation} {p : ℕ} {strict : Bool} {text : List ℕ}
      → TakesText s p strict text t → TookWord s t strict text
  took_word {s} {p} takes =
      let m = match_of is_positional s p takes.first.matches in
      let at = (open_item_there s p m.item m.is).1 in
      rw takes.taken (record {
        word = m.item;
        text_is = sym (ap (option_and_then word_text) at) ∙ takes.is;
        takes = one_taken by_test takes.first m;
        steady = take_steady;
      })

  -- a word that may be taken is
  some_front : (w : Arg) (os : List LinePiece) → (b ≡ true → stands_behind w ≡ false)
      → front (OneWord b) (One w ∷ os) ≡ [] → ⊥
  some_front w os may none = let e = front_one b (One w) os may in absurd cc

  -- a value is that of the first word
  word_ok : (s t : Situation) (v : T) → WordEval T b value s (Ok v) t
      → TookGroup T word_roles group s v t
  word_ok s t v (word_read takes y) =
      let m = took_word takes in record {
        steady = m.steady;
        takes = record {
          piece = One m.word;
          middle = cells t;
          one = first_takes m.takes;
          more = takes_none;
        };
        read = (One m.word, word_pieces m.takes, y m.word m.text_is);
      }

  -- a refusal: no word, one that may not be taken, or one without a value
  word_err : (s t : Situation) (e : Error) → WordEval T b value s (Err e) t
      → SingleErr T b word_roles group s (class e) t
  word_err s t e (word_fault {strict} {text} takes before n c) =
      let m = took_word takes in
      let is = word_pieces m.takes in
      of_piece c (λ none. some_front m.word _
      (λ h. (word_is m.word strict text m.text_is).1 ∙ before h)
      (sym (ap (front (OneWord b)) is) ∙ none)) (λ w rest g.
      let first : g.0 ≡ One m.word = let f = g.1 in cc in
      n m.word w m.text_is (subst (λ o. value o w) first g.2))
  word_err s t e (word_missing none c) = of_missing (catch_missing c)
      (ap (front (OneWord b)) (no_pieces s by_test none) ∙ front_nil (OneWord b)) (λ missing. refl)
  word_err s t e (word_passed {text} h takes c) =
      let m = took_word takes in
      of_missing (catch_other c) (ap (front (OneWord b)) (word_pieces m.takes)
      ∙ passed_by b h (One m.word) (pieces word_roles (cells t))
      (word_is m.word true text m.text_is).1) (λ missing. absurd cc)
  word_err s t e (word_memory c) = of_memory c

  -- the first word alone is read, and by a repeat each
  one_by_one : WordByWord T b group
  one_by_one = record {
    by_front = λ os v rest g. let may : b ≡ true → is_behind g.0 ≡ false = λ h. clear h g.0
        v g.2 in (
          (g.0, ap (front (OneWord b)) g.1 ∙ front_one b g.0 rest may, g.2),
          sym (ap (back (OneWord b)) g.1 ∙ back_one b g.0 may),
        );
    of_front = λ os v g. (g.0, of_front_one b os g.0 g.1, g.2);
    by_each = λ os v rest g. let may : b ≡ true → is_behind g.0 ≡ false = λ h. clear h g.0
        v g.2 in (
          (g.0, ap (front (EachWord b)) g.1 ∙ front_more rest may, g.2),
          sym (ap (back (EachWord b)) g.1 ∙ back_more g.0 rest may),
        );
    of_each = λ os v rest g. let more = of_front_more b os g.0 g.1 in
        (more.0, (g.0, more.1, g.2), more.2);
  }

  -- a word keeps to the laws of one evaluation
  word_law : {env : Variables} → SingleLaw env T (WordEval T b value) b word_roles group
      (gap_of value None)
  word_law = record {
    own = record { words = λ k. refl };
    words = one_by_one;
    is = record { starts = λ v rest g. let e = g.1 in cc; no_absent = λ v h a. a };
    none = refl;
    keeps = record { ok = λ s t v w o. word_ok s t v o; err = λ s t e w o. word_err s t e o };
  }

-- where no word behind `--` is accepted, one that is stands before it
pub stands_before : (accepts : Bool → Bool) → not (accepts true) ≡ true → (behind : Bool)
    → accepts behind ≡ true → behind ≡ false
stands_before accepts stops b on = grind arith

-- a positional keeps to the laws of its form
pub word_by_law : (env : Variables) (T : Type 0) (accepts : Bool → Bool)
    (means : List ℕ → T → Type 0)
    → FormLaw env (WordEval T (not (accepts true)) (WordValue accepts means)) [] []
    (word_by accepts means)
word_by_law env T accepts means =
    record { by = (word_law clear, record { own = λ k e. absurd cc }) }
  where
    clear : not (accepts true) ≡ true → (o : LinePiece) (v : T) → WordValue accepts means o v
        → is_behind o ≡ false
    clear stops (One w) v y = stands_before accepts stops (stands_behind w) y.0
    clear stops (Two k w) v y = absurd y

-- Kept values.

-- its value says what it is, whatever the pieces are
pub pure_says : {T : Type 0} {names : List Names} {cells : CellsValue T} (given : T → Type 0)
    → Says names (pure_field given) (of_kind ByName) false (λ os v. given v) cells
pure_says given = record { by = (refl, refl, λ os v all h. h) }
