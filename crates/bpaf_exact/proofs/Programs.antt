-- A command over a program, and a named field before what ends in commands, keep to the laws.
use Rattle.std.proofs.Common.{if◌then◌else◌, true≢false, bytes_eq, Option, length, ⊎_elim, arith, ℕ}
use Rattle.std.proofs.Common.{false, subst, List, None, Some, refl, true, zero, ◌&&◌, Err, inl, inr}
use Rattle.std.proofs.Common.{not, suc, sym, ◌<◌, ◌∙◌, ◌∷◌, ◌≡◌, ◌≤◌, Ok, [], ap}
use Rattle.std.proofs.lemmas.Bool.{false_from_ne_true, cases_Bool, cases_lt}
use Rattle.std.proofs.{lemmas.Slice.Eq.bytes_eq-Decides, lemmas.Bool.Decides.nat_tests}
use Rattle.std.proofs.lemmas.List.{length_push}
use Rattle.std.specs.{Option.option_map_or, List.list_any}
use Rattle.bpaf_base.specs.declared.arg.Arg.TheVariants.{Short, Long}
use Rattle.bpaf_base.specs.{declared.arg.Arg.Arg, Items.any_item, Items.is_key}
use Rattle.bpaf_line.proofs.Places.{open_item_there, match_is_open, open_in_scope, taken_other}
use Rattle.bpaf_line.proofs.Places.{taken_stays, taken_here}
use Rattle.bpaf_line.specs.Situation.{Situation, in_scope, is_taken, item_at, open_count}
use Rattle.bpaf_line.specs.{declared.error.Error.Error, Taking.open_item}
use Rattle.bpaf_laws.specs.Command.{opening_words, IsNotOpened, IsOpenedAt, is_one_of, Called}
use Rattle.bpaf_laws.specs.Command.{inside}
use Rattle.bpaf_laws.specs.{Product.ProductOutcome, Product.BothOutcome, Reading.Outcome}
use Rattle.bpaf_exact.proofs.Product.{no_own_in_cut, count_none, both_keeps, con_keeps}
use Rattle.bpaf_exact.proofs.Cuts.{value_foreign, nil_foreign, begin_at, nil_rest, one_take}
use Rattle.bpaf_exact.proofs.Places.{open_present, closed_item, same_item, TakenOne, match_of}
use Rattle.bpaf_exact.proofs.Names.{apart_second, apart_first, both_hold}
use Rattle.bpaf_exact.proofs.{Commands.has_item, Places.take_one}
use Rattle.bpaf_exact.specs.Flat.{FieldsReading, first_cells, ClosedValue, map_closure, first_later}
use Rattle.bpaf_exact.specs.Flat.{TakesFirst, FieldTook, FieldsLaw, IsWholeIn, Variables, first_one}
use Rattle.bpaf_exact.specs.Flat.{FieldLaw, OfMemory, ReadOff, ByName, NotOwn, cells, class}
use Rattle.bpaf_exact.specs.Pieces.{takes_argument, TakesPieces, empty_stays, other_stays, no_cells}
use Rattle.bpaf_exact.specs.Pieces.{LinePiece, takes_one, takes_two, IsNamed, either, Alone}
use Rattle.bpaf_exact.specs.Pieces.{takes_later, takes_more, takes_none, TakesPiece, takes_flag}
use Rattle.bpaf_exact.specs.Pieces.{pieces, Apart, Cells, Roles, Takes, One, Two}
use Rattle.bpaf_exact.specs.ProgramForm.{FindsNoCommand, command_memory, IsSpelledLine, CommandEval}
use Rattle.bpaf_exact.specs.ProgramForm.{command_leftover, command_missing, command_refused, Opens}
use Rattle.bpaf_exact.specs.ProgramForm.{ProgramTook, opens_later, AllSpelled, CellsValue, no_cell}
use Rattle.bpaf_exact.specs.ProgramForm.{ProgramLaw, empty_cell, is_spelled, opens_here, FieldThen}
use Rattle.bpaf_exact.specs.ProgramForm.{command_value, CommandValue, spelled_cell, CommandsLaw}
use Rattle.bpaf_exact.specs.ProgramForm.{OpensNone, are_plain, is_dashed}
use Rattle.bpaf_laws.specs.Choice.{depth}

-- A command's word on cells.

-- the first thing taken opens, where it is a word
first_opens : {words : List (List ℕ)} {cs ds : Cells} {k : Arg} → is_one_of words k ≡ true
    → TakesFirst (λ item. Alone) cs (One k) ds → Opens words cs ds
first_opens h (first_one e) = opens_here h
first_opens h (first_later {c = None} n t) = opens_later (first_opens h t)
first_opens h (first_later {c = Some j} n t) = absurd cc

-- what a word leaves is decided by the cells
pub opens_one : (words : List (List ℕ)) {cs ds es : Cells} → Opens words cs ds → Opens words cs es
    → ds ≡ es
opens_one words (opens_here h) (opens_here i) = refl
opens_one words (opens_later o) (opens_later p) = ap (λ z. None ∷ z) (opens_one words o p)

-- where the first thing stands that is a word
abbrev FirstWord : List (List ℕ) → (ℕ → Option Arg) → ℕ → Type 0
FirstWord words at n =
    (p : ℕ) × (k : Arg) × (p < n) × (at p ≡ Some k) × (is_one_of words k ≡ true)
    × ((q : ℕ) → q < p → at q ≡ None)

-- cells that a word opens have it as their first thing
word_of : {words : List (List ℕ)} {at : ℕ → Option Arg} (n : ℕ) {ds : Cells}
    → Opens words (first_cells at n) ds → FirstWord words at n
word_of zero o = elim o [ ]
word_of {words} {at} (suc n) o = by_head (at zero) refl o (λ fs. word_of n)
  where
    by_head : (c : Option Arg) → at zero ≡ c → {es : Cells}
        → Opens words (c ∷ first_cells (λ q. at (suc q)) n) es
        → ((fs : Cells) → Opens words (first_cells (λ q. at (suc q)) n) fs → FirstWord words
        (λ q. at (suc q)) n) → FirstWord words at (suc n)
    by_head (Some k) e (opens_here h) behind =
        (zero, k, omega arith, e, h, λ q l. absurd (omega arith))
    by_head None e (opens_later {ds = fs} o) behind =
        let w = behind fs o in
        let l = w.2 in
        (suc w.0, w.1, omega arith, w.3, w.4, later w.5)
      where
        later : {p : ℕ} → ((q : ℕ) → q < p → at (suc q) ≡ None) → (q : ℕ) → q < suc p → at q ≡ None
        later before zero l = e
        later before (suc q) l = before q (omega arith)

-- What a command's word is.

-- a plain word isn't dashed
plain_word : (words : List (List ℕ)) → are_plain words ≡ true → (word : List ℕ)
    → is_dashed word ≡ true → list_any (λ own. bytes_eq word own) words ≡ false
plain_word words plain word dashed = false_from_ne_true (list_any (λ own. bytes_eq word own) words)
    (both_hold (λ own. not (is_dashed own)) (λ own. bytes_eq word own) (λ own t same.
    true≢false (sym (rw ((bytes_eq-Decides word own).0 same) t) ∙ ap not dashed)) words plain)

-- a key is none of a list of plain words
pub no_key : (words : List (List ℕ)) → are_plain words ≡ true → (k : Arg) → is_spelled k ≡ true
    → is_one_of words k ≡ true → is_key k ≡ false
no_key words plain (Short c attached word) s h =
    absurd (true≢false (sym h ∙ plain_word words plain word s))
no_key words plain (Long name true word) s h = absurd (true≢false (sym h ∙ none words))
  where
    none : (words : List (List ℕ)) → list_any (λ (own : List ℕ). false) words ≡ false
    none [] = refl
    none (w ∷ ws) = none ws
no_key words plain (Long name false word) s h =
    absurd (true≢false (sym h ∙ plain_word words plain word s))
no_key words plain _ s h = refl

-- a word isn't a named field's own, and so the field has the same pieces behind it
opens_pieces : {words : List (List ℕ)} {q : Roles} → are_plain words ≡ true → IsNamed q
    → {cs ds : Cells} → AllSpelled cs → Opens words cs ds → pieces q cs ≡ pieces q ds
opens_pieces plain n no_cell o = elim o [ ]
opens_pieces {words} {q} plain n (spelled_cell s a) (opens_here {k} {cs} h) =
    begin_at k cs (pieces q cs) (n.only_keys k (no_key words plain k s h))
opens_pieces plain n (empty_cell a) (opens_later o) = opens_pieces plain n a o

-- what is behind it is spelled
opens_spelled : {words : List (List ℕ)} {cs ds : Cells} → AllSpelled cs → Opens words cs ds
    → AllSpelled ds
opens_spelled no_cell o = elim o [ ]
opens_spelled (spelled_cell s a) (opens_here h) = empty_cell a
opens_spelled (empty_cell a) (opens_later o) = empty_cell (opens_spelled a o)

-- the first items are spelled
first_spelled : {at : ℕ → Option Arg} (n : ℕ)
    → ((p : ℕ) (k : Arg) → at p ≡ Some k → is_spelled k ≡ true) → AllSpelled (first_cells at n)
first_spelled zero all = no_cell
first_spelled {at} (suc n) all = by_cell (at zero) (all zero) (first_spelled n (λ p. all (suc p)))
  where
    by_cell : (c : Option Arg) → ((k : Arg) → c ≡ Some k → is_spelled k ≡ true) → {cs : Cells}
        → AllSpelled cs → AllSpelled (c ∷ cs)
    by_cell None f a = empty_cell a
    by_cell (Some k) f a = spelled_cell (f k refl) a

-- all that is present on a line is
pub cells_spelled : (s : Situation) → IsSpelledLine s.context → AllSpelled (cells s)
unfolding cells
cells_spelled s all = grind (arith, first_spelled, open_item_there)

-- A command's word in a situation.

module _ (called : Called) (s : Situation) (p : ℕ)
    (at : IsOpenedAt (opening_words called) s p) where
  -- behind the word
  abbrev behind : Situation
  behind = inside called s p

  -- nothing is open before it
  none_before : (q : ℕ) → q < p → open_item s q ≡ None
  none_before q l = grind (arith, at.first.first q l)

  -- what is open behind it
  behind_one : TakenOne (open_item s) (open_item behind) p
  behind_one = record {
    gone = closed_item behind p (taken_here s p);
    others = λ q other. ⊎_elim (λ (before : q < p).
        ap (λ b. if (b && not (is_taken behind q)) then item_at behind q else None)
        (outside before) ∙ sym (none_before q before))
        (λ (after : p ≤ q). same_item s behind q (same_scope after) refl
        (taken_other s p q other)) (cases_lt q p);
  }
    where
      outside : {q : ℕ} → q < p → in_scope behind q ≡ false
      outside before = grind (arith, nat_tests)

      same_scope : {q : ℕ} → p ≤ q → in_scope behind q ≡ in_scope s q
      same_scope after = grind (arith, match_is_open, nat_tests, open_in_scope)

  -- it opens the cells, and leaves those behind it
  pub opens_cells : Opens (opening_words called) (cells s) (cells behind)
  unfolding cells
  opens_cells =
      let m = match_of any_item s p at.first.matches in
      first_opens (subst (λ z. option_map_or (is_one_of (opening_words called)) z false ≡ true)
      (open_item_there s p m.item m.is).1 at.named)
      (take_one (length s.context.line) p m.in_line m.is refl
      (record { before = λ q l. subst (NotOwn (λ item. Alone)) (sym (none_before q l)) tt })
      behind_one)

  -- what isn't taken lies in the scope behind it
  pub whole_behind : {env : Variables} → IsWholeIn env s → IsWholeIn env behind
  whole_behind w = record {
    end = w.end;
    environment = w.environment;
    front = λ q before. taken_stays s p q (⊎_elim (λ (taken : is_taken s q ≡ true). taken)
        (λ (free : is_taken s q ≡ false). absurd (
        let e = (has_item w free).is in let f = none_before q before in cc))
        (cases_Bool (is_taken s q)));
  }

-- where no word opens a situation none opens its cells
pub opens_none : {words : List (List ℕ)} (s : Situation) → IsNotOpened words s
    → OpensNone words (cells s)
unfolding cells
opens_none {words} s none ds o = grind (arith, open_item_there, word_of)

-- A command keeps to the laws, where its program does.
module _ {env : Variables} {T : Type 0} {inner : Outcome T} {r : Roles} {value : CellsValue T}
    (l : ProgramLaw env T inner r value) (called : Called)
    (plain : are_plain (opening_words called) ≡ true) where
  -- its words
  abbrev own_words : List (List ℕ)
  own_words = opening_words called

  -- a command's values
  abbrev opened_value : CellsValue T
  opened_value = CommandValue T own_words value

  -- the value is that of what is behind the word
  from_behind : {s : Situation} {p : ℕ} {v : T} → IsOpenedAt own_words s p
      → value (cells (inside called s p)) v → opened_value (cells s) v
  from_behind {s} {p} at h = (cells (inside called s p), opens_cells called s p at, h)

  -- a value of what is behind the word is the command's
  value_behind : {s : Situation} {p : ℕ} {u : T} → IsOpenedAt own_words s p
      → opened_value (cells s) u → value (cells (inside called s p)) u
  value_behind {s} {p} at h = rw (← opens_one own_words h.1 (opens_cells called s p at)) h.2

  -- an Ok took the word, and has the value of what is behind it
  command_took : (s t : Situation) (v : T) → IsWholeIn env s → CommandEval T inner called s (Ok v) t
      → ProgramTook T opened_value s v t
  command_took s t v w (command_value {p} at i e) =
      let a = l.keeps.ok (inside called s p) t v (whole_behind called s p at w) i in
      record {
        deep = let b = length_push s.path called.name in let d = a.deep in omega arith;
        read = λ spelled n. from_behind at (a.read spelled n);
        all = λ u h. let g = a.all u (value_behind at h) in (from_behind at g.0, g.1);
      }

  -- where it has a value, a refusal is want of memory
  command_refuses : (s t : Situation) (e : Error) → IsWholeIn env s
      → CommandEval T inner called s (Err e) t → (u : T) → opened_value (cells s) u
      → class e ≡ OfMemory
  command_refuses s t e w (command_leftover {v = x} {p} {m} at i left) u h =
      let a = l.keeps.ok (inside called s p) m x (whole_behind called s p at w) i in
      absurd (left (open_present m ∙ count_none (a.all u (value_behind at h)).1))
  command_refuses s t e w (command_refused {d} {p} {m} at i spared) u h =
      absurd (spared (l.keeps.err (inside called s p) m d (whole_behind called s p at w) i u
      (value_behind at h)))
  command_refuses s t e w (command_missing none c) u h = absurd (opens_none s none h.0 h.1)
  command_refuses s t e w (command_memory c) u h = c

  -- an answer has a longer path
  one_deeper : (s t : Situation) (v : T) → IsWholeIn env s → CommandEval T inner called s (Ok v) t
      → depth s < depth t
  one_deeper s t v w (command_value {p} at i e) =
      let a = l.keeps.ok (inside called s p) t v (whole_behind called s p at w) i in
      let b = length_push s.path called.name in let d = a.deep in omega arith

  -- an answer took a word, and leaves nothing
  one_took : (s t : Situation) (v : T) → CommandEval T inner called s (Ok v) t
      → (OpensNone own_words (cells s) → ⊥) × (open_count t ≡ 0)
  one_took s t v (command_value {p} at i e) = (λ n. n _ (opens_cells called s p at), e)

  -- where no word is the first thing present it is missing
  none_refuses : (s t : Situation) (e : Error) → CommandEval T inner called s (Err e) t
      → OpensNone own_words (cells s) → FindsNoCommand s (class e) t
  unfolding cells
  none_refuses s t e (command_leftover {p} at i left) n = absurd (n _ (opens_cells called s p at))
  none_refuses s t e (command_refused {p} at i spared) n = absurd (n _ (opens_cells called s p at))
  none_refuses s t e (command_missing none c) n =
      let same = λ (q : ℕ) (h : is_taken s q ≡ true). h in
      inr (c, refl, record { context = refl; start = refl; end = refl; path = refl; keeps = same })
  none_refuses s t e (command_memory c) n = inl c

  -- the laws
  pub command_law : CommandsLaw env T (CommandEval T inner called) r own_words opened_value
  command_law = record {
    program = record {
      others = λ q n a cs v s h.
          opens_pieces plain n s h.1 ∙ l.others q n a h.0 v (opens_spelled s h.1) h.2;
      keeps = record { ok = command_took; err = command_refuses };
    };
    opened = λ cs v h. (h.0, h.1);
    plain = plain;
    deeper = one_deeper;
    took = one_took;
    none = none_refuses;
  }

-- A flat record is a program.
module _ {env : Variables} {V : Type 0} {outcome : Outcome V} {r : Roles}
    {reading : FieldsReading V} (l : FieldsLaw env V outcome r reading) where
  -- the laws
  pub record_program : ProgramLaw env V outcome r (ReadOff V r reading.value)
  record_program = grind (arith, no_own_in_cut)

-- What is taken, and what is left.

-- those taken are all own pieces
taken_pieces : {q : Roles} {cs ds : Cells} {os : List LinePiece} → IsNamed q → Takes q cs os ds
    → os ≡ pieces q cs
taken_pieces n no_cells = refl
taken_pieces n (empty_stays t) = taken_pieces n t
taken_pieces {q} n (other_stays {k} {cs} e t) = grind (arith, begin_at, taken_pieces n t)
taken_pieces {q} n (takes_flag {k} {cs} e t) = grind (arith, begin_at, taken_pieces n t)
taken_pieces {q} n (takes_argument {k} {w} {cs} e v t) =
    grind (arith, begin_at, value_foreign, taken_pieces n t)

-- where there is no own piece none is taken
take_none : {q : Roles} (cs : Cells) → pieces q cs ≡ [] → Takes q cs [] cs
take_none [] e = no_cells
take_none (None ∷ cs) e = empty_stays (take_none cs e)
take_none {q} (Some k ∷ cs) e =
    other_stays (nil_foreign (q k) k cs (pieces q cs) e) (take_none cs (nil_rest (q k) k cs e))

-- with one piece more that was taken
take_more : {q : Roles} {cs ds es : Cells} {o : LinePiece} {os : List LinePiece}
    → TakesPiece q cs o ds → Takes q ds os es → (ps : List LinePiece) × Takes q cs ps es
take_more (takes_one {k} e) (empty_stays {os} t) = (One k ∷ os, takes_flag e t)
take_more (takes_two {k} {w} e v) (empty_stays (empty_stays {os} t)) =
    (Two k w ∷ os, takes_argument e v t)
take_more (takes_later t) (empty_stays u) = let i = take_more t u in (i.0, empty_stays i.1)
take_more (takes_later t) (other_stays e u) = let i = take_more t u in (i.0, other_stays e i.1)
take_more (takes_later t) (takes_flag {k} e u) =
    let i = take_more t u in (One k ∷ i.0, takes_flag e i.1)
take_more (takes_later (takes_later t)) (takes_argument {k} {w} e v u) =
    let i = take_more t u in (Two k w ∷ i.0, takes_argument e v i.1)

-- where some were taken, and no own piece is left, all were
all_taken : {q : Roles} {cs ds : Cells} → TakesPieces q cs ds → pieces q ds ≡ []
    → (os : List LinePiece) × Takes q cs os ds
all_taken {ds} takes_none e = ([], take_none ds e)
all_taken (takes_more t more) e = take_more t (all_taken more e).1

-- where another field has none of its own on what is left, it has none at all
foreign_before : {p q : Roles} {cs ds : Cells} {os : List LinePiece} → IsNamed p → Apart p q
    → Takes q cs os ds → pieces p ds ≡ [] → pieces p cs ≡ []
foreign_before n a no_cells e = e
foreign_before n a (empty_stays t) e = foreign_before n a t e
foreign_before {p} n a (other_stays {k} {cs} {ds} f t) e =
    grind (arith, begin_at, nil_foreign, nil_rest, foreign_before n a t (nil_rest (p k) k ds e))
foreign_before {p} n a (takes_flag {k} {cs} f t) e = grind (arith, begin_at, foreign_before n a t e)
foreign_before {p} n a (takes_argument {k} {w} {cs} f v t) e =
    grind (arith, begin_at, value_foreign, foreign_before n a t e)

-- what is left is spelled
left_spelled : {q : Roles} {cs ds : Cells} {os : List LinePiece} → Takes q cs os ds
    → AllSpelled cs → AllSpelled ds
left_spelled no_cells no_cell = no_cell
left_spelled (empty_stays t) (empty_cell a) = empty_cell (left_spelled t a)
left_spelled (other_stays e t) (spelled_cell s a) = spelled_cell s (left_spelled t a)
left_spelled (takes_flag e t) (spelled_cell s a) = empty_cell (left_spelled t a)
left_spelled (takes_argument e v t) (spelled_cell s (spelled_cell r a)) =
    empty_cell (empty_cell (left_spelled t a))

module _ {env : Variables} {A B : Type 0} {first : Outcome A} {rest : Outcome B} {q r : Roles}
    {fv : List LinePiece → A → Type 0} {rv : CellsValue B} (lf : FieldLaw env A first ByName q fv)
    (lr : ProgramLaw env B rest r rv) (apart : Apart q r) where
  -- the values of both
  abbrev value : CellsValue (A × B)
  value = FieldThen A B q fv rv

  -- where both have a value, the first has it on all its own pieces
  own_value : {cs : Cells} {u : A × B} → value cs u → fv (pieces q cs) u.0
  own_value h = rw (← taken_pieces lf.own h.taken) h.own

  -- its answer is one on them, and what it left are the cells that the others' value is on
  first_gives : {s m : Situation} {x : A} {u : A × B} → FieldTook A ByName q fv s x m
      → (h : value (cells s) u) → fv h.own_pieces x × (cells m ≡ h.left_cells)
  first_gives i h = grind (arith, all_taken, one_take, own_value, taken_pieces)

  -- the laws
  pub before_law : ProgramLaw env (A × B) (BothOutcome first rest) (either q r) value
  before_law = record {
    others = λ p n a cs v s h.
        foreign_before n (apart_first r a) h.taken (lr.others p n (apart_second q a) h.left_cells
        v.1 (left_spelled h.taken s) h.left);
    keeps = both_keeps lf lr.keeps _ _ (λ s m t x y i j. record {
      deep = let e = ap length i.steady.path in let l = j.deep in omega arith;
      read = λ spelled e.
          let still : IsSpelledLine m.context = rw i.steady.context spelled in
          let after = j.read still e in
          let none = lr.others q lf.own apart (cells m) y (cells_spelled m still) after in
          let all = all_taken i.takes none in
          record {
            own_pieces = all.0;
            left_cells = cells m;
            taken = all.1;
            own = rw (taken_pieces lf.own all.1) (i.read none);
            left = after;
          };
      all = λ u g.
          let first_one = first_gives i g in
          let others = j.all u.1 (rw first_one.1 g.left) in (
            record {
              own_pieces = g.own_pieces;
              left_cells = g.left_cells;
              taken = g.taken;
              own = first_one.0;
              left = rw (← first_one.1) others.0;
            },
            others.1,
          );
    }) (λ s c no u h. no u.0 (own_value h))
        (λ s m t x c i no u h. no u.1 (rw (first_gives i h).1 h.left));
  }

-- with its constructor a product keeps to the laws of a program
pub con_program : {env : Variables} {A B : Type 0} {fields : Outcome A} (makes : A → B → Type 0)
    {r : Roles} {inner : CellsValue A} → ProgramLaw env A fields r inner
    → ProgramLaw env B (ProductOutcome fields makes) r (ClosedValue inner (map_closure makes))
unfolding cells
con_program makes l = record {
  others = λ q n a cs v s h. l.others q n a cs h.from s h.read;
  keeps = con_keeps l.keeps (λ s m x v i y. record {
    deep = i.deep;
    read = λ spelled n. record { from = x; read = i.read spelled n; made = y };
    all = λ u h. let g = i.all h.from h.read in (record { from = x; read = g.0; made = y }, g.1);
  }) (λ s m c refuses u h. refuses h.from h.read);
}
