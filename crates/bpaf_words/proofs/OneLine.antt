-- Words have one line, or none and then a first ambiguous word.
use Rattle.std.proofs.Common.{◌≡◌, ◌≢◌, ◌⊎◌, inl, inr, ⊎_elim, ℕ, ◌+◌, List, [], ◌∷◌, ◌++◌, length}
use Rattle.std.proofs.Common.{map, codes, refl, ap, sym, ◌∙◌, subst, arith, append_assoc, None}
use Rattle.std.proofs.Common.{Some, Option, All, IsUtf8, length-append, append-nil}
use Rattle.std.proofs.lemmas.List.Elements.{All-head, All-tail, All-cons}
use Rattle.std.specs.List.{AllZip, flat_map}
use Rattle.std.specs.{Cmp.Lexicographic.bytes_decides, Option.option_map}
use Rattle.bpaf_base.specs.{declared.arg.Arg.Arg, declared.arg.Arg.TheVariants.PosWord}
use Rattle.bpaf_words.specs.Line.{Known, Spelling, Items, Ambiguous, Spells, SpellAll, HasNoMarker}
use Rattle.bpaf_words.specs.Line.{IsLine, HasNoLine, without_marker, with_marker, LinesAreUnique}
use Rattle.bpaf_words.proofs.OneSpelling.{one_spelling}

-- what words come to: a line and its marker's place; or a first ambiguous word and its character
abbrev Verdict : Type 0
Verdict = (List Arg × Option ℕ) ⊎ (List ℕ × ℕ)

-- the same with items in front of the line
abbrev in_front : List Arg → Verdict → Verdict
in_front items (inl line) = inl (items ++ line.0, option_map (λ n. length items + n) line.1)
in_front items (inr word) = inr word

-- what the words from one on come to, by what that spells and what those after it come to
abbrev GoesOn : Spelling → List ℕ → (Verdict → Type 0) → Verdict → Type 0
GoesOn (Items xs) word later v = (rest : Verdict) × later rest × (v ≡ in_front xs rest)
GoesOn (Ambiguous n) word later v = v ≡ inr (word, n)

-- what words come to, one word after another
abbrev ComeTo : Known → List (List ℕ) → Verdict → Type 0
ComeTo known [] v = v ≡ inl ([], None)
ComeTo known (w ∷ ws) v =
    ((w ≡ codes "--") × (v ≡ inl (PosWord (codes "--") ∷ map PosWord ws, Some 0)))
    ⊎ ((w ≢ codes "--") × (s : Spelling) × Spells known w s × GoesOn s w (ComeTo known ws) v)

-- where words after one come to one thing, so do those from it on
one_goes_on : (s : Spelling) (word : List ℕ) (later : Verdict → Type 0)
    → ((u v : Verdict) → later u → later v → u ≡ v) → (u v : Verdict) → GoesOn s word later u
    → GoesOn s word later v → u ≡ v
one_goes_on s word later one u v a b = grind arith

-- words come to one thing
one_verdict : (known : Known) (words : List (List ℕ)) → All IsUtf8 words → (u v : Verdict)
    → ComeTo known words u → ComeTo known words v → u ≡ v
one_verdict known [] texts u v a b = a ∙ sym b
one_verdict known (w ∷ ws) texts u v (inl a) (inl b) = a.1 ∙ sym b.1
one_verdict known (w ∷ ws) texts u v (inl a) (inr b) = absurd (b.0 a.0)
one_verdict known (w ∷ ws) texts u v (inr a) (inl b) = absurd (a.0 b.0)
one_verdict known (w ∷ ws) texts u v (inr (other, s, spells, a)) (inr (_, s', spells', b)) =
    let one = one_spelling known w (All-head IsUtf8 w ws texts) other in
    let same : s' ≡ s = (one.only s' spells').1 ∙ sym (one.only s spells).1 in
    one_goes_on s w (ComeTo known ws) (one_verdict known ws (All-tail IsUtf8 w ws texts)) u v a
    (subst (λ s. GoesOn s w (ComeTo known ws) v) same b)

-- where words after one come to something, so do those from it on
some_goes_on : (s : Spelling) (word : List ℕ) (later : Verdict → Type 0)
    → (v : Verdict) × later v → (v : Verdict) × GoesOn s word later v
some_goes_on (Items xs) word later rest = (in_front xs rest.0, (rest.0, rest.1, refl))
some_goes_on (Ambiguous n) word later rest = (inr (word, n), refl)

-- a word is `--`, or it isn't
marker_or_not : (word : List ℕ) → (word ≡ codes "--") ⊎ (word ≢ codes "--")
marker_or_not word = let decides = bytes_decides word (codes "--") in grind arith

-- words that are texts come to something
some_verdict : (known : Known) (words : List (List ℕ)) → All IsUtf8 words
    → (v : Verdict) × ComeTo known words v
some_verdict known [] texts = (inl ([], None), refl)
some_verdict known (w ∷ ws) texts = ⊎_elim (λ marker. (_, inl (marker, refl)))
    (λ other.
    let one = one_spelling known w (All-head IsUtf8 w ws texts) other in
    let on = some_goes_on one.spelling w (ComeTo known ws)
    (some_verdict known ws (All-tail IsUtf8 w ws texts)) in
    (on.0, inr (other, one.spelling, one.spells, on.1)))
    (marker_or_not w)

-- what is said of words that come to this: that it is their line, or that they have none
abbrev IsSaid : Known → List (List ℕ) → Verdict → Type 0
IsSaid known words (inl line) = IsLine known words line.0 line.1
IsSaid known words (inr word) = HasNoLine known words word.0 word.1

-- no words spell no items
no_items : (known : Known) → SpellAll known [] []
no_items known = record { parts = []; spelled = tt; joined = refl }

-- no words have no marker
none_marked : HasNoMarker []
none_marked = λ i d within. absurd (omega arith)

module _ (known : Known) (word : List ℕ) (words : List (List ℕ)) (other : word ≢ codes "--") where
  module _ (xs : List Arg) (spells : Spells known word (Items xs)) where
    -- one word more in front, and its items in front of the others
    spell_more : (words : List (List ℕ)) (items : List Arg) → SpellAll known words items
        → SpellAll known (word ∷ words) (xs ++ items)
    spell_more words items all = record {
      parts = xs ∷ all.parts;
      spelled = (spells, all.spelled);
      joined = ap (λ items. xs ++ items) all.joined;
    }

    -- a line of words, with one word more in front of them
    line_more : (line : List Arg) (marker : Option ℕ) → IsLine known words line marker
        → IsLine known (word ∷ words) (xs ++ line) (option_map (λ n. length xs + n) marker)
    line_more line marker (without_marker items none all) =
        without_marker (xs ++ items) (All-cons (λ w. w ≢ codes "--") word words other none)
        (spell_more words items all)
    line_more line marker (with_marker before after items cut none all) =
        rw (
          ← append_assoc xs items (PosWord (codes "--") ∷ map PosWord after),
          ← length-append xs items,
        )
        (with_marker (word ∷ before) after (xs ++ items) (ap (λ ws. word ∷ ws) cut)
        (All-cons (λ w. w ≢ codes "--") word before other none) (spell_more before items all))

    -- what is said of words, with one word more in front of them
    said_more : (v : Verdict) → IsSaid known words v → IsSaid known (word ∷ words) (in_front xs v)
    said_more (inl line) said = line_more line.0 line.1 said
    said_more (inr at) said = record {
      before = word ∷ said.before;
      items = xs ++ said.items;
      after = said.after;
      cut = ap (λ ws. word ∷ ws) said.cut;
      without_marker =
          All-cons (λ w. w ≢ codes "--") word said.before other said.without_marker;
      spelled = spell_more said.before said.items said.spelled;
      not_marker = said.not_marker;
      ambiguous = said.ambiguous;
    }

  -- what is said, by what the first word spells
  said_on : (s : Spelling) → Spells known word s → (later : Verdict → Type 0)
      → ((v : Verdict) → later v → IsSaid known words v) → (v : Verdict) → GoesOn s word later v
      → IsSaid known (word ∷ words) v
  said_on (Items xs) spells later said v on =
      subst (IsSaid known (word ∷ words)) (sym on.2) (said_more xs spells on.0 (said on.0 on.1))
  said_on (Ambiguous n) spells later said v on =
      subst (IsSaid known (word ∷ words)) (sym on) (record {
        before = [];
        items = [];
        after = words;
        cut = refl;
        without_marker = none_marked;
        spelled = no_items known;
        not_marker = other;
        ambiguous = spells;
      })

-- what words come to is said of them
said_of : (known : Known) (words : List (List ℕ)) (v : Verdict) → ComeTo known words v
    → IsSaid known words v
said_of known [] v is = rw is (without_marker [] none_marked (no_items known))
said_of known (w ∷ ws) v (inl (marker, is)) =
    rw is (with_marker [] ws [] (ap (λ w. w ∷ ws) marker) none_marked (no_items known))
said_of known (w ∷ ws) v (inr (other, s, spells, on)) =
    said_on known w ws other s spells (ComeTo known ws) (said_of known ws) v on

-- items in front of others are in front with these
both_in_front : (xs ys : List Arg) (v : Verdict)
    → in_front (xs ++ ys) v ≡ in_front xs (in_front ys v)
both_in_front xs ys v = grind (arith, append_assoc {A = Arg}, length-append {A = Arg})

-- none in front change nothing
none_in_front : (v : Verdict) → v ≡ in_front [] v
none_in_front v = grind arith

-- words behind others that spell items come to what they come to, with these items in front
spelled_in_front : (known : Known) (before : List (List ℕ)) (parts : List (List Arg))
    (rest : List (List ℕ)) (v : Verdict) → HasNoMarker before
    → AllZip (λ w xs. Spells known w (Items xs)) before parts → ComeTo known rest v
    → ComeTo known (before ++ rest) (in_front (flat_map (λ xs. xs) parts) v)
spelled_in_front known [] [] rest v none spelled come =
    subst (ComeTo known rest) (none_in_front v) come
spelled_in_front known [] (xs ∷ parts) rest v none spelled come = absurd spelled
spelled_in_front known (w ∷ before) [] rest v none spelled come = absurd spelled
spelled_in_front known (w ∷ before) (xs ∷ parts) rest v none spelled come = inr (
  All-head (λ w. w ≢ codes "--") w before none,
  Items xs,
  spelled.0,
  (
    in_front (flat_map (λ xs. xs) parts) v,
    spelled_in_front known before parts rest v
        (All-tail (λ w. w ≢ codes "--") w before none) spelled.1 come,
    both_in_front xs (flat_map (λ xs. xs) parts) v,
  ),
)

-- a line is what its words come to
line_comes : (known : Known) (words : List (List ℕ)) (line : List Arg) (marker : Option ℕ)
    → IsLine known words line marker → ComeTo known words (inl (line, marker))
line_comes known words line marker (without_marker items none all) =
    let come = spelled_in_front known words all.parts [] (inl ([], None)) none all.spelled refl in
    let joined : flat_map (λ xs. xs) all.parts ++ [] ≡ items =
    append-nil (flat_map (λ xs. xs) all.parts) ∙ sym all.joined in
    rw (append-nil words, joined) at come
line_comes known words line marker (with_marker before after items cut none all) =
    let behind = PosWord (codes "--") ∷ map PosWord after in
    let come = spelled_in_front known before all.parts (codes "--" ∷ after)
    (inl (behind, Some 0)) none all.spelled (inl (refl, refl)) in
    let place : length (flat_map (λ xs. xs) all.parts) + 0 ≡ length items =
    let same = ap length all.joined in omega arith in
    rw cut (rw (place, ← all.joined) at come)

-- words without a line come to their first ambiguous word
none_comes : (known : Known) (words : List (List ℕ)) (word : List ℕ) (number : ℕ)
    → HasNoLine known words word number → ComeTo known words (inr (word, number))
none_comes known words word number none =
    rw none.cut (spelled_in_front known none.before none.spelled.parts (word ∷ none.after)
    (inr (word, number)) none.without_marker none.spelled.spelled
    (inr (none.not_marker, Ambiguous number, none.ambiguous, refl)))

-- words have one line, or none and then a first ambiguous word
pub one_lines : LinesAreUnique
one_lines known words texts =
    let one = one_verdict known words texts in
    let some = some_verdict known words texts in
    let line = line_comes known words in
    let none = none_comes known words in
    record {
      some = some_said some.0 (said_of known words some.0 some.1);
      one_line = λ l m p q a b.
          let same = one (inl (l, p)) (inl (m, q)) (line l p a) (line m q b) in
          let pair : ◌≡◌ {A = List Arg × Option ℕ} (l, p) (m, q) = cc in
          (ap (λ x. x.0) pair, ap (λ x. x.1) pair);
      one_word = λ v w m n a b.
          let same = one (inr (v, m)) (inr (w, n)) (none v m a) (none w n b) in
          let pair : ◌≡◌ {A = List ℕ × ℕ} (v, m) (w, n) = cc in
          (ap (λ x. x.0) pair, ap (λ x. x.1) pair);
      not_both = λ l p w n a b.
          let same = one (inl (l, p)) (inr (w, n)) (line l p a) (none w n b) in absurd cc;
    }
  where
    some_said : (v : Verdict) → IsSaid known words v
        → ((line : List Arg) × (marker : Option ℕ) × IsLine known words line marker)
        ⊎ ((word : List ℕ) × (number : ℕ) × HasNoLine known words word number)
    some_said (inl line) said = inl (line.0, line.1, said)
    some_said (inr word) said = inr (word.0, word.1, said)
