-- Lines with a word more, with a spelled front, walks over joined letters, and from what the calls
-- on text say to the cases of a spelling.
use Rattle.std.proofs.Common.{◌≡◌, ◌≢◌, ℕ, Bool, ◌+◌, List, [], ◌∷◌, ◌++◌, take, drop, map, refl}
use Rattle.std.proofs.Common.{ap, sym, ◌∙◌, arith, append_assoc, append-nil, codes, Some, slice_get}
use Rattle.std.proofs.Common.{bytes_eq, true, false, IsUtf8, ⊎_elim, subst, length, All, ◌<◌, ◌≤◌}
use Rattle.std.proofs.Common.{Option, IfSome, length-append, nat_lt, ◌==◌, rules, if◌then◌else◌}
use Rattle.std.proofs.lemmas.Str.{cons_from_encodes, encodes_same, encodes-append}
use Rattle.std.proofs.lemmas.Grind.{flat_map-append, common_steps}
use Rattle.std.proofs.lemmas.List.Elements.{AllWithin-more, All-push}
use Rattle.std.proofs.lemmas.List.{nil_from_length, take_all, drop_all}
use Rattle.std.proofs.lemmas.Option.{get_or_from_slice_get, slice_get_within}
use Rattle.std.proofs.lemmas.Str.Pattern.{NoCharPasses-char, IsSplitOnceResult, split_parts}
use Rattle.std.proofs.Common.{encode_utf8, encode_utf8_all, lit<, None, IfOk, Result, Ok, Err}
use Rattle.std.proofs.lemmas.Str.{length-le-encodes, length-encode, len_utf8_bounds, encode_ascii}
use Rattle.std.proofs.{lemmas.Bool.Decides.nat_tests, lemmas.Bool.cases_lt}
use Rattle.std.specs.{declared.alloc.AllocError.AllocError, List.flat_map, List.AllWithin}
use Rattle.std.specs.{Str.Pattern.FindsChar, Bool.then_some, Borrow.Bor}
use Rattle.bpaf_base.specs.declared.arg.Arg.{Arg}
use Rattle.bpaf_base.specs.declared.arg.Arg.TheVariants.{PosWord, Short, Word, ArgWord}
use Rattle.bpaf_words.specs.Line.{Known, Items, Ambiguous, Spells, HasNoLine, IsLine}
use Rattle.bpaf_words.specs.Line.{without_marker, with_marker, ShortNames, IsKnownAs, flags_of}
use Rattle.bpaf_words.specs.Line.{argument_of, SpellsJoined, flags, argument, neither, both}
use Rattle.bpaf_words.specs.Line.{IsNumberWord, HasNoEquals, Spelling, short_value}
use Rattle.bpaf_words.specs.Splitting.{Begins, EndsFront, Answers, Splits, SplitsJoined, AreJoined}
use Rattle.bpaf_words.specs.Splitting.{SplitsDashed, SplitsAlone}
use Rattle.bpaf_words.specs.declared.split.SplitFault.{SplitFault}
use Rattle.bpaf_words.specs.declared.split.SplitFault.TheVariants.{Ambiguous}
use Rattle.bpaf_words.specs.Line.{short_long_value, joined, by_dash, SpellsByDash}
use Rattle.bpaf_words.proofs.OneSpelling.{AllZip_push, take_next, drop_next, cut_at}

-- a word of the rest goes over to the items
pub rest_moved : (words : List (List ℕ)) (i : ℕ) (word : List ℕ) (old new all : List Arg)
    → slice_get words i ≡ Some word → old ++ map PosWord (drop i words) ≡ all
    → new ≡ old ++ PosWord word ∷ [] → new ++ map PosWord (drop (i + 1) words) ≡ all
rest_moved words i word old new all at e n = grind (arith, append_assoc, drop_next)

-- one text more
pub texts_more : (words : List (List ℕ)) (low i : ℕ) (word : List ℕ) → AllWithin IsUtf8 words low i
    → slice_get words i ≡ Some word → IsUtf8 word → AllWithin IsUtf8 words low (i + 1)
texts_more words low i word h at u =
    AllWithin-more IsUtf8 words low i h
    (λ d. subst IsUtf8 (sym (get_or_from_slice_get words i word d at)) u)

-- one word more in front, and the items that it spells
pub begins_more : (known : Known) (words : List (List ℕ)) (i : ℕ) (old new xs : List Arg)
    (word : List ℕ) → Begins known words old i → slice_get words i ≡ Some word → IsUtf8 word
    → word ≢ codes "--" → Spells known word (Items xs) → new ≡ old ++ xs
    → Begins known words new (i + 1)
begins_more known words i old new xs word begun at text other spells more = record {
  bound = omega (arith, slice_get_within words i word at);
  without_marker = rw (take_next words i word at)
      (All-push (λ w. w ≢ codes "--") (take i words) word begun.without_marker other);
  spelled = rw (take_next words i word at) (record {
    parts = begun.spelled.parts ++ xs ∷ [];
    spelled = AllZip_push (λ w ys. Spells known w (Items ys)) (take i words) begun.spelled.parts
        word xs begun.spelled.spelled spells;
    joined = more ∙ (ap (λ z. z ++ xs) begun.spelled.joined
        ∙ (ap (λ z. flat_map (λ y. y) begun.spelled.parts ++ z) (sym (append-nil xs))
        ∙ sym (flat_map-append (λ y. y) begun.spelled.parts (xs ∷ []))));
  });
  texts = texts_more words 0 i word begun.texts at text;
}

-- words with an ambiguous one behind their spelled front have no line
pub no_line : (known : Known) (words : List (List ℕ)) (i : ℕ) (old : List Arg) (word : List ℕ)
    (number : ℕ) → Begins known words old i → slice_get words i ≡ Some word → word ≢ codes "--"
    → Spells known word (Ambiguous number) → HasNoLine known words word number
no_line known words i old word number begun at other spells = record {
  before = take i words;
  items = old;
  after = drop (i + 1) words;
  cut = cut_at words i word at;
  without_marker = begun.without_marker;
  spelled = begun.spelled;
  not_marker = other;
  ambiguous = spells;
}

-- a word that the test tells apart from `--` isn't the marker
pub not_marker : (word : List ℕ) → false ≡ bytes_eq word (codes "--") → word ≢ codes "--"
not_marker word h e = let t : false ≡ true = h ∙ ap (λ x. bytes_eq x (codes "--")) e in cc

-- words that are texts in front of a place and from there on are all texts
pub texts_all : (words : List (List ℕ)) (n : ℕ) → AllWithin IsUtf8 words 0 n
    → AllWithin IsUtf8 words n (length words) → All IsUtf8 words
texts_all words n f r k d l = ⊎_elim (λ b. f k d (omega arith) b) (λ a. r k d a l) (cases_lt k n)

-- the line of words with a spelled front: its items, then the other words as PosWords
pub line_of_front : (known : Known) (words : List (List ℕ)) (items : List Arg) (n : ℕ)
    → Begins known words items n → EndsFront words n
    → IsLine known words (items ++ map PosWord (drop n words))
    (then_some (nat_lt n (length words)) (length items))
line_of_front known words items n begun ends = by (nat_lt n (length words)) refl
  where
    by : (b : Bool) → nat_lt n (length words) ≡ b
        → IsLine known words (items ++ map PosWord (drop n words)) (then_some b (length items))
    by true e =
        let below : n < length words = grind (arith, nat_tests) in
        let at = ends below in
        rw (drop_next words n (codes "--") at) (with_marker (take n words) (drop (n + 1) words)
        items (cut_at words n (codes "--") at) begun.without_marker begun.spelled)
    by false e =
        let past : length words ≤ n = grind (arith, nat_tests) in
        let whole = take_all n words past in
        rw (drop_all n words past, append-nil items)
        (without_marker items (rw whole at begun.without_marker) (rw whole at begun.spelled))

-- the marker of a line lies in it
pub marker_of_line : (known : Known) (words : List (List ℕ)) (line : List Arg) (marker : Option ℕ)
    → IsLine known words line marker → IfSome marker (λ p. p < length line)
marker_of_line known words line marker x4 = grind (arith, length-append)

-- A walk over joined letters: the flags at the front, and what stands where they end.

-- the letters are those of the flags fs and the rest, and the items of fs are the last ones
pub record Walked (names : ShortNames) (word letters : List ℕ) (old new : List Arg) (count : ℕ)
    (rest : List ℕ) : Type 0 where
  pub fs : List ℕ
  pub cut : letters ≡ encode_utf8_all fs ++ rest
  pub all_flags : All (IsKnownAs true false names) fs
  pub items : new ≡ old ++ flags_of word fs
  pub counted : count ≡ length fs

-- the text of the flag after fs
text_after : List ℕ → List ℕ → List ℕ
text_after word [] = word
text_after word (f ∷ fs) = []

-- the items of one flag more: the new one has the text of the flag after the others
flags_of_push : (word fs : List ℕ) (c : ℕ)
    → flags_of word (fs ++ c ∷ []) ≡ flags_of word fs ++ Short c false (text_after word fs) ∷ []
unfolding text_after
flags_of_push word [] c = refl
flags_of_push word (f ∷ []) c = refl
flags_of_push word (f ∷ g ∷ fs) c = ap (λ x. Short f false word ∷ x) (flags_of_push [] (g ∷ fs) c)

-- the text of the next flag: the word for the first one, else the empty text
text_after_is : (word fs : List ℕ) (count : ℕ) → count ≡ length fs
    → text_after word fs ≡ (if count == 0 then word else [])
unfolding text_after
text_after_is word fs count e = grind (arith, nat_tests)

-- a walk that hasn't begun: no flags, and all letters are left
pub walked_none : (names : ShortNames) (word letters : List ℕ) (old : List Arg)
    → Walked names word letters old old 0 letters
walked_none names word letters old = grind (arith, append-nil)

-- characters that begin with the letters of fs
after_encodes : (fs cs r : List ℕ) → encode_utf8_all cs ≡ encode_utf8_all fs ++ r → (ds : List ℕ)
    × (cs ≡ fs ++ ds) × (encode_utf8_all ds ≡ r)
after_encodes [] cs r e = (cs, refl, e)
after_encodes (f ∷ fs) cs r e =
    let h = cons_from_encodes cs (encode_utf8_all fs ++ r) f
    (e ∙ append_assoc (encode_utf8 f) (encode_utf8_all fs) r) in
    let t = after_encodes fs h.0 r h.2 in
    (t.0, h.1 ∙ ap (λ x. f ∷ x) t.1, t.2)

module _ {names : ShortNames} {word letters : List ℕ} {old new : List Arg} {count : ℕ}
    {rest : List ℕ} (w : Walked names word letters old new count rest) where
  -- where a walk leaves no letters they spell the items of the flags
  pub ends : (cs : List ℕ) → length rest ≡ 0 → letters ≡ encode_utf8_all cs → (xs : List Arg)
      × SpellsJoined names word cs (Items xs) × (new ≡ old ++ xs)
  ends cs e l =
      let empty : rest ≡ [] = nil_from_length rest e in
      let same : cs ≡ w.fs = encodes_same cs w.fs
      (sym l ∙ (w.cut ∙ (ap (λ x. encode_utf8_all w.fs ++ x) empty
      ∙ append-nil (encode_utf8_all w.fs)))) in
      (flags_of word w.fs, rw same (flags w.all_flags), w.items)

  module _ (c : ℕ) (after : List ℕ) (e : rest ≡ encode_utf8 c ++ after) where
    -- a walk over one flag more
    pub walked_more : (text : List ℕ) (newer : List Arg) → IsKnownAs true false names c
        → text ≡ (if count == 0 then word else []) → newer ≡ new ++ Short c false text ∷ []
        → Walked names word letters old newer (count + 1) after
    walked_more text newer f t n = record {
      fs = w.fs ++ c ∷ [];
      cut = w.cut ∙ (ap (λ x. encode_utf8_all w.fs ++ x) e
          ∙ (sym (append_assoc (encode_utf8_all w.fs) (encode_utf8 c) after)
          ∙ ap (λ x. x ++ after) (sym (encodes-append w.fs (c ∷ [])
          ∙ ap (λ x. encode_utf8_all w.fs ++ x) (append-nil (encode_utf8 c))))));
      all_flags = All-push (IsKnownAs true false names) w.fs c w.all_flags f;
      items = n ∙ (ap (λ x. x ++ Short c false text ∷ []) w.items
          ∙ (append_assoc old (flags_of word w.fs) (Short c false text ∷ [])
          ∙ ap (λ x. old ++ x) (rw (t ∙ sym (text_after_is word w.fs count w.counted))
          (sym (flags_of_push word w.fs c)))));
      counted = rw (w.counted, length-append) (search rules);
    }

    -- the letters left are fewer than all of them
    pub walked_bound : count + 1 ≤ length letters
    walked_bound =
        let sizes : length letters ≡ length (encode_utf8_all w.fs) +
        (length (encode_utf8 c) + length after) =
        ap length w.cut ∙ (ap (λ x. length (encode_utf8_all w.fs ++ x)) e ∙ simp length-append) in
        omega (arith, length-le-encodes w.fs, w.counted, length-encode c, len_utf8_bounds c)

    -- where a walk stops at c
    stopped : (cs : List ℕ) → letters ≡ encode_utf8_all cs → (ds : List ℕ)
        × (cs ≡ w.fs ++ c ∷ ds) × (encode_utf8_all ds ≡ after)
    stopped cs l = grind (arith, after_encodes, cons_from_encodes)

    -- at a character that is both the letters are ambiguous there
    pub stops_both : IsKnownAs true true names c → (cs : List ℕ) → letters ≡ encode_utf8_all cs
        → SpellsJoined names word cs (Ambiguous (count + 1))
    stops_both b cs l =
        let s = stopped cs l in rw w.counted (both w.fs c s.0 s.1 w.all_flags b)

    -- at one that is neither they spell the word itself
    pub stops_neither : (newer : List Arg) → IsKnownAs false false names c
        → newer ≡ old ++ Word word ∷ [] → (cs : List ℕ) → letters ≡ encode_utf8_all cs
        → (xs : List Arg) × SpellsJoined names word cs (Items xs) × (newer ≡ old ++ xs)
    stops_neither newer b n cs l =
        let s = stopped cs l in (Word word ∷ [], neither w.fs c s.0 s.1 w.all_flags b, n)

    -- at an argument they spell the flags and that argument
    pub stops_argument : (newer : List Arg) → IsKnownAs false true names c
        → newer ≡ new ++ argument_of word c after → (cs : List ℕ) → letters ≡ encode_utf8_all cs
        → (xs : List Arg) × SpellsJoined names word cs (Items xs) × (newer ≡ old ++ xs)
    stops_argument newer b n cs l =
        let s = stopped cs l in (
          flags_of word w.fs ++ argument_of word c (encode_utf8_all s.0),
          argument w.fs c s.0 s.1 w.all_flags b,
          rw s.2 (n ∙ (ap (λ x. x ++ argument_of word c after) w.items
              ∙ append_assoc old (flags_of word w.fs) (argument_of word c after))),
        )

-- items cut back to the old length are the old ones
pub taken_back : (old zs ys : List Arg) (n : ℕ) → n ≡ length old → zs ≡ old ++ ys → take n zs ≡ old
taken_back old zs ys n h e = rw (e, h) (grind (arith, common_steps))

-- a text that is the word for the first flag, and empty for the others
pub first_text : (word text : List ℕ) (count : ℕ) → (count ≡ 0 → text ≡ word)
    → (count ≢ 0 → text ≡ []) → text ≡ (if count == 0 then word else [])
first_text word text count f g = grind (arith, nat_tests)

-- From what the calls on text say to the cases of a spelling.

-- a text in which no `=` was found has none
pub no_equals : (bs : List ℕ) → FindsChar 61 bs None → HasNoEquals bs
no_equals bs h i l = NoCharPasses-char 61 bs i h (lit< tt) l

-- `split_once` at `=`
pub at_equals : (bs : List ℕ) (front value : Bor (List ℕ))
    → IsSplitOnceResult 61 bs (Some (front, value)) → (bs ≡ front.now ++ 61 ∷ value.now)
    × HasNoEquals front.now
at_equals bs front value h = split_parts 61 bs (Some (front, value)) h (lit< tt)

-- what does not begin with the byte `-` does not begin with the character
pub other_than_dash : (rest tail : List ℕ) (c : ℕ) → ((r : List ℕ) → rest ≢ 45 ∷ r)
    → rest ≡ encode_utf8 c ++ tail → c ≢ 45
other_than_dash rest tail c none e d =
    none tail (e ∙ ap (λ x. x ++ tail) (ap encode_utf8 d ∙ encode_ascii 45 (lit< tt)))

-- a word `-c=v` or `-cr=v` spells its key and the value that was chosen
pub with_value : (names : ShortNames) (word rest tail name value chosen : List ℕ) (c : ℕ)
    → word ≡ 45 ∷ rest → rest ≡ encode_utf8 c ++ tail → c ≢ 45 → tail ≡ name ++ 61 ∷ value
    → HasNoEquals name → (length name ≡ 0 → chosen ≡ value) → (length name ≢ 0 → chosen ≡ tail)
    → SpellsByDash names word (Items (Short c true word ∷ ArgWord chosen ∷ []))
with_value names word rest tail [] value chosen c w r d t n f g =
    rw (f refl) (short_value c value
    (w ∙ (ap (λ x. 45 ∷ x) r ∙ ap (λ x. 45 ∷ encode_utf8 c ++ x) t)) d)
with_value names word rest tail (x ∷ xs) value chosen c w r d t n f g =
    rw (g (λ h. absurd (omega arith)), t)
    (short_long_value c (x ∷ xs) value
    (w ∙ (ap (λ y. 45 ∷ y) r ∙ ap (λ y. 45 ∷ encode_utf8 c ++ y) t)) d (λ h. cc) n)

-- an answer for what is spelled in one way holds for a way that follows from it
answers_weaker : (P Q : Spelling → Type 0) → ((s : Spelling) → P s → Q s)
    → (old : List Arg) (result : Result (Unit {0}) SplitFault) (new : List Arg)
    → Answers P old result new → Answers Q old result new
answers_weaker P Q f old result new a = grind arith

-- letters behind a dash are joined, given the characters after the first
joined_by : (word rest tail : List ℕ) (c : ℕ) (fs : List ℕ) → word ≡ 45 ∷ rest → c ≢ 45
    → length tail ≢ 0 → HasNoEquals tail → encode_utf8_all fs ≡ tail
    → rest ≡ encode_utf8_all (c ∷ fs) → AreJoined word rest
joined_by word rest tail c [] whole other some none is starts = absurd (some (ap length (sym is)))
joined_by word rest tail c (d ∷ ds) whole other some none is starts = record {
  first = c;
  second = d;
  others = ds;
  word_is = whole;
  letters_are = starts;
  no_dash = other;
  no_equals = subst HasNoEquals (sym is) none;
}

-- letters behind a dash, two or more, the first of them no dash, without `=` behind it, are joined
pub are_joined : (word rest tail : List ℕ) (c : ℕ) → IsUtf8 word → word ≡ 45 ∷ rest
    → rest ≡ encode_utf8 c ++ tail → c ≢ 45 → length tail ≢ 0 → HasNoEquals tail
    → AreJoined word rest
are_joined word rest tail c text whole starts other some none =
    let all = cons_from_encodes text.0 rest 45
    (text.1.1 ∙ (whole ∙ ap (λ x. x ++ rest) (sym (encode_ascii 45 (lit< tt))))) in
    let parts = cons_from_encodes all.0 tail c (all.2 ∙ starts) in
    joined_by word rest tail c parts.0 whole other some none parts.2
    (starts ∙ ap (λ x. encode_utf8 c ++ x) (sym parts.2))

-- an answer for joined letters is one for their word
pub joined_word : (known : Known) (word letters : List ℕ) (old between : List Arg)
    (result : Result (Unit {0}) SplitFault) (new : List Arg) → ¬ (IsNumberWord known.numbers word)
    → AreJoined word letters → between ≡ old
    → SplitsJoined known.names word letters between result new → Splits known word old result new
joined_word known word letters old between result new other are same answers =
    let characters = are.first ∷ are.second ∷ are.others in
    answers_weaker (SpellsJoined known.names word characters) (Spells known word)
    (λ s spelled. by_dash s other (joined are.first are.second are.others s
    (are.word_is ∙ ap (λ x. 45 ∷ x) are.letters_are) are.no_dash are.no_equals spelled))
    old result new
    (subst (λ xs. Answers (SpellsJoined known.names word characters) xs result new) same
    (answers characters are.letters_are))

-- what is answered of a word behind a dash that isn't a number is answered of it by any setting
pub alone_by_any : (numbers : Bool) (word : List ℕ)
    (result : Result (Option (Bor (List ℕ))) AllocError) (old new : List Arg)
    → ¬ (IsNumberWord numbers word) → IfOk result (λ joined. SplitsDashed word old joined new)
    → IfOk result (λ joined. SplitsAlone numbers word old joined new)
alone_by_any numbers word (Ok None) old new other spells = λ names.
    let spelled = spells names in (spelled.0, by_dash (Items spelled.0) other spelled.1, spelled.2)
alone_by_any numbers word (Ok (Some letters)) old new other are = (other, are.0, are.1)
alone_by_any numbers word (Err e) old new other none = tt

-- letters begin with the one that was read off them
pub first_letter : (letters all : List ℕ) (c : ℕ) (rest tail : List ℕ) → all ≡ letters
    → all ≡ encode_utf8 c ++ rest → tail ≡ rest → letters ≡ encode_utf8 c ++ tail
first_letter letters all c rest tail from is left =
    sym from ∙ (is ∙ ap (λ x. encode_utf8 c ++ x) (sym left))
