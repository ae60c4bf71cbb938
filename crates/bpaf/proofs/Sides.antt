-- The words on the two sides of the first `--`, and what holds of each item that words spell.
use Rattle.std.proofs.Common.{◌≡◌, ◌+◌, ℕ, Bool, true, false, List, [], ◌∷◌, ◌++◌, length, refl, ap}
use Rattle.std.proofs.Common.{sym, subst, ◌∙◌, arith, take, drop, codes, All}
use Rattle.std.proofs.lemmas.List.{take_at, drop_at, drop-drop, get_or_append_left, length-append}
use Rattle.std.proofs.lemmas.List.Elements.{All-append, All-from_recursion, All-nil}
use Rattle.std.proofs.lemmas.List.Elements.{Contains-append_right, recursion_from_All}
use Rattle.std.proofs.{lemmas.List.Sums.position_or_len_is, lemmas.Bool.false_from_ne_true}
use Rattle.std.proofs.{lemmas.Slice.Eq.bytes_eq-Decides}
use Rattle.std.specs.Prelude.{flat_map, encode_utf8_all, ◌<◌, get_or}
use Rattle.std.specs.List.{AllZip, AllByRecursion, Contains}
use Rattle.bpaf_base.specs.declared.arg.Arg.{Arg}
use Rattle.bpaf_base.specs.declared.arg.Arg.TheVariants.{Short, Long, ArgWord, Word}
use Rattle.bpaf_words.specs.Line.{Known, IsKnownAs, Spelling, Items, Ambiguous, flags_of}
use Rattle.bpaf_words.specs.Line.{argument_of, Spells, SpellsJoined, flags, argument, neither, both}
use Rattle.bpaf_words.specs.Line.{plain, dash, long, long_value, short, short_value}
use Rattle.bpaf_words.specs.Line.{short_long_value, joined, SpellsByDash, number_word, by_dash}
use Rattle.bpaf_words.specs.Line.{SpellAll, HasNoMarker}
use Rattle.bpaf.specs.Marker.{is_marker_word, words_before, words_behind}

-- words without `--`, behind which stands nothing or `--` first, are those on its two sides
pub two_sides : (before rest : List (List ℕ)) → HasNoMarker before
    → (length before < length (before ++ rest)
    → is_marker_word (get_or (before ++ rest) (length before) []) ≡ true)
    → (words_before (before ++ rest) ≡ before) × (words_behind (before ++ rest) ≡ drop 1 rest)
two_sides before rest none first =
    let words = before ++ rest in
    let count = position_or_len_is is_marker_word words (length before) []
    (let size = length-append before rest in omega arith)
    (λ k within. ap is_marker_word (get_or_append_left before rest [] k within)
    ∙ (grind (arith, false_from_ne_true, bytes_eq-Decides, codes, none k [] within))) first in (
      ap (λ n. take n words) count ∙ take_at before rest (length before) refl,
      ap (λ n. drop (n + 1) words) count ∙ (sym (drop-drop 1 (length before) words) ∙ ap (drop 1)
          (drop_at before rest (length before) refl)),
    )

-- a fact of each item that a word spells, where it spells items
abbrev EachSpelled : (Arg → Type 0) → Spelling → Type 0
EachSpelled P (Items items) = AllByRecursion P items
EachSpelled P (Ambiguous number) = Unit {0}

module _ (P : Arg → Type 0) (known : Known) (word : List ℕ)
    (key : (c : ℕ) (attached : Bool) (rest : List ℕ) → word ≡ codes "-" ++ rest
    → P (Short c attached word))
    (joined_key : (c : ℕ) → P (Short c false []))
    (long_key : (name : List ℕ) (attached : Bool) (rest : List ℕ) → word ≡ codes "-" ++ rest
    → P (Long name attached word))
    (value : (text : List ℕ) → P (ArgWord text)) (whole : P (Word word))
    (behind_key : (c : ℕ) (text : List ℕ) → IsKnownAs false true known.names c
    → P (Word text)) where
  -- each flag has it
  of_flags : (text cs : List ℕ) → ((c : ℕ) → P (Short c false text))
      → AllByRecursion P (flags_of text cs)
  of_flags text [] first = tt
  of_flags text (c ∷ cs) first = (first c, of_flags [] cs joined_key)

  -- each part of an argument has it
  of_argument : (c : ℕ) (rest : List ℕ) → IsKnownAs false true known.names c
      → ((attached : Bool) → P (Short c attached word)) → AllByRecursion P (argument_of word c rest)
  of_argument c [] is first = (first false, tt)
  of_argument c (b ∷ rest) is first = (first true, (behind_key c (b ∷ rest) is, tt))

  -- each item that joined characters spell
  of_joined : (cs : List ℕ) (s : Spelling) → SpellsJoined known.names word cs s
      → ((c : ℕ) (attached : Bool) → P (Short c attached word)) → EachSpelled P s
  of_joined cs s (flags all) first = of_flags word cs (λ c. first c false)
  of_joined cs s (argument fs c rest cut all is) first =
      let own = flags_of word fs in
      let behind = argument_of word c (encode_utf8_all rest) in
      recursion_from_All P (own ++ behind) (All-append P own behind
      (All-from_recursion P own (of_flags word fs (λ c. first c false)))
      (All-from_recursion P behind (of_argument c (encode_utf8_all rest) is (first c))))
  of_joined cs s (neither fs c rest cut all is) first = (whole, tt)
  of_joined cs s (both fs c rest cut all is) first = tt

  -- each item that the word spells, where it is no number that is a word
  each_by_dash : (s : Spelling) → SpellsByDash known.names word s → EachSpelled P s
  each_by_dash s (plain a) = (whole, tt)
  each_by_dash s (dash a) = (whole, tt)
  each_by_dash s (long n a b d) = (long_key n false _ a, tt)
  each_by_dash s (long_value n v a b) = (long_key n true _ a, (value v, tt))
  each_by_dash s (short c a b) = (key c false _ a, tt)
  each_by_dash s (short_value c v a b) = (key c true _ a, (value v, tt))
  each_by_dash s (short_long_value c r v a b d e) = (key c true _ a, (value _, tt))
  each_by_dash s (joined c d cs t a b e j) =
      of_joined (c ∷ d ∷ cs) t j (λ c attached. key c attached _ a)

  -- each item that the word spells
  of_word : (s : Spelling) → Spells known word s → EachSpelled P s
  of_word s (number_word is) = (whole, tt)
  of_word s (by_dash t none a) = each_by_dash t a

  -- all items that the word spells have it
  pub all_spelled : (items : List Arg) → Spells known word (Items items) → All P items
  all_spelled items spells = All-from_recursion P items (of_word (Items items) spells)

module _ (known : Known) (P : Arg → Type 0) where
  -- a fact of each item that these words spell
  abbrev pub EachOf : List (List ℕ) → Type 0
  EachOf words = (word : List ℕ) → Contains words word → (items : List Arg)
      → Spells known word (Items items) → All P items

  -- where each word's items have it, those of all words do
  of_parts : (words : List (List ℕ)) (parts : List (List Arg))
      → AllZip (λ word xs. Spells known word (Items xs)) words parts → EachOf words
      → All P (flat_map (λ xs. xs) parts)
  of_parts words [] spelled each = All-nil P
  of_parts [] (xs ∷ parts) spelled each = absurd spelled
  of_parts (word ∷ words) (xs ∷ parts) spelled each = All-append P xs (flat_map (λ xs. xs) parts)
      (each word (0, omega arith, refl) xs spelled.0) (of_parts words parts spelled.1
      (λ other among. each other (Contains-append_right (word ∷ []) words other among)))

  -- where each word's items have it, all items of the words do
  pub of_words : (words : List (List ℕ)) (items : List Arg) → SpellAll known words items
      → EachOf words → All P items
  of_words words items s each = subst (All P) (sym s.joined) (of_parts words s.parts s.spelled each)
