-- Each word but `--` has exactly one spelling: the one that a plain walk over its characters finds.
use Rattle.std.proofs.Common.{◌≡◌, ◌∙◌, ℕ, ◌+◌, List, [], ◌∷◌, ◌++◌, take, drop, sym, ap, Some}
use Rattle.std.proofs.Common.{slice_get, add-one, ◌==◌, zero, suc, Bool, true, false, refl, subst}
use Rattle.std.proofs.Common.{arith, ◌⊎◌, inl, inr, ⊎_elim, EachIndex, slice_index, ◌≢◌}
use Rattle.std.proofs.Common.{if◌then◌else◌, length, append_assoc, append-nil, None, Option}
use Rattle.std.proofs.Common.{encode_utf8, encode_utf8_all, All, lit<, IsUtf8, codes}
use Rattle.std.proofs.Math.Seq.{drop-cons, take-suc}
use Rattle.std.proofs.lemmas.Option.{get_or_from_slice_get, slice_get_within}
use Rattle.std.proofs.lemmas.Str.{encode_ascii, encode_same, cons_from_encodes, encodes_same}
use Rattle.std.proofs.lemmas.Bool.{eqb-false, eqb-true, ne_eqb, cases_eq}
use Rattle.std.proofs.lemmas.List.Elements.{All-head, All-push, All-tail}
use Rattle.std.proofs.{lemmas.List.take-append-drop, lemmas.Bool.Decides.nat_tests}
use Rattle.std.specs.{List.AllZip, Char.IsAsciiDigit, Option.option_map}
use Rattle.bpaf_words.specs.Line.{IsNumber, IsNumberWord, ShortNames, Known, SpellsByDash}
use Rattle.bpaf_words.specs.Line.{number_word, by_dash, NumberWord, dash_case_of, IsKnownAs}
use Rattle.bpaf_words.specs.Line.{HasNoEquals, Spelling, Items, Ambiguous, flags_of, argument_of}
use Rattle.bpaf_words.specs.Line.{SpellsJoined, flags, argument, neither, both, Spells, plain, dash}
use Rattle.bpaf_words.specs.Line.{long, long_value, short, short_value, short_long_value, joined}
use Rattle.bpaf_words.specs.Line.{Case, PlainWord, DashAlone, LongAlone, LongWithValue, ShortAlone}
use Rattle.bpaf_words.specs.Line.{ShortWithValue, ShortWithLongValue, JoinedFlags}
use Rattle.bpaf_words.specs.Line.{JoinedWithArgument, JoinedWithNeither, JoinedWithBoth, case_of}
use Rattle.bpaf_words.specs.Line.{joined_case_of, SpellingsAreUnique}
use Rattle.bpaf_base.specs.declared.arg.Arg.TheVariants.{Short, Long, ArgWord, Word}
use Rattle.bpaf_base.specs.Items.{is_among}

-- two lists that are related member by member, with one more pair
pub AllZip_push : {A B : Type 0} (R : A → B → Type 0) (xs : List A) (ys : List B) (x : A) (y : B)
    → AllZip R xs ys → R x y → AllZip R (xs ++ x ∷ []) (ys ++ y ∷ [])
AllZip_push R [] [] x y all r = (r, tt)
AllZip_push R [] (b ∷ ys) x y all r = absurd all
AllZip_push R (a ∷ xs) [] x y all r = absurd all
AllZip_push R (a ∷ xs) (b ∷ ys) x y all r = (all.0, AllZip_push R xs ys x y all.1 r)

module _ {X : Type 0} (xs : List X) (i : ℕ) (x : X) (at : slice_get xs i ≡ Some x) where
  -- one member more at the front
  pub take_next : take (i + 1) xs ≡ take i xs ++ x ∷ []
  take_next =
      rw (add-one, take-suc xs i x (slice_get_within xs i x at), get_or_from_slice_get xs i x x at)

  -- one member less at the back
  pub drop_next : drop i xs ≡ x ∷ drop (i + 1) xs
  drop_next =
      rw (add-one, drop-cons xs i x (slice_get_within xs i x at), get_or_from_slice_get xs i x x at)

  -- a list around one of its members
  pub cut_at : xs ≡ take i xs ++ x ∷ drop (i + 1) xs
  cut_at = sym (take-append-drop i xs) ∙ ap (λ z. take i xs ++ z) drop_next

-- each byte is a digit
abbrev AreDigits : List ℕ → Type 0
AreDigits digits = EachIndex digits (λ k. IsAsciiDigit (slice_index digits k))

-- bytes are digits, or not all of them are
digits_or_not : (ds : List ℕ) → AreDigits ds ⊎ ¬ (AreDigits ds)
digits_or_not [] = inl (λ k within. absurd (omega arith))
digits_or_not (d ∷ ds) = ⊎_elim
    (λ one. ⊎_elim
    (λ more. inl (digits_more one more))
    (λ none. inr (λ all. none (λ k within. all (suc k) (omega arith))))
    (digits_or_not ds)) (λ none. inr (λ all. none (all 0 (omega arith)))) digit_or_not
  where
    digit_or_not : IsAsciiDigit d ⊎ ¬ (IsAsciiDigit d)
    digit_or_not = grind arith

    digits_more : IsAsciiDigit d → AreDigits ds → AreDigits (d ∷ ds)
    digits_more one more zero within = one
    digits_more one more (suc k) within = more k (omega arith)

-- of a number the first byte is the dash, and the others are digits, of which there are some
number_parts : (b : ℕ) (ds : List ℕ) → IsNumber (b ∷ ds) → (b ≡ 45) × (ds ≢ []) × AreDigits ds
number_parts b ds n = let is : b ∷ ds ≡ 45 ∷ n.digits = n.is in
    let same : n.digits ≡ ds = cc in (cc, rw same at n.some, rw same at n.each)

-- a word is a number or none
is_or_not : (word : List ℕ) → IsNumber word ⊎ ¬ (IsNumber word)
is_or_not [] = inr (λ n. let is : [] ≡ 45 ∷ n.digits = n.is in cc)
is_or_not (b ∷ []) = inr (λ n. (number_parts b [] n).1 refl)
is_or_not (b ∷ d ∷ ds) = ⊎_elim
    (λ dash. ⊎_elim
    (λ all. inl (record {
      digits = d ∷ ds;
      is = ap (λ x. x ∷ d ∷ ds) dash;
      some = λ none. cc;
      each = all;
    }))
    (λ none. inr (λ n. none (number_parts b (d ∷ ds) n).2)) (digits_or_not (d ∷ ds)))
    (λ other. inr (λ n. other (number_parts b (d ∷ ds) n).0)) (cases_eq b 45)

-- a word is a number that is a word, or none
pub number_or_not : (numbers : Bool) (word : List ℕ)
    → IsNumberWord numbers word ⊎ ¬ (IsNumberWord numbers word)
number_or_not true word =
    ⊎_elim (λ is. inl (refl, is)) (λ none. inr (λ both. none both.1)) (is_or_not word)
number_or_not false word = inr (λ both. let t : false ≡ true = both.0 in cc)

-- Each word but `--` has exactly one spelling: the one that a plain walk over its characters finds.

-- a text around its first `=`
abbrev split_equals : List ℕ → Option (List ℕ × List ℕ)
split_equals [] = None
split_equals (b ∷ bs) = if b ==
    61 then Some ([], bs) else option_map (λ p. (b ∷ p.0, p.1)) (split_equals bs)

-- a text without `=` has none in its rest
no_equals_tail : (b : ℕ) (bs : List ℕ) → HasNoEquals (b ∷ bs) → HasNoEquals bs
no_equals_tail b bs h i l = h (suc i) (omega arith)

-- a text without `=` doesn't begin with it
no_equals_head : (b : ℕ) (bs : List ℕ) → HasNoEquals (b ∷ bs) → (b == 61) ≡ false
no_equals_head b bs h = let n : b ≢ 61 = h 0 (omega arith) in grind (arith, nat_tests)

-- a text without `=`, behind another byte than `=`, makes a text without it
no_equals_cons : (b : ℕ) (bs : List ℕ) → (b == 61) ≡ false → HasNoEquals bs → HasNoEquals (b ∷ bs)
no_equals_cons b bs e h zero l = eqb-false b 61 e
no_equals_cons b bs e h (suc i) l = h i (omega arith)

-- a name without `=`, then `=` and a value: the text is split into these two
split_at : (n v : List ℕ) → HasNoEquals n → split_equals (n ++ 61 ∷ v) ≡ Some (n, v)
split_at [] v h = refl
split_at (b ∷ n) v h = rw (no_equals_head b n h, split_at n v (no_equals_tail b n h)) refl

-- a text without `=` isn't split
split_none : (n : List ℕ) → HasNoEquals n → split_equals n ≡ None
split_none [] h = refl
split_none (b ∷ n) h = rw (no_equals_head b n h, split_none n (no_equals_tail b n h)) refl

-- what a split says
abbrev Splits : List ℕ → Option (List ℕ × List ℕ) → Type 0
Splits bs None = HasNoEquals bs
Splits bs (Some p) = (bs ≡ p.0 ++ 61 ∷ p.1) × HasNoEquals p.0

-- what a split says of a text with one byte more in front, by whether it is `=`
splits_more : (b : ℕ) (bs : List ℕ) (t : Bool) (o : Option (List ℕ × List ℕ)) → (b == 61) ≡ t
    → Splits bs o
    → Splits (b ∷ bs) (if t then Some ([], bs) else option_map (λ p. (b ∷ p.0, p.1)) o)
splits_more b bs true o e h = (ap (λ x. x ∷ bs) (eqb-true b 61 e), λ i l. absurd (omega arith))
splits_more b bs false None e h = no_equals_cons b bs e h
splits_more b bs false (Some p) e h = (ap (λ x. b ∷ x) h.0, no_equals_cons b p.0 e h.1)

-- a split says where the first `=` of a text stands, or that there is none
splits : (bs : List ℕ) → Splits bs (split_equals bs)
splits [] = λ i l. absurd (omega arith)
splits (b ∷ bs) = splits_more b bs (b == 61) (split_equals bs) refl (splits bs)

module _ (names : ShortNames) (word : List ℕ) where
  -- joined characters, behind the flags fs
  abbrev walk_joined : List ℕ → List ℕ → Case × Spelling
  walk_joined fs [] = (JoinedFlags, Items (flags_of word fs))
  walk_joined fs (c ∷ cs) =
      if is_among names.flags c
      then (if is_among names.arguments c then
      (JoinedWithBoth, Ambiguous (length fs + 1)) else walk_joined (fs ++ c ∷ []) cs)
      else (if is_among names.arguments c then (
        JoinedWithArgument,
        Items (flags_of word fs ++ argument_of word c (encode_utf8_all cs)),
      ) else
      (JoinedWithNeither, Items (Word word ∷ [])))

  -- after `--`
  abbrev walk_long : List ℕ → Option (List ℕ × List ℕ) → Case × Spelling
  walk_long n None = (LongAlone, Items (Long n false word ∷ []))
  walk_long n (Some p) = (LongWithValue, Items (Long p.0 true word ∷ ArgWord p.1 ∷ []))

  -- after `-c`, split at `=`
  abbrev walk_value : ℕ → List ℕ → List ℕ → Case × Spelling
  walk_value c [] v = (ShortWithValue, Items (Short c true word ∷ ArgWord v ∷ []))
  walk_value c (x ∷ xs) v = (
    ShortWithLongValue,
    Items (Short c true word ∷ ArgWord (x ∷ xs ++ 61 ∷ v) ∷ []),
  )

  -- after `-c`: a value behind `=`, or nothing, or more joined characters
  abbrev walk_short : ℕ → List ℕ → Option (List ℕ × List ℕ) → Case × Spelling
  walk_short c cs (Some p) = walk_value c p.0 p.1
  walk_short c [] None = (ShortAlone, Items (Short c false word ∷ []))
  walk_short c (d ∷ cs) None = walk_joined [] (c ∷ d ∷ cs)

  -- after `-`
  abbrev walk_dash : List ℕ → Case × Spelling
  walk_dash [] = (DashAlone, Items (Word word ∷ []))
  walk_dash (c ∷ cs) = if c == 45 then walk_long (encode_utf8_all cs)
      (split_equals (encode_utf8_all cs)) else walk_short c cs (split_equals (encode_utf8_all cs))

  -- a walk over a word's characters: the case of the word, and what it spells
  abbrev walk : List ℕ → Case × Spelling
  walk [] = (PlainWord, Items (Word word ∷ []))
  walk (c ∷ cs) = if c == 45 then walk_dash cs else (PlainWord, Items (Word word ∷ []))

  -- the walk goes over flags
  over_flags : (fs gs cs : List ℕ) → All (IsKnownAs true false names) gs
      → walk_joined fs (gs ++ cs) ≡ walk_joined (fs ++ gs) cs
  over_flags fs [] cs h = ap (λ x. walk_joined x cs) (sym (append-nil fs))
  over_flags fs (g ∷ gs) cs h =
      let f = All-head (IsKnownAs true false names) g gs h in
      rw (f.as_flag, f.as_argument) (over_flags (fs ++ g ∷ []) gs cs
      (All-tail (IsKnownAs true false names) g gs h)
      ∙ ap (λ x. walk_joined x cs) (append_assoc fs (g ∷ []) gs))

  -- over joined characters the walk finds the case and the items of each spelling
  pub walk_finds_joined : (cs : List ℕ) (s : Spelling)
      (a : SpellsJoined names word cs s) → walk_joined [] cs ≡ (joined_case_of a, s)
  walk_finds_joined cs s (flags h) =
      ap (walk_joined []) (sym (append-nil cs)) ∙ over_flags [] cs [] h
  walk_finds_joined cs s (argument fs c rest e h i) =
      ap (walk_joined []) e
      ∙ (over_flags [] fs (c ∷ rest) h ∙ rw (i.as_flag, i.as_argument) refl)
  walk_finds_joined cs s (neither fs c rest e h i) =
      ap (walk_joined []) e
      ∙ (over_flags [] fs (c ∷ rest) h ∙ rw (i.as_flag, i.as_argument) refl)
  walk_finds_joined cs s (both fs c rest e h i) =
      ap (walk_joined []) e
      ∙ (over_flags [] fs (c ∷ rest) h ∙ rw (i.as_flag, i.as_argument) refl)

  -- characters that begin with `-`
  after_dash : (cs rest : List ℕ) → encode_utf8_all cs ≡ 45 ∷ rest → (es : List ℕ) × (cs ≡ 45 ∷ es)
      × (encode_utf8_all es ≡ rest)
  after_dash cs rest e = cons_from_encodes cs rest 45
      (e ∙ ap (λ x. x ++ rest) (sym (encode_ascii 45 (lit< tt))))

  -- the walk over a word that doesn't begin with `-` finds the word itself
  walk_plain : (cs : List ℕ) → word ≡ encode_utf8_all cs → ((rest : List ℕ) → word ≢ 45 ∷ rest)
      → walk cs ≡ (PlainWord, Items (Word word ∷ []))
  walk_plain cs w h = grind (arith, ne_eqb, encode_utf8_all, encode_utf8, encode_ascii, lit<)

  -- in a word that begins with `--` the walk comes to what is behind it
  to_long : (cs n : List ℕ) → word ≡ encode_utf8_all cs → word ≡ 45 ∷ 45 ∷ n
      → walk cs ≡ walk_long n (split_equals n)
  to_long cs n w e = grind (arith, after_dash)

  -- in a word that begins with `-c` the walk comes to what is behind it
  to_short : (cs : List ℕ) (c : ℕ) (tail : List ℕ) → word ≡ encode_utf8_all cs
      → word ≡ 45 ∷ (encode_utf8 c ++ tail) → c ≢ 45 → (fs : List ℕ) × (encode_utf8_all fs ≡ tail)
      × (walk cs ≡ walk_short c fs (split_equals tail))
  to_short cs c tail w e n = grind (arith, after_dash, encode_utf8, cons_from_encodes, ne_eqb)

  -- behind `-c` a text before `=` that isn't empty belongs to the value
  long_value_of : (c : ℕ) (r v : List ℕ) → r ≢ [] → walk_value c r v ≡ (
    ShortWithLongValue,
    Items (Short c true word ∷ ArgWord (r ++ 61 ∷ v) ∷ []),
  )
  long_value_of c [] v n = absurd (n refl)
  long_value_of c (x ∷ xs) v n = refl

  -- the walk finds the case and the items of each spelling
  walk_finds : (cs : List ℕ) (s : Spelling) → word ≡ encode_utf8_all cs
      → (a : SpellsByDash names word s) → walk cs ≡ (dash_case_of a, s)
  walk_finds cs s w (plain h) = walk_plain cs w h
  walk_finds cs s w (dash e) =
      let one = after_dash cs [] (sym w ∙ e) in
      ap (walk) (one.1 ∙ ap (λ x. 45 ∷ x) (encodes_same one.0 [] one.2))
  walk_finds cs s w (long n e p h) = to_long cs n w e ∙ ap (walk_long n) (split_none n h)
  walk_finds cs s w (long_value n v e h) =
      to_long cs (n ++ 61 ∷ v) w e
      ∙ ap (walk_long (n ++ 61 ∷ v)) (split_at n v h)
  walk_finds cs s w (short c e n) =
      let t = to_short cs c [] w
      (e ∙ ap (λ x. 45 ∷ x) (sym (append-nil (encode_utf8 c)))) n in
      t.2 ∙ ap (λ x. walk_short c x None) (encodes_same t.0 [] t.1)
  walk_finds cs s w (short_value c v e n) = (to_short cs c (61 ∷ v) w e n).2
  walk_finds cs s w (short_long_value c r v e n p h) =
      (to_short cs c (r ++ 61 ∷ v) w e n).2
      ∙ (ap (walk_short c (to_short cs c (r ++ 61 ∷ v) w e n).0)
      (split_at r v h) ∙ long_value_of c r v p)
  walk_finds cs s w (joined c d ds x e n h j) =
      let t = to_short cs c (encode_utf8_all (d ∷ ds)) w e n in
      let same : t.0 ≡ d ∷ ds = encodes_same t.0 (d ∷ ds) t.1 in
      t.2 ∙ (ap (walk_short c t.0) (split_none (encode_utf8_all (d ∷ ds)) h)
      ∙ (ap (λ y. walk_short c y None) same
      ∙ walk_finds_joined (c ∷ d ∷ ds) s j))

  -- what the walk finds is a spelling
  joined_by : (all fs : List ℕ) (c : ℕ) (cs : List ℕ) (f a : Bool)
      → all ≡ fs ++ c ∷ cs → All (IsKnownAs true false names) fs → is_among names.flags c ≡ f
      → is_among names.arguments c ≡ a → (All (IsKnownAs true false names) (fs ++ c ∷ [])
      → SpellsJoined names word all (walk_joined (fs ++ c ∷ []) cs).1)
      → SpellsJoined names word all (walk_joined fs (c ∷ cs)).1
  joined_by all fs c cs true true e h p q more =
      rw (p, q) (both fs c cs e h (record { as_flag = p; as_argument = q }))
  joined_by all fs c cs true false e h p q more =
      rw (p, q) (more (All-push (IsKnownAs true false names) fs c h
      (record { as_flag = p; as_argument = q })))
  joined_by all fs c cs false true e h p q more =
      rw (p, q) (argument fs c cs e h (record { as_flag = p; as_argument = q }))
  joined_by all fs c cs false false e h p q more =
      rw (p, q) (neither fs c cs e h (record { as_flag = p; as_argument = q }))

  -- joined characters spell what the walk over them finds
  finds_joined : (all fs cs : List ℕ) → all ≡ fs ++ cs → All (IsKnownAs true false names) fs
      → SpellsJoined names word all (walk_joined fs cs).1
  finds_joined all fs [] e h =
      let same : all ≡ fs = e ∙ append-nil fs in
      subst (λ x. SpellsJoined names word all (Items (flags_of word x))) same
      (flags (subst (All (IsKnownAs true false names)) (sym same) h))
  finds_joined all fs (c ∷ cs) e h =
      joined_by all fs c cs (is_among names.flags c)
      (is_among names.arguments c) e h refl refl
      (λ g. finds_joined all (fs ++ c ∷ []) cs (e ∙ sym (append_assoc fs (c ∷ []) cs)) g)

  -- a word that begins with `--` spells what the walk finds after it
  finds_long : (n : List ℕ) (o : Option (List ℕ × List ℕ)) → word ≡ 45 ∷ 45 ∷ n → n ≢ []
      → Splits n o → SpellsByDash names word (walk_long n o).1
  finds_long n None w p h = long n w p h
  finds_long n (Some p) w q h = long_value p.0 p.1 (w ∙ ap (λ x. 45 ∷ 45 ∷ x) h.0) h.1

  -- a word `-c=v` or `-cr=v` spells what the walk finds after `-c`
  finds_value : (c : ℕ) (r v : List ℕ) → word ≡ 45 ∷ (encode_utf8 c ++ (r ++ 61 ∷ v)) → c ≢ 45
      → HasNoEquals r → SpellsByDash names word (walk_value c r v).1
  finds_value c [] v w n h = short_value c v w n
  finds_value c (x ∷ xs) v w n h = short_long_value c (x ∷ xs) v w n (λ e. cc) h

  -- a word that begins with `-c` spells what the walk finds after it
  finds_short : (c : ℕ) (cs : List ℕ)
      (o : Option (List ℕ × List ℕ)) → word ≡ 45 ∷ (encode_utf8 c ++ encode_utf8_all cs) → c ≢ 45
      → Splits (encode_utf8_all cs) o → SpellsByDash names word (walk_short c cs o).1
  finds_short c cs (Some p) w n h =
      finds_value c p.0 p.1 (w ∙ ap (λ x. 45 ∷ (encode_utf8 c ++ x)) h.0) n h.1
  finds_short c [] None w n h = short c (w ∙ ap (λ x. 45 ∷ x) (append-nil (encode_utf8 c))) n
  finds_short c (d ∷ ds) None w n h =
      joined c d ds _ w n h (finds_joined (c ∷ d ∷ ds) [] (c ∷ d ∷ ds) refl
      (λ k e l. absurd (omega arith)))

  -- the bytes of characters that begin with `-`: its byte, then those of the others
  dash_encodes : (c : ℕ) (cs : List ℕ) → c ≡ 45
      → encode_utf8 c ++ encode_utf8_all cs ≡ 45 ∷ encode_utf8_all cs
  dash_encodes c cs d = ap (λ x. x ++ encode_utf8_all cs)
      (ap encode_utf8 d ∙ encode_ascii 45 (lit< tt))

  -- a word that begins with `-` spells what the walk finds, by whether another `-` follows
  dash_by : (c : ℕ) (cs : List ℕ) (b : Bool) → (c == 45) ≡ b
      → word ≡ 45 ∷ (encode_utf8 c ++ encode_utf8_all cs) → word ≢ 45 ∷ 45 ∷ []
      → SpellsByDash names word (walk_dash (c ∷ cs)).1
  dash_by c cs true e w n =
      let at : word ≡ 45 ∷ 45 ∷ encode_utf8_all cs =
      w ∙ ap (λ x. 45 ∷ x) (dash_encodes c cs (eqb-true c 45 e)) in
      rw e (finds_long (encode_utf8_all cs) (split_equals (encode_utf8_all cs)) at
      (λ z. n (at ∙ ap (λ x. 45 ∷ 45 ∷ x) z)) (splits (encode_utf8_all cs)))
  dash_by c cs false e w n =
      rw e (finds_short c cs (split_equals (encode_utf8_all cs)) w (eqb-false c 45 e)
      (splits (encode_utf8_all cs)))

  -- a word that begins with `-` spells what the walk finds after it
  finds_dash : (cs : List ℕ) → word ≡ 45 ∷ encode_utf8_all cs
      → word ≢ 45 ∷ 45 ∷ [] → SpellsByDash names word (walk_dash cs).1
  finds_dash [] w n = dash w
  finds_dash (c ∷ cs) w n = dash_by c cs (c == 45) refl w n

  -- a word spells what the walk over it finds, by whether it begins with `-`
  finds_by : (c : ℕ) (cs : List ℕ) (b : Bool) → (c == 45) ≡ b
      → word ≡ encode_utf8 c ++ encode_utf8_all cs → word ≢ 45 ∷ 45 ∷ []
      → SpellsByDash names word (walk (c ∷ cs)).1
  finds_by c cs true e w n = rw e (finds_dash cs (w ∙ dash_encodes c cs (eqb-true c 45 e)) n)
  finds_by c cs false e w n =
      rw e (plain (λ rest h. eqb-false c 45 e
      (encode_same c 45 (encode_utf8_all cs) rest
      (sym w ∙ (h ∙ ap (λ x. x ++ rest) (sym (encode_ascii 45 (lit< tt)))))).0))

  -- a word other than `--` spells what the walk over it finds
  finds : (cs : List ℕ) → word ≡ encode_utf8_all cs → word ≢ 45 ∷ 45 ∷ []
      → SpellsByDash names word (walk cs).1
  finds [] w n = plain (λ rest h. let e : [] ≡ 45 ∷ rest = sym w ∙ h in cc)
  finds (c ∷ cs) w n = finds_by c cs (c == 45) refl w n

-- exactly one case holds of a word that isn't a number, with one answer
record HasOneByDash (names : ShortNames) (word : List ℕ) : Type 0 where
  spelling : Spelling
  spells : SpellsByDash names word spelling
  only : (s : Spelling) (a : SpellsByDash names word s)
      → (dash_case_of a ≡ dash_case_of spells) × (s ≡ spelling)

-- it is the one that the walk finds
one_by_dash : (names : ShortNames) (word : List ℕ) → IsUtf8 word → word ≢ codes "--"
    → HasOneByDash names word
one_by_dash names word u n =
    let cs = u.0 in
    let w : word ≡ encode_utf8_all cs = sym u.1.1 in
    let found = finds names word cs w n in
    let own = walk_finds names word cs (walk names word cs).1 w found in
    record {
      spelling = (walk names word cs).1;
      spells = found;
      only = λ s a. let e = walk_finds names word cs s w a in (
        ap (λ p. p.0) (sym e ∙ own),
        sym (ap (λ p. p.1) e),
      );
    }

-- a number that is a word has no other case
only_number : (known : Known) (word : List ℕ) → IsNumberWord known.numbers word → (s : Spelling)
    (a : Spells known word s) → (case_of a ≡ NumberWord) × (s ≡ Items (Word word ∷ []))
only_number known word is s (number_word a) = (refl, refl)
only_number known word is s (by_dash t none a) = absurd (none is)

-- another word hasn't that case
only_other : (known : Known) (word : List ℕ) → ¬ (IsNumberWord known.numbers word)
    → (one : HasOneByDash known.names word) (s : Spelling) (a : Spells known word s)
    → (case_of a ≡ dash_case_of one.spells) × (s ≡ one.spelling)
only_other known word none one s (number_word a) = absurd (none a)
only_other known word none one s (by_dash t not_one a) = one.only s a

-- each word but `--` has exactly one spelling
pub one_spelling : SpellingsAreUnique
one_spelling known word u n = ⊎_elim
    (λ is. record {
      spelling = Items (Word word ∷ []);
      spells = number_word is;
      only = only_number known word is;
    })
    (λ none. let one = one_by_dash known.names word u n in record {
      spelling = one.spelling;
      spells = by_dash one.spelling none one.spells;
      only = only_other known word none one;
    })
    (number_or_not known.numbers word)
