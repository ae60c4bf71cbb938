-- What an answer says by the words: of one field, of those in front of commands, of a command, and
-- of the words behind `--`.
use Rattle.std.proofs.Common.{slice_index_or, slice_index, true≢false, length, IsUtf8, Option, zero}
use Rattle.std.proofs.Common.{IsSome, Result, ⊎_elim, false, codes, subst, arith, ◌++◌, None, Some}
use Rattle.std.proofs.Common.{IfOk, Bool, true, List, refl, cond, ◌==◌, ◌&&◌, ◌≡◌, ◌≢◌, suc, ◌∷◌, ℕ}
use Rattle.std.proofs.lemmas.List.Elements.{Contains-append_right, Contains-append_cases, All-take}
use Rattle.std.proofs.lemmas.List.Elements.{Contains-append_left, All-contains_itself, All-contains}
use Rattle.std.proofs.lemmas.List.Elements.{recursion_from_All, Contains-get_or, filter_passes}
use Rattle.std.proofs.lemmas.List.Sums.{AllPass-from_list_all, count_by_more_yes, sum_by-take-le}
use Rattle.std.specs.List.{position_or_len, AllByRecursion, Contains, list_all, list_any, AllZip}
use Rattle.bpaf_words.specs.Line.{IsNumberWord, SpellsJoined, HasNoMarker, HasNoEquals, argument_of}
use Rattle.bpaf_words.specs.Line.{ShortNames, dash_char, IsKnownAs, SpellAll, argument, flags_of}
use Rattle.bpaf_exact.specs.Pieces.{takes_argument, stands_behind, empty_stays, other_stays, others}
use Rattle.bpaf_exact.specs.Pieces.{is_own_role, takes_flag, LinePiece, is_value, no_cells, IsNamed}
use Rattle.bpaf_exact.specs.ProgramForm.{product_roles, whole_program, opens_later, line_cells}
use Rattle.bpaf_exact.specs.Says.{says_variable, says_present, ArgumentSays, OptionalSays, FlagSays}
use Rattle.bpaf_exact.specs.Says.{FallbackSays, says_absent, first_item, RepeatSays, scope_said}
use Rattle.bpaf_record.specs.Program.{ends_in_commands, program_form, cells_say, says, is_flat}
use Rattle.std.proofs.Common.{◌+◌, map, sym, ◌∙◌, All, not, ◌<◌, ◌⊎◌, inl, inr, ap₂, [], ap}
use Rattle.std.proofs.lemmas.Bool.{or_cases, not-true, and_parts, ltb-true}
use Rattle.std.proofs.{lemmas.List.Folds.list_any-append, lemmas.List.Elements.All-filter}
use Rattle.std.proofs.{lemmas.List.Sums.length-filter, lemmas.Str.encode_ascii}
use Rattle.std.specs.{Prelude.flat_map, Prelude.encode_utf8_all, Char.IsAsciiDigit, Char.is_ascii}
use Rattle.std.specs.{Option.option_to_list, List.filter}
use Rattle.bpaf_base.specs.declared.arg.Arg.TheVariants.{PosWord, Short, Long}
use Rattle.bpaf_base.specs.Items.{is_text_among, is_key_of, item_text, is_among}
use Rattle.bpaf_base.specs.declared.arg.Arg.{Arg}
use Rattle.bpaf_doc.specs.Names.{Names}
use Rattle.bpaf_words.specs.Line.{by_dash, Spells, joined, Known, Items, short, flags, long}
use Rattle.bpaf_words.specs.Arguments.{Given}
use Rattle.bpaf_words.proofs.OneSpelling.{one_spelling}
use Rattle.bpaf_line.specs.{declared.failure.ParseFailure.ParseFailure, Situation.Context}
use Rattle.bpaf_line.specs.Taking.{IsContext}
use Rattle.bpaf_laws.specs.Command.{is_one_of}
use Rattle.bpaf_grammar.specs.declared.position.Position.TheVariants.{NonStrict, Strict}
use Rattle.bpaf_grammar.specs.Grammar.{Grammar}
use Rattle.bpaf.specs.Marker.{is_marker_word, words_before, words_behind}
use Rattle.bpaf.specs.Positional.{accepts}
use Rattle.bpaf.proofs.Sides.{all_spelled, of_words}
use Rattle.bpaf_exact.proofs.Says.{argument_needs, repeat_needs, word_values, NeedsPiece, no_values}
use Rattle.bpaf_exact.proofs.{Names.of_front_one, Places.test_named}
use Rattle.bpaf_exact.specs.ProgramForm.{opens_here, flag_roles, WordValue, Opens, CellsValue}
use Rattle.bpaf_exact.specs.Says.{says_some, says_none, WordSays, CutSays, keyed, Said, scope_told}
use Rattle.bpaf_exact.specs.Pieces.{Roles, Cells, Takes, Owns, Cut, One, Two}
use Rattle.bpaf_exact.specs.Flat.{OneWord, TakesFirst, back, first_later, first_one, first_two, front}
use Rattle.bpaf_exact.specs.Flat.{Gap, map_closure}
use Rattle.bpaf_exact.specs.Parts.{KeyFirst, Part, Turn, absent, key_part, left_first, part_closed}
use Rattle.bpaf_exact.specs.Parts.{part_group, part_optional, present as here, right_first}
use Rattle.bpaf_exact.specs.ProgramForm.{ProgramForm}
use Rattle.bpaf_record.specs.Record.{IsProgramValueOf, IsSpelledItem, TellsOfWords, WasCalled}
use Rattle.bpaf_record.specs.Record.{WasSpelled}
use Rattle.bpaf_record.specs.Program.{make_of, scope_by, tells_cells}
use Rattle.bpaf_record.proofs.Running.{each_present, cut_kept, on_line, present}

module _ (known : Known) where
  -- one of these words spells a part, whose items are among those of all
  part_of : (words : List (List ℕ)) (parts : List (List Arg)) (word : List ℕ)
      → AllZip (λ word items. Spells known word (Items items)) words parts → Contains words word
      → (part : List Arg) × Spells known word (Items part)
      × ((item : Arg) → Contains part item → Contains (flat_map (λ items. items) parts) item)
  part_of [] parts word spelled (k, within, is) = absurd (omega arith)
  part_of (first ∷ words) [] word spelled among = absurd spelled
  part_of (first ∷ words) (items ∷ parts) word spelled (zero, within, is) = (
    items,
    subst (λ word. Spells known word (Items items)) is spelled.0,
    Contains-append_left items (flat_map (λ items. items) parts),
  )
  part_of (first ∷ words) (items ∷ parts) word spelled (suc k, within, is) =
      grind (arith, Contains-append_right, part_of words parts word spelled.1 (k, omega arith, is))

  -- the items that one of these words spells are among those of all
  among_all : (words : List (List ℕ)) (items own : List Arg) (word : List ℕ) (item : Arg)
      → SpellAll known words items → All IsUtf8 words → HasNoMarker words → Contains words word
      → Spells known word (Items own) → Contains own item → Contains items item
  among_all words items own word item all texts none among spells there =
      let one = one_spelling known word (All-contains IsUtf8 words word texts among)
      (All-contains (λ word. word ≢ codes "--") words word none among) in
      let part = part_of words all.parts word all.spelled among in
      let these : Items own ≡ one.spelling = (one.only (Items own) spells).1 in
      let those : Items part.0 ≡ one.spelling = (one.only (Items part.0) part.1).1 in
      let same : own ≡ part.0 = cc in
      subst (λ items. Contains items item) (sym all.joined)
      (part.2 item (subst (λ items. Contains items item) same there))

module _ (test : Arg → Bool) where
  -- one that passes the test
  abbrev pub HasPassing : List Arg → Type 0
  HasPassing items = (item : Arg) × Contains items item × (test item ≡ true)

  -- what is kept of items passes
  of_kept : (items : List Arg) → filter test items ≢ [] → HasPassing items
  of_kept items some = first (filter test items) some
      (All-filter test (Contains items) items (All-contains_itself items))
      (filter_passes test items)
    where
      first : (kept : List Arg) → kept ≢ [] → All (Contains items) kept
          → All (λ item. test item ≡ true) kept → HasPassing items
      first [] some among passes = absurd (some refl)
      first (item ∷ kept) some among passes =
          (item, among 0 item (omega arith), passes 0 item (omega arith))

  -- items of which one passes keep some
  some_kept : (items : List Arg) → HasPassing items → filter test items ≢ []
  some_kept items (item, (k, within, is), passes) none =
      let more = count_by_more_yes test items k item within (ap test is ∙ passes) in
      let part = sum_by-take-le (λ item. cond (test item) 1 0) items (k + 1) in
      let all = length-filter test items in
      let size = ap length none in
      omega arith

  module _ (known : Known) (given : Given) (context : Context) (is : IsContext known given context)
    where
      -- an item of the line that passes is spelled by one of the words before the first `--`
      pub item_spelled : ((text : List ℕ) → test (PosWord text) ≡ false)
          → HasPassing (present (line_cells context)) → IsSpelledItem known test given.words
      item_spelled not_behind (item, among, passes) =
          All-contains (λ item. test item ≡ true → IsSpelledItem known test given.words)
          (present (line_cells context)) item (each_present
          (λ item. test item ≡ true → IsSpelledItem known test given.words) is
          (λ word before items spells k d within passes. record {
            word = word;
            before = before;
            spells = record {
              items = items;
              spells = spells;
              key = slice_index_or items k d;
              among = Contains-get_or items k d within;
              is_key = passes;
            };
          }) (λ text passes. absurd (true≢false (sym passes ∙ not_behind text)))) among passes

      -- an item that one of these words spells stands on the line
      spelled_item : All IsUtf8 given.words → IsSpelledItem known test given.words
          → HasPassing (present (line_cells context))
      spelled_item texts one =
          let here = on_line known given.words context.line context.marker is.is_line in
          let key = one.spells.key in (
            key,
            subst (λ items. Contains items key) (sym here.are)
                (Contains-append_left here.items (map PosWord (words_behind given.words)) key
                (among_all known (words_before given.words) here.items one.spells.items one.word key
                here.spells
                (All-take IsUtf8 (position_or_len is_marker_word given.words) given.words texts)
                here.none one.before one.spells.spells one.spells.among)),
            one.spells.is_key,
          )

module _ (names : Names) where
  -- the value of a key is none
  value_is_no_key : (w : Arg) → is_value w ≡ true → is_key_of names w ≡ false
  value_is_no_key w value = grind arith

  -- the keys that begin pieces are the first items of those that begin with one
  keys_first : (os : List LinePiece)
      → filter (is_key_of names) (map first_item os) ≡ map first_item (keyed (names ∷ []) os)
  keys_first [] = refl
  keys_first (o ∷ os) = grind (arith, keys_first os)

  module _ (known : Known) (given : Given) (context : Context) (on : IsContext known given context)
      (r : Roles) (os : List LinePiece) (cut : Cut r (line_cells context) os) where
    -- the keys on a line are those that begin its pieces
    keys_on : filter (is_key_of names) (present (line_cells context))
        ≡ map first_item (keyed (names ∷ []) os)
    keys_on = cut_kept (is_key_of names) value_is_no_key cut ∙ keys_first os

    -- A piece that begins with a key is spelled by one of the words before the first `--`.
    pub piece_was_spelled : keyed (names ∷ []) os ≢ [] → WasSpelled known names given.words
    piece_was_spelled some = item_spelled (is_key_of names) known given context on (λ text. refl)
        (of_kept (is_key_of names) (present (line_cells context))
        (λ none. some (map_none (keyed (names ∷ []) os) (sym keys_on ∙ none))))
      where
        map_none : (ps : List LinePiece) → map first_item ps ≡ [] → ps ≡ []
        map_none [] e = refl
        map_none (p ∷ ps) e = absurd cc

    -- A key that one of the words before the first `--` spells has a piece that begins with it.
    pub spelled_has_piece : All IsUtf8 given.words → WasSpelled known names given.words
        → keyed (names ∷ []) os ≢ []
    spelled_has_piece texts spelled none =
        some_kept (is_key_of names) (present (line_cells context))
        (spelled_item (is_key_of names) known given context on texts spelled)
        (keys_on ∙ ap (map first_item) none)

-- A word that spells a key: the key by itself, whatever names are known, or joined letters.

-- a long name that stands by itself: not empty, and without `=`
abbrev pub is_long_name : List ℕ → Bool
is_long_name [] = false
is_long_name (b ∷ bs) = list_all (λ byte. not (byte == 61)) (b ∷ bs)

-- it is not empty
is_some_name : (name : List ℕ) → is_long_name name ≡ true → name ≢ []
is_some_name name is none = grind arith

-- no byte of it is `=`
has_no_equals : (name : List ℕ) → is_long_name name ≡ true → HasNoEquals name
has_no_equals xs is i within same = grind (arith, AllPass-from_list_all)

-- `--name` is no number
long_is_no_number : (numbers : Bool) (name : List ℕ) → ¬ (IsNumberWord numbers (codes "--" ++ name))
long_is_no_number numbers name (on, number) =
    let is : 45 ∷ 45 ∷ name ≡ 45 ∷ number.digits = number.is in
    let same : number.digits ≡ 45 ∷ name = cc in
    let digit : IsAsciiDigit (slice_index (45 ∷ name) 0) =
    subst (λ ds. (i : ℕ) → i < length ds → IsAsciiDigit (slice_index ds i)) same number.each 0
    (omega arith) in
    omega (arith, digit.0)

-- `--name` among the words before the first `--` spells the key of that name
pub long_is_spelled : (known : Known) (names : Names) (words : List (List ℕ)) (name : List ℕ)
    → Contains (words_before words) (codes "--" ++ name) → is_long_name name ≡ true
    → is_text_among names.longs name ≡ true → WasSpelled known names words
long_is_spelled known names words name there is key = record {
  word = codes "--" ++ name;
  before = there;
  spells = record {
    items = Long name false (codes "--" ++ name) ∷ [];
    spells = by_dash (Items (Long name false (codes "--" ++ name) ∷ []))
        (long_is_no_number known.numbers name)
        (long name refl (is_some_name name is) (has_no_equals name is));
    key = Long name false (codes "--" ++ name);
    among = (0, omega arith, refl);
    is_key = key;
  };
}

-- `-c` spells the key of an ASCII character, where no number is a word
pub short_is_spelled : (known : Known) → known.numbers ≡ false → (names : Names)
    (words : List (List ℕ)) (c : ℕ) → Contains (words_before words) (codes "-" ++ c ∷ []) → c < 128
    → c ≢ dash_char → is_among names.shorts c ≡ true → WasSpelled known names words
short_is_spelled known off names words c there ascii is key = record {
  word = codes "-" ++ c ∷ [];
  before = there;
  spells = record {
    items = Short c false (codes "-" ++ c ∷ []) ∷ [];
    spells = by_dash (Items (Short c false (codes "-" ++ c ∷ []) ∷ []))
        (λ number. let wrong : true ≡ false = sym number.0 ∙ off in cc)
        (short c (ap (λ bytes. codes "-" ++ bytes) (sym (encode_ascii c ascii))) is);
    key = Short c false (codes "-" ++ c ∷ []);
    among = (0, omega arith, refl);
    is_key = key;
  };
}

-- letters that may be joined: ASCII, and none is `=`
abbrev pub are_letters : List ℕ → Bool
are_letters letters = list_all (λ c. is_ascii c && not (c == 61)) letters

-- they are flags, and no arguments
abbrev pub are_flags : ShortNames → List ℕ → Bool
are_flags names letters =
    list_all (λ c. is_among names.flags c && not (is_among names.arguments c)) letters

-- letters are the bytes that spell them
letters_encoded : (letters : List ℕ) → are_letters letters ≡ true
    → encode_utf8_all letters ≡ letters
letters_encoded [] are = refl
letters_encoded (c ∷ cs) are =
    let each = and_parts (is_ascii c && not (c == 61)) (are_letters cs) are in
    let here = and_parts (is_ascii c) _ each.0 in
    ap₂ ◌++◌ (encode_ascii c (ltb-true c 128 here.0)) (letters_encoded cs each.1)

-- none of those is `=`
no_equals : (letters : List ℕ) → are_letters letters ≡ true → HasNoEquals (encode_utf8_all letters)
no_equals letters are i within same =
    grind (arith, AllPass-from_list_all, letters_encoded letters are)

-- each is known as a flag
known_flags : (names : ShortNames) (letters : List ℕ) → are_flags names letters ≡ true
    → All (IsKnownAs true false names) letters
known_flags names letters are = grind (arith, AllPass-from_list_all)

-- a key that one of the letters names is among the items of the flags
flag_among : (names : Names) (text letters : List ℕ)
    → list_any (λ c. is_among names.shorts c) letters ≡ true
    → HasPassing (is_key_of names) (flags_of text letters)
flag_among names text [] one = absurd cc
flag_among names text (c ∷ cs) one = ⊎_elim
    (λ (here : is_among names.shorts c ≡ true). (Short c false text, (0, omega arith, refl), here))
    (λ (behind : list_any (λ c. is_among names.shorts c) cs ≡ true).
    let one = flag_among names [] cs behind in
    (one.0, Contains-append_right (Short c false text ∷ []) (flags_of [] cs) one.0 one.1, one.2))
    (or_cases (is_among names.shorts c) _ one)

-- the key of the argument behind joined flags is among their items
argument_among : (names : Names) (text : List ℕ) (c : ℕ) (rest : List ℕ)
    → list_any (λ c. is_among names.shorts c) (c ∷ []) ≡ true
    → HasPassing (is_key_of names) (argument_of text c rest)
argument_among names text c [] one = (
  Short c false text,
  (0, omega arith, refl),
  ⊎_elim (λ e. e)
      (λ (no : false ≡ true). cc) (or_cases (is_among names.shorts c) false one),
)
argument_among names text c (b ∷ rest) one = (
  Short c true text,
  (0, omega arith, refl),
  ⊎_elim
      (λ e. e) (λ (no : false ≡ true). cc) (or_cases (is_among names.shorts c) false one),
)

module _ (known : Known) (plain : known.numbers ≡ false) (names : Names) (words : List (List ℕ))
  where
    -- where a word's letters spell items, and one is a key with one of the names, that is spelled
    joined_spells : (c d : ℕ) (cs : List ℕ) (items : List Arg)
        → Contains (words_before words) (codes "-" ++ c ∷ d ∷ cs) → c ≢ dash_char
        → are_letters (c ∷ d ∷ cs) ≡ true
        → SpellsJoined known.names (codes "-" ++ c ∷ d ∷ cs) (c ∷ d ∷ cs) (Items items)
        → HasPassing (is_key_of names) items → WasSpelled known names words
    joined_spells c d cs items there dash letters spells key = record {
      word = codes "-" ++ c ∷ d ∷ cs;
      before = there;
      spells = record {
        items = items;
        spells = by_dash (Items items)
            (λ number. let wrong : true ≡ false = sym number.0 ∙ plain in cc)
            (joined c d cs (Items items)
            (ap (λ bytes. codes "-" ++ bytes) (sym (letters_encoded (c ∷ d ∷ cs) letters))) dash
            (no_equals (d ∷ cs) (and_parts (is_ascii c && not (c == 61)) _ letters).1) spells);
        key = key.0;
        among = key.1;
        is_key = key.2;
      };
    }

    -- Joined flags spell each key that one of the letters names.
    pub flags_are_spelled : (c d : ℕ) (cs : List ℕ)
        → Contains (words_before words) (codes "-" ++ c ∷ d ∷ cs) → c ≢ dash_char
        → are_letters (c ∷ d ∷ cs) ≡ true → are_flags known.names (c ∷ d ∷ cs) ≡ true
        → list_any (λ c. is_among names.shorts c) (c ∷ d ∷ cs) ≡ true → WasSpelled known names words
    flags_are_spelled c d cs there dash letters are one =
        joined_spells c d cs (flags_of (codes "-" ++ c ∷ d ∷ cs) (c ∷ d ∷ cs)) there dash letters
        (flags (known_flags known.names (c ∷ d ∷ cs) are)) (flag_among names _ (c ∷ d ∷ cs) one)

    -- Flags joined with an argument and its value, as `-vn1`, or one alone, as `-n1`, spell its
    -- key.
    pub value_is_spelled : (first second : ℕ) (more before : List ℕ) (c : ℕ) (value : List ℕ)
        → first ∷ second ∷ more ≡ before ++ c ∷ value
        → Contains (words_before words) (codes "-" ++ first ∷ second ∷ more) → first ≢ dash_char
        → are_letters (first ∷ second ∷ more) ≡ true → are_flags known.names before ≡ true
        → is_among known.names.flags c ≡ false → is_among known.names.arguments c ≡ true
        → list_any (λ c. is_among names.shorts c) (before ++ c ∷ []) ≡ true
        → WasSpelled known names words
    value_is_spelled first second more before c value cut there dash letters are no_flag takes one =
        let text = codes "-" ++ first ∷ second ∷ more in
        let own = flags_of text before in
        let with_value = argument_of text c (encode_utf8_all value) in
        joined_spells first second more (own ++ with_value) there dash letters
        (argument before c value cut (known_flags known.names before are)
        (record { as_flag = no_flag; as_argument = takes }))
        (⊎_elim
        (λ (here : list_any (λ c. is_among names.shorts c) before ≡ true).
        let key = flag_among names text before here in
        (key.0, Contains-append_left own with_value key.0 key.1, key.2))
        (λ (behind : list_any (λ c. is_among names.shorts c) (c ∷ []) ≡ true).
        let key = argument_among names text c (encode_utf8_all value) behind in
        (key.0, Contains-append_right own with_value key.0 key.1, key.2))
        (or_cases (list_any (λ c. is_among names.shorts c) before) _
        (sym (list_any-append (λ c. is_among names.shorts c) before (c ∷ [])) ∙ one)))

-- What an answer to words says of one field, by the words.

-- what follows of a value that says so is said of the answer
pub answer_says : {T : Type 0} {P Q : T → Type 0} (r : Result T ParseFailure) → IfOk r P
    → ((v : T) → P v → Q v) → IfOk r Q
answer_says x holds so = grind arith

-- pieces that are a key's own on the words' line: with one, a word before the first `--` spells it
pub record OwnOf (known : Known) (words : List (List ℕ)) (key : Names) (os : List LinePiece)
    : Type 0 where
  pub spelled : os ≢ [] → WasSpelled known key words

module _ {known : Known} {words : List (List ℕ)} {key : Names} {os : List LinePiece}
    (own : OwnOf known words key os) where
  -- one of the words before the first `--` spells the key, by the names of a caller
  abbrev IsKeySpelled : Type 0
  IsKeySpelled = (names : Names) → key ≡ names → WasSpelled known names words

  -- A key with a piece of its own was spelled.
  pub key_spelled : os ≢ [] → IsKeySpelled
  key_spelled some names same = subst (λ z. WasSpelled known z words) same (own.spelled some)

  -- The key of a value that needs a piece was spelled.
  pub value_spelled : {A : Type 0} {inside : Said A} {x : A} → NeedsPiece inside
      → inside os x → IsKeySpelled
  value_spelled needs so = grind (arith, key_spelled)

  -- The key of an argument's value was spelled where no variable of its is set.
  pub argument_spelled : {A : Type 0} {means : List ℕ → A → Type 0} {last : Bool}
      {set : Option (List ℕ)} {x : A} → ArgumentSays means last set os x → set ≡ None → IsKeySpelled
  argument_spelled {A} {means} {last} {set} {x} so unset =
      value_spelled {x = x} (argument_needs {means = means} {last = last} unset) so

  -- The key of a switch that is true was spelled where no variable of its is set.
  pub switch_spelled : {present : Bool} {absent : Option Bool} {set : Option (List ℕ)} {b : Bool}
      → FlagSays (λ kept x. x ≡ kept) present absent set os b → absent ≡ Some false → set ≡ None
      → (names : Names) → key ≡ names → (switch : Bool) → switch ≡ b → switch ≡ true
      → WasSpelled known names words
  switch_spelled x off unset names same switch value on = grind (arith, key_spelled)

  -- The key of a required flag that has its value was spelled where no variable of its is set.
  pub flag_spelled : {A : Type 0} {clones : A → A → Type 0} {present : A} {absent : Option A}
      {set : Option (List ℕ)} {x : A} → FlagSays clones present absent set os x → absent ≡ None
      → set ≡ None → (names : Names) → key ≡ names → clones present x × WasSpelled known names words
  flag_spelled x required unset names same = grind (arith, key_spelled)

  -- The key of an optional value that is Some was spelled.
  pub optional_spelled : {A : Type 0} {inside : Said A} {o : Option A} → NeedsPiece inside
      → OptionalSays inside os o → (value : Option A) → value ≡ o → IsSome value → IsKeySpelled
  optional_spelled needs x value same some = grind (arith, value_spelled)

  -- The key of a value that isn't what a fallback stands in with was spelled.
  pub fallback_spelled : {A : Type 0} {inside : Said A} {kept : A → Type 0} {x : A}
      → NeedsPiece inside → FallbackSays inside kept os x → ¬ (kept x) → IsKeySpelled
  fallback_spelled needs x other = grind (arith, value_spelled)

  -- A repeat that isn't empty spells the key.
  pub repeat_spelled : {A : Type 0} {inside : Said A} {xs : List A} → NeedsPiece inside
      → RepeatSays inside os xs → (values : List A) → values ≡ xs → values ≢ [] → IsKeySpelled
  repeat_spelled needs so values same some = grind (arith, key_spelled, repeat_needs)

-- pieces are those of the line of words: those that begin with a key are its own, and where one of
-- the words before the first `--` spells the key, there is one
pub record AreOfLine (known : Known) (words : List (List ℕ)) (os : List LinePiece) : Type 0 where
  pub own : (key : Names) → OwnOf known words key (keyed (key ∷ []) os)
  pub spelled : (key : Names) → All IsUtf8 words → WasSpelled known key words
      → keyed (key ∷ []) os ≢ []

-- what is told of no cells is told of pieces
flat_told : {T : Type 0} (flat c : Bool) {roles : Roles} {said : Said T}
    (in_cells exact : CellsValue T) {cs : Cells} {v : T} → tells_cells flat c ≡ false
    → scope_by flat (scope_said c roles said in_cells) exact cs v → CutSays roles said cs v
flat_told true c {roles} {said} in_cells exact {cs} {v} e told =
    subst (λ b. scope_said b roles said in_cells cs v) e told
flat_told false c in_cells exact e told = absurd cc

-- What a value says of the pieces of the line of words is told of these, by the names that a caller
-- knows.
pub told_of_line : {T : Type 0} {known : Known} {g : Grammar T} {given : Given} {v : T}
    {Q : Type 0} → TellsOfWords known g given v
    → tells_cells (is_flat (make_of g)) (ends_in_commands g) ≡ false
    → (by : Known)
    → known ≡ by → (words : List (List ℕ)) → given.words ≡ words
    → ((os : List LinePiece) → AreOfLine by words os → says g given.env os v → Q) → Q
told_of_line {T} {known} {g} {given} {v} told flat by is words same so =
    let line = told.is_value in
    let roles : Roles = product_roles (whole_program (program_form g given.env)) in
    let cut : CutSays roles (says g given.env) (line_cells line.context) v =
    flat_told (is_flat (make_of g)) (ends_in_commands g) (cells_say g given.env)
    (scope_told (whole_program (program_form g given.env)) (ends_in_commands g)
    (says g given.env) (cells_say g given.env)) flat told.told in
    let own : AreOfLine known words cut.cut_into = record {
      own = λ key. record {
        spelled = λ some. subst (WasSpelled known key) same (piece_was_spelled key known given
            line.context line.on_line _ cut.cut_into cut.cut some);
      };
      spelled = λ key texts spelled. spelled_has_piece key known given line.context line.on_line _
          cut.cut_into cut.cut (subst (All IsUtf8) (sym same) texts)
          (subst (WasSpelled known key) (sym same) spelled);
    } in
    so cut.cut_into (subst (λ names. AreOfLine names words cut.cut_into) is own) cut.told

module _ {known : Known} {words : List (List ℕ)} {os : List LinePiece}
    (line : AreOfLine known words os) where
  -- Those of them that begin with a key are its own.
  pub of_line : {key : Names} → OwnOf known words key (keyed (key ∷ []) os)
  of_line {key} = line.own key

  -- what follows where a word before the first `--` spells the key
  abbrev IfKeySpelled : Names → Type 0 → Type 0
  IfKeySpelled key A = (names : Names) → key ≡ names → All IsUtf8 words
      → WasSpelled known names words → A

  -- A key that was spelled has a piece of its own.
  pub spelled_key : {key : Names} → IfKeySpelled key (keyed (key ∷ []) os ≢ [])
  spelled_key {key} names same texts spelled =
      line.spelled key texts (subst (λ z. WasSpelled known z words) (sym same) spelled)

  -- A switch whose key was spelled is true.
  pub spelled_switch : {key : Names} {present : Bool} {absent : Option Bool} {set : Option (List ℕ)}
      {b : Bool} → FlagSays (λ kept x. x ≡ kept) present absent set (keyed (key ∷ []) os) b
      → present ≡ true → (switch : Bool) → switch ≡ b → IfKeySpelled key (switch ≡ true)
  spelled_switch (says_present k one is) on switch value names same texts spelled = cc
  spelled_switch (says_variable text none set is) on switch value names same texts spelled = cc
  spelled_switch (says_absent a none set kept is) on switch value names same texts
      spelled = absurd (spelled_key names same texts spelled none)

  -- An optional value whose key was spelled is Some.
  pub spelled_optional : {key : Names} {A : Type 0} {inside : Said A} {o : Option A}
      → OptionalSays inside (keyed (key ∷ []) os) o → (value : Option A) → value ≡ o
      → IfKeySpelled key (IsSome value)
  spelled_optional (says_some x is so) value e names same texts spelled = grind arith
  spelled_optional (says_none is none) value e names same texts spelled =
      absurd (spelled_key names same texts spelled none)

  -- A repeat whose key was spelled isn't empty.
  pub spelled_repeat : {key : Names} {A : Type 0} {inside : Said A} {xs : List A}
      → RepeatSays inside (keyed (key ∷ []) os) xs → (values : List A) → values ≡ xs
      → IfKeySpelled key (values ≢ [])
  spelled_repeat {key} {A} {inside} {xs} so values e names same texts spelled =
      λ none. spelled_key names same texts spelled
      (no_values (subst (RepeatSays inside (keyed (key ∷ []) os)) (sym e ∙ none) so))

-- What an answer of a program says by the words: whose keys were spelled of the fields in front of
-- commands, and which command's word was.

-- what is present of the left cells is present of these
pub record IsLeft (left cs : Cells) : Type 0 where
  pub each : (k : Arg) → Contains (present left) k → Contains (present cs) k

-- all of them
all_left : {cs : Cells} → IsLeft cs cs
all_left = record { each = λ k there. there }

-- a cell that is there still is left
still_there : {left cs : Cells} (c : Option Arg) → IsLeft left cs → IsLeft (c ∷ left) (c ∷ cs)
still_there {left} {cs} c l = record {
  each = λ k there. ⊎_elim (λ here. Contains-append_left (option_to_list c) (present cs) k here)
      (λ behind. Contains-append_right (option_to_list c) (present cs) k (l.each k behind))
      (Contains-append_cases (option_to_list c) (present left) k there);
}

-- a cell that is gone is left out
gone : {left cs : Cells} (c : Option Arg) → IsLeft left cs → IsLeft (None ∷ left) (c ∷ cs)
gone {cs = cs} c l = record {
  each = λ k there. Contains-append_right (option_to_list c) (present cs) k (l.each k there);
}

-- the pieces of a field taken away
taken_left : {q : Roles} {cs left : Cells} {os : List LinePiece} → Takes q cs os left
    → IsLeft left cs
taken_left no_cells = all_left
taken_left (empty_stays t) = still_there None (taken_left t)
taken_left (other_stays {k = k} e t) = still_there (Some k) (taken_left t)
taken_left (takes_flag {k = k} e t) = gone (Some k) (taken_left t)
taken_left (takes_argument {k = k} {w = w} e v t) = gone (Some k) (gone (Some w) (taken_left t))

-- what stands behind a command's word
opens_left : {words : List (List ℕ)} {cs ds : Cells} → Opens words cs ds → IsLeft ds cs
opens_left (opens_here {k = k} is) = gone (Some k) all_left
opens_left (opens_later o) = still_there None (opens_left o)

-- what stands behind a command's word and passes a test stands on the whole line
kept_on : (test : Arg → Bool) {left cs : Cells} → IsLeft left cs → HasPassing test (present left)
    → HasPassing test (present cs)
kept_on test l (k, among, passes) = (k, l.each k among, passes)

-- the word of a command stands where it opens
opens_on : (words : List (List ℕ)) {cs ds : Cells} → Opens words cs ds
    → HasPassing (is_one_of words) (present cs)
opens_on words (opens_here {k = k} is) = (k, (0, omega arith, refl), is)
opens_on words (opens_later o) = opens_on words o

-- an own item is a key where its roles are those of its names
own_first : {q : Roles} (key : Names) → Owns q (key ∷ []) → (k : Arg) (behind : List Arg)
    → is_own_role (q k) ≡ true → HasPassing (is_key_of key) (k ∷ behind)
own_first key owns k behind is = (
  k,
  (0, omega arith, refl),
  ⊎_elim (λ passes. passes) (λ (no : false ≡ true). cc)
      (or_cases (is_key_of key k) false (owns.own k is)),
)

-- own pieces begin with a key of their names
owned_on : {q : Roles} (key : Names) → Owns q (key ∷ []) → {cs left : Cells}
    {os : List LinePiece} → Takes q cs os left → os ≢ [] → HasPassing (is_key_of key) (present cs)
owned_on key owns no_cells some = absurd (some refl)
owned_on key owns (empty_stays t) some = owned_on key owns t some
owned_on key owns (other_stays {k = k} {cs = cs} e t) some =
    let one = owned_on key owns t some in
    (one.0, Contains-append_right (k ∷ []) (present cs) one.0 one.1, one.2)
owned_on key owns (takes_flag {k = k} {cs = cs} e t) some =
    own_first key owns k (present cs) (ap is_own_role e)
owned_on key owns (takes_argument {k = k} {w = w} {cs = cs} e v t) some =
    own_first key owns k (present (Some w ∷ cs)) (ap is_own_role e)

-- a first piece taken away
first_left : {q : Roles} {cs left : Cells} {o : LinePiece} → TakesFirst q cs o left
    → IsLeft left cs
first_left (first_one {k = k} e) = gone (Some k) all_left
first_left (first_two {k = k} {w = w} e v) = gone (Some k) (gone (Some w) all_left)
first_left (first_later {c = c} n t) = still_there c (first_left t)

-- a first piece begins with a key of its names
first_on : {q : Roles} (key : Names) → Owns q (key ∷ []) → {cs left : Cells} {o : LinePiece}
    → TakesFirst q cs o left → HasPassing (is_key_of key) (present cs)
first_on key owns (first_one {k = k} {cs = cs} e) =
    own_first key owns k (present cs) (ap is_own_role e)
first_on key owns (first_two {k = k} {w = w} {cs = cs} e v) =
    own_first key owns k (present (Some w ∷ cs)) (ap is_own_role e)
first_on key owns (first_later {c = c} {cs = cs} n t) =
    let one = first_on key owns t in
    (one.0, Contains-append_right (option_to_list c) (present cs) one.0 one.1, one.2)

-- what is left of the line of words
pub record LeftOfLine (known : Known) (given : Given) (words : List (List ℕ)) (cs : Cells) : Type 0
  where
    pub are : given.words ≡ words
    pub context : Context
    pub on_line : IsContext known given context
    pub left : IsLeft cs (line_cells context)

-- Of what a value of a program is told, all of the line is left, by the names that a caller knows.
pub told_line : {T : Type 0} {known : Known} {g : Grammar T} {given : Given} {v : T}
    → (told : TellsOfWords known g given v) → (by : Known) → known ≡ by
    → (words : List (List ℕ)) → given.words ≡ words
    → LeftOfLine by given words (line_cells told.is_value.context)
told_line {given = given} told by is words are = record {
  are = are;
  context = told.is_value.context;
  on_line = subst (λ names. IsContext names given told.is_value.context) is told.is_value.on_line;
  left = all_left;
}

-- Some value of what may be left out is one of what stands inside.
pub some_turn : {T : Type 0} {part : Part T} {cs ds : Cells} {v : T}
    → Turn (part_optional part) cs (Some v) ds → Turn part cs v ds
some_turn {part} {cs} {ds} {v} (here g) =
    let same : g.0 ≡ v = cc in here (subst (λ x. part.first cs x ds) same g.1)
some_turn (absent none value same) = absent none value same

-- What a closure makes of a part is made of a value of that.
pub closed_turn : {A B : Type 0} {part : Part A} (makes : A → B → Type 0) {cs ds : Cells} {v : B}
    → Turn (part_closed part (map_closure makes)) cs v ds
    → (x : A) × Turn part cs x ds × makes x v
closed_turn makes (here g) = (g.0, here g.1, g.2)
closed_turn makes (absent none value same) = (value.0, absent none value.1 same, value.2)

-- The line that has a value is left of the words' line.
pub value_line : {T : Type 0} {known : Known} {form : ProgramForm T} {given : Given} {v : T}
    → (value : IsProgramValueOf known form given v)
    → LeftOfLine known given given.words (line_cells value.context)
value_line value = record {
  are = refl;
  context = value.context;
  on_line = value.on_line;
  left = all_left;
}

module _ {known : Known} {given : Given} {words : List (List ℕ)} {cs : Cells}
    (line : LeftOfLine known given words cs) where
  -- The key of a first entry was spelled.
  first_spelled : {T : Type 0} {key : Names} {q : Roles} {value : LinePiece → T → Type 0}
      {v : T} {left : Cells} → Owns q (key ∷ []) → KeyFirst q value cs v left
      → WasSpelled known key words
  first_spelled {key = key} owns first = subst (WasSpelled known key) line.are
      (item_spelled (is_key_of key) known given line.context line.on_line (λ text. refl)
      (kept_on (is_key_of key) line.left (first_on key owns first.takes)))

  -- What is left behind it is left of that line.
  behind_first : {T : Type 0} {q : Roles} {value : LinePiece → T → Type 0} {v : T}
      {left : Cells} → KeyFirst q value cs v left → LeftOfLine known given words left
  behind_first first = record {
    are = line.are;
    context = line.context;
    on_line = line.on_line;
    left = record { each = λ k there. line.left.each k ((first_left first.takes).each k there) };
  }

  -- What is left of a line without the pieces of a field is left of that line.
  pub without_field : {q : Roles} {os : List LinePiece} {left : Cells} → Takes q cs os left
      → LeftOfLine known given words left
  without_field taken = record {
    are = line.are;
    context = line.context;
    on_line = line.on_line;
    left = record { each = λ k there. line.left.each k ((taken_left taken).each k there) };
  }

  -- The pieces of a named field are its key's own there.
  pub of_field : {key : Names} {q : Roles} → Owns q (key ∷ []) → {os : List LinePiece}
      {left : Cells} → Takes q cs os left → OwnOf known words key os
  of_field {key} owns taken = record {
    spelled = λ some. subst (WasSpelled known key) line.are
        (item_spelled (is_key_of key) known given line.context line.on_line (λ text. refl)
        (kept_on (is_key_of key) line.left (owned_on key owns taken some)));
  }

  -- The word of a command that opens what is left was spelled.
  pub command_called : {opens : List (List ℕ)} {behind : Cells} → Opens opens cs behind
      → (names : List (List ℕ)) → opens ≡ names → WasCalled known names words
  command_called {opens} opened names same =
      subst (WasCalled known names) line.are
      (subst (λ those. WasCalled known those given.words) same
      (item_spelled (is_one_of opens) known given line.context line.on_line (none_behind opens)
      (kept_on (is_one_of opens) line.left (opens_on opens opened))))
    where
      none_behind : (words : List (List ℕ)) (text : List ℕ) → is_one_of words (PosWord text) ≡ false
      none_behind [] text = refl
      none_behind (word ∷ words) text = none_behind words text

-- Of two keys that go together, where neither has an absent value, both were spelled.
pub both_spelled : {known : Known} {given : Given} {words : List (List ℕ)} {A B : Type 0}
    {key other : Names} {q r : Roles} {value : LinePiece → A → Type 0}
    {more : LinePiece → B → Type 0} {gap : Gap A} {rest : Gap B} {cs left : Cells} {v : A × B}
    → LeftOfLine known given words cs → Owns q (key ∷ []) → Owns r (other ∷ [])
    → ((x : A) → gap.absent x → ⊥) → ((y : B) → rest.absent y → ⊥)
    → Turn (part_group (key_part q value gap) (key_part r more rest)) cs v left
    → WasSpelled known key words × WasSpelled known other words
both_spelled line own owns none never (here (left_first first (here second))) =
    (first_spelled line own first, first_spelled (behind_first line first) owns second)
both_spelled line own owns none never (here (left_first first (absent none_left value same))) =
    absurd (never _ value)
both_spelled line own owns none never (here (right_first none_left value second)) =
    absurd (none _ value)
both_spelled line own owns none never (absent none_left value same) = absurd (none _ value.0)

-- What follows of either of two commands follows of a choice of them.
pub of_either : {A B X : Type 0} → A ⊎ B → (A → X) → (B → X) → X
of_either (inl c) one other = one c
of_either (inr c) one other = other c

-- The words behind the first `--` are what a repeat of strict words at the end of a record reads,
-- all of them and in order.

-- the items behind `--` that begin pieces
abbrev items_behind : List LinePiece → List Arg
items_behind os = filter stands_behind (map first_item os)

-- their texts
abbrev pub pieces_behind : List LinePiece → List (List ℕ)
pieces_behind os = map item_text (items_behind os)

-- the value of a key doesn't stand behind `--`
value_before : (w : Arg) → is_value w ≡ true → stands_behind w ≡ false
value_before w h = grind arith

-- an item that doesn't stand there
abbrev IsBefore : Arg → Type 0
IsBefore item = stands_behind item ≡ false

-- words behind items of which none stands there
behind_is : (items : List Arg) (texts : List (List ℕ)) → AllByRecursion IsBefore items
    → map item_text (filter stands_behind (items ++ map PosWord texts)) ≡ texts
behind_is [] [] before = refl
behind_is [] (text ∷ texts) before = ap (λ rest. text ∷ rest) (behind_is [] texts tt)
behind_is (k ∷ items) texts before = grind (arith, behind_is items texts before.1)

-- Of a context's line, cut for a record, what stands behind `--` are the words there.
pub line_behind : {known : Known} {given : Given} {context : Context}
    → IsContext known given context → {r : Roles} {os : List LinePiece}
    → Cut r (line_cells context) os → pieces_behind os ≡ words_behind given.words
line_behind {known} {given} {context} is cut =
    let here = on_line known given.words context.line context.marker is.is_line in
    ap (map item_text) (sym (cut_kept stands_behind value_before cut)
    ∙ ap (filter stands_behind) here.are)
    ∙ behind_is here.items (words_behind given.words) (recursion_from_All IsBefore here.items
    (of_words known IsBefore (words_before given.words) here.items here.spells
    (λ word among items. all_spelled IsBefore known word (λ c attached rest e. refl) (λ c. refl)
    (λ name attached rest e. refl) (λ text. refl) refl (λ c text is. refl) items)))

-- What the fields leave.

module _ (q : Roles) (named : IsNamed q) where
  -- Fields of keys leave all items behind the first `--`.
  others_are : (os : List LinePiece) → items_behind (others q os) ≡ items_behind os
  others_are [] = refl
  others_are (o ∷ os) = grind (arith, others_are os)

  -- Fields of keys leave all texts behind the first `--`.
  pub others_behind : (os : List LinePiece) → pieces_behind (others q os) ≡ pieces_behind os
  others_behind os = ap (map item_text) (others_are os)

-- as a flag
pub flag_leaves : (names : Names) (os : List LinePiece)
    → pieces_behind (others (flag_roles names) os) ≡ pieces_behind os
flag_leaves names os = grind (arith, others_behind, test_named)

-- A word that has to stand before `--` leaves all that stands behind it.
pub name_before : {T : Type 0} {means : List ℕ → T → Type 0} (ws : List LinePiece) {v : T}
    → WordSays (accepts NonStrict) means (front (OneWord true) ws) v
    → pieces_behind (back (OneWord true) ws) ≡ pieces_behind ws
name_before ws so = grind (arith, not-true, of_front_one)

-- A repeat of words that have to stand behind `--` reads them all, in order.
pub strict_words : {T : Type 0} {means : List ℕ → T → Type 0} {ws : List LinePiece} {vs : List T}
    → RepeatSays (WordSays (accepts Strict) means) ws vs → AllZip means (pieces_behind ws) vs
strict_words {T} {means} {ws} {vs} so = each ws vs (word_values so)
  where
    each : (ws : List LinePiece) (vs : List T) → AllZip (WordValue (accepts Strict) means) ws vs
        → AllZip means (pieces_behind ws) vs
    each [] [] all = tt
    each [] (v ∷ vs) all = absurd all
    each (o ∷ ws) [] all = absurd all
    each (One k ∷ ws) (v ∷ vs) all = grind (arith, each ws vs all.1)
    each (Two k w ∷ ws) (v ∷ vs) all = absurd all.0
