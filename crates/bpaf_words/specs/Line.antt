-- How a word spells items, by the ways in which its bytes fall into parts; and the line of a list
-- of words.
use Rattle.std.specs.Prelude.{◌≡◌, ◌≢◌, ℕ, ◌+◌, Bool, true, false, List, [], ◌∷◌, ◌++◌, length}
use Rattle.std.specs.Prelude.{codes, encode_utf8, encode_utf8_all, EachIndex, slice_index, All}
use Rattle.std.specs.Prelude.{IsUtf8, map, flat_map, Option, Some, None, ◌⊎◌}
use Rattle.std.specs.{Char.IsAsciiDigit, List.AllZip}
use Rattle.bpaf_base.specs.declared.arg.Arg.TheVariants.{Short, Long, ArgWord, Word, PosWord}
use Rattle.bpaf_base.specs.{Items.is_among, declared.arg.Arg.Arg}

-- the short names that a parser knows, as characters
pub record ShortNames : Type 0 where
  pub flags : List ℕ
  pub arguments : List ℕ

-- what a word's spelling depends on: the known short names, and whether a negative number is a word
pub record Known : Type 0 where
  pub names : ShortNames
  pub numbers : Bool

-- these short names are known, and a negative number is a word where the setting says so
abbrev pub known_at : Bool → ShortNames → Known
known_at numbers names = record { names = names; numbers = numbers }

-- these short names are known, and no number is a word
abbrev pub knowing : ShortNames → Known
knowing names = known_at false names

-- whether a character is a known flag, and whether it is a known argument
pub record IsKnownAs (flag argument : Bool) (names : ShortNames) (c : ℕ) : Type 0 where
  pub as_flag : is_among names.flags c ≡ flag
  pub as_argument : is_among names.arguments c ≡ argument

-- what a word spells: items, or nothing, because the character of this number, the dash being 0, is
-- both
pub data Spelling : Type 0 where
  Items : List Arg → Spelling
  Ambiguous : ℕ → Spelling

-- a flag for each character; the first has this text, the others have the empty text
abbrev pub flags_of : List ℕ → List ℕ → List Arg
flags_of text [] = []
flags_of text (c ∷ cs) = Short c false text ∷ flags_of [] cs

-- an argument with what follows it in its word
abbrev pub argument_of : List ℕ → ℕ → List ℕ → List Arg
argument_of word c [] = Short c false word ∷ []
argument_of word c (b ∷ rest) = Short c true word ∷ Word (b ∷ rest) ∷ []

-- joined characters cs of a word: flags, then perhaps one that is none
pub data SpellsJoined (names : ShortNames) (word : List ℕ) (cs : List ℕ) : Spelling → Type 0 where
  flags : All (IsKnownAs true false names) cs
      → SpellsJoined names word cs (Items (flags_of word cs))
  argument : (fs : List ℕ) (c : ℕ) (rest : List ℕ) → cs ≡ fs ++ c ∷ rest
      → All (IsKnownAs true false names) fs → IsKnownAs false true names c
      → SpellsJoined names word cs
      (Items (flags_of word fs ++ argument_of word c (encode_utf8_all rest)))
  neither : (fs : List ℕ) (c : ℕ) (rest : List ℕ) → cs ≡ fs ++ c ∷ rest
      → All (IsKnownAs true false names) fs → IsKnownAs false false names c
      → SpellsJoined names word cs (Items (Word word ∷ []))
  both : (fs : List ℕ) (c : ℕ) (rest : List ℕ) → cs ≡ fs ++ c ∷ rest
      → All (IsKnownAs true false names) fs → IsKnownAs true true names c
      → SpellsJoined names word cs (Ambiguous (length fs + 1))

-- the character `-`
abbrev pub dash_char : ℕ
dash_char = 45

-- no byte of it is 61, that of `=`
abbrev pub HasNoEquals : List ℕ → Type 0
HasNoEquals n = EachIndex n (λ i. slice_index n i ≢ 61)

-- what a word other than `--` spells, where it isn't a number that is a word
pub data SpellsByDash (names : ShortNames) (word : List ℕ) : Spelling → Type 0 where
  -- empty, or not beginning with `-`
  plain : ((rest : List ℕ) → word ≢ codes "-" ++ rest)
      → SpellsByDash names word (Items (Word word ∷ []))
  -- `-`
  dash : word ≡ codes "-" → SpellsByDash names word (Items (Word word ∷ []))
  -- `--n`
  long : (n : List ℕ) → word ≡ codes "--" ++ n → n ≢ [] → HasNoEquals n
      → SpellsByDash names word (Items (Long n false word ∷ []))
  -- `--n=v`
  long_value : (n v : List ℕ) → word ≡ codes "--" ++ (n ++ (codes "=" ++ v)) → HasNoEquals n
      → SpellsByDash names word (Items (Long n true word ∷ ArgWord v ∷ []))
  -- `-c`
  short : (c : ℕ) → word ≡ codes "-" ++ encode_utf8 c → c ≢ dash_char
      → SpellsByDash names word (Items (Short c false word ∷ []))
  -- `-c=v`
  short_value : (c : ℕ) (v : List ℕ) → word ≡ codes "-" ++ (encode_utf8 c ++ (codes "=" ++ v))
      → c ≢ dash_char → SpellsByDash names word (Items (Short c true word ∷ ArgWord v ∷ []))
  -- `-cr=v`
  short_long_value : (c : ℕ) (r v : List ℕ)
      → word ≡ codes "-" ++ (encode_utf8 c ++ (r ++ (codes "=" ++ v))) → c ≢ dash_char → r ≢ []
      → HasNoEquals r
      → SpellsByDash names word (Items (Short c true word ∷ ArgWord (r ++ (codes "=" ++ v)) ∷ []))
  -- `-s`, s of two or more characters, no `=` after its first
  joined : (c d : ℕ) (cs : List ℕ) (spelling : Spelling)
      → word ≡ codes "-" ++ encode_utf8_all (c ∷ d ∷ cs) → c ≢ dash_char
      → HasNoEquals (encode_utf8_all (d ∷ cs))
      → SpellsJoined names word (c ∷ d ∷ cs) spelling → SpellsByDash names word spelling

-- `-` and one or more ASCII digits, and nothing else
pub record IsNumber (word : List ℕ) : Type 0 where
  pub digits : List ℕ
  pub is : word ≡ codes "-" ++ digits
  pub some : digits ≢ []
  pub each : EachIndex digits (λ k. IsAsciiDigit (slice_index digits k))

-- a number, where the setting makes it a word
abbrev pub IsNumberWord : Bool → List ℕ → Type 0
IsNumberWord numbers word = (numbers ≡ true) × IsNumber word

-- what a word but `--` spells: itself, where it is a number as a word; else by the known names
pub data Spells (known : Known) (word : List ℕ) : Spelling → Type 0 where
  number_word : IsNumberWord known.numbers word → Spells known word (Items (Word word ∷ []))
  by_dash : (spelling : Spelling) → ¬ (IsNumberWord known.numbers word)
      → SpellsByDash known.names word spelling → Spells known word spelling

-- the cases of a spelling
pub data Case : Type 0 where
  NumberWord : Case
  PlainWord : Case
  DashAlone : Case
  LongAlone : Case
  LongWithValue : Case
  ShortAlone : Case
  ShortWithValue : Case
  ShortWithLongValue : Case
  JoinedFlags : Case
  JoinedWithArgument : Case
  JoinedWithNeither : Case
  JoinedWithBoth : Case

-- the case of joined characters that holds
abbrev pub joined_case_of : {names : ShortNames} {word cs : List ℕ} {s : Spelling}
    → SpellsJoined names word cs s → Case
joined_case_of (flags a) = JoinedFlags
joined_case_of (argument fs c rest a b d) = JoinedWithArgument
joined_case_of (neither fs c rest a b d) = JoinedWithNeither
joined_case_of (both fs c rest a b d) = JoinedWithBoth

-- the case that holds of a word that isn't a number
abbrev pub dash_case_of : {names : ShortNames} {word : List ℕ} {s : Spelling}
    → SpellsByDash names word s → Case
dash_case_of (plain a) = PlainWord
dash_case_of (dash a) = DashAlone
dash_case_of (long n a b d) = LongAlone
dash_case_of (long_value n v a b) = LongWithValue
dash_case_of (short c a b) = ShortAlone
dash_case_of (short_value c v a b) = ShortWithValue
dash_case_of (short_long_value c r v a b d e) = ShortWithLongValue
dash_case_of (joined c d cs s a b e j) = joined_case_of j

-- the case that holds
abbrev pub case_of : {known : Known} {word : List ℕ} {s : Spelling} → Spells known word s → Case
case_of (number_word a) = NumberWord
case_of (by_dash s n a) = dash_case_of a

-- exactly one case holds, with one answer
pub record HasOneSpelling (known : Known) (word : List ℕ) : Type 0 where
  pub spelling : Spelling
  pub spells : Spells known word spelling
  pub only : (s : Spelling) (a : Spells known word s) → (case_of a ≡ case_of spells)
      × (s ≡ spelling)

-- each word but `--` has exactly one spelling
abbrev pub SpellingsAreUnique : Type 0
SpellingsAreUnique =
    (known : Known) (word : List ℕ) → IsUtf8 word → word ≢ codes "--" → HasOneSpelling known word

-- each word spells its items, and these are all of them in order
pub record SpellAll (known : Known) (words : List (List ℕ)) (items : List Arg) : Type 0 where
  pub parts : List (List Arg)
  pub spelled : AllZip (λ word xs. Spells known word (Items xs)) words parts
  pub joined : items ≡ flat_map (λ xs. xs) parts

-- words without `--`
abbrev pub HasNoMarker : List (List ℕ) → Type 0
HasNoMarker words = All (λ word. word ≢ codes "--") words

-- the line of words, and the place of the marker, where one stands there
pub data IsLine (known : Known) (words : List (List ℕ)) : List Arg → Option ℕ → Type 0 where
  without_marker : (items : List Arg) → HasNoMarker words → SpellAll known words items
      → IsLine known words items None
  with_marker : (before after : List (List ℕ)) (items : List Arg)
      → words ≡ before ++ codes "--" ∷ after → HasNoMarker before → SpellAll known before items
      → IsLine known words (items ++ PosWord (codes "--") ∷ map PosWord after) (Some (length items))

-- words without a line: the first ambiguous one before a `--`, and its ambiguous character's number
pub record HasNoLine (known : Known) (words : List (List ℕ)) (word : List ℕ) (number : ℕ) : Type 0
  where
    pub before : List (List ℕ)
    pub items : List Arg
    pub after : List (List ℕ)
    pub cut : words ≡ before ++ word ∷ after
    pub without_marker : HasNoMarker before
    pub spelled : SpellAll known before items
    pub not_marker : word ≢ codes "--"
    pub ambiguous : Spells known word (Ambiguous number)

-- words have one line, or none and then a first ambiguous word
pub record HasOneLineOrNone (known : Known) (words : List (List ℕ)) : Type 0 where
  pub some : ((line : List Arg) × (marker : Option ℕ) × IsLine known words line marker)
      ⊎ ((word : List ℕ) × (number : ℕ) × HasNoLine known words word number)
  pub one_line : (l m : List Arg) (p q : Option ℕ) → IsLine known words l p → IsLine known words m q
      → (l ≡ m) × (p ≡ q)
  pub one_word : (v w : List ℕ) (m n : ℕ) → HasNoLine known words v m → HasNoLine known words w n
      → (v ≡ w) × (m ≡ n)
  pub not_both : (l : List Arg) (p : Option ℕ) (w : List ℕ) (n : ℕ) → IsLine known words l p
      → HasNoLine known words w n → ⊥

-- words that are texts have one line, or none and then a first ambiguous word
abbrev pub LinesAreUnique : Type 0
LinesAreUnique =
    (known : Known) (words : List (List ℕ)) → All IsUtf8 words → HasOneLineOrNone known words
