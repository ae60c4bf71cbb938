-- What the splitter answers for a word, by what the word spells, and for all words, by their line.
use Rattle.std.specs.Prelude.{◌≡◌, ◌≢◌, ◌<◌, ◌≤◌, ℕ, Bool, List, ◌∷◌, ◌++◌, length, take, codes}
use Rattle.std.specs.Prelude.{slice_get, encode_utf8_all, Result, Ok, Err, Option, Some, None}
use Rattle.std.specs.{Prelude.IsUtf8, Prelude.⊤, List.AllWithin, Borrow.Bor}
use Rattle.bpaf_base.specs.declared.arg.Arg.{Arg}
use Rattle.bpaf_words.specs.Line.{SpellAll, HasNoMarker, IsLine, HasNoLine, Spells, SpellsByDash}
use Rattle.bpaf_words.specs.declared.split.SplitFault.TheVariants.{Ambiguous, Memory}
use Rattle.bpaf_words.specs.Line.{SpellsJoined, HasNoEquals, known_at, IsNumberWord, dash_char}
use Rattle.bpaf_words.specs.{declared.split.SplitFault.SplitFault, declared.line.Front.Front}
use Rattle.bpaf_words.specs.{declared.line.LineFault.LineFault, declared.line.Line.Line}
use Rattle.bpaf_words.specs.Line.{ShortNames, Known, Spelling, Items, Ambiguous as NoItems}
use Rattle.bpaf_words.specs.declared.line.LineFault.TheVariants as fault

-- spelled items stand at the end of the old; the ambiguous character is named; or memory is wanted
abbrev pub Answers : (Spelling → Type 0) → List Arg → Result (Unit {0}) SplitFault → List Arg
    → Type 0
Answers spells old (Ok u) new = (xs : List Arg) × spells (Items xs) × (new ≡ old ++ xs)
Answers spells old (Err (Ambiguous n)) new = spells (NoItems n)
Answers spells old (Err Memory) new = ⊤

-- what the splitter answers for a word, by what the word spells
abbrev pub Splits : Known → List ℕ → List Arg → Result (Unit {0}) SplitFault → List Arg → Type 0
Splits known word old result new = Answers (Spells known word) old result new

-- letters are the bytes of the characters cs
abbrev pub SplitsJoined : ShortNames → List ℕ → List ℕ → List Arg → Result (Unit {0}) SplitFault
    → List Arg → Type 0
SplitsJoined names word letters old result new =
    (cs : List ℕ) → letters ≡ encode_utf8_all cs
    → Answers (SpellsJoined names word cs) old result new

-- whatever names are known, the word spells the items that the new list has more
abbrev pub SpellsAs : List ℕ → List Arg → List Arg → Type 0
SpellsAs word old new =
    (names : ShortNames) → (xs : List Arg) × SpellsByDash names word (Items xs) × (new ≡ old ++ xs)

-- joined letters, which stand behind the dash of a word
pub record AreJoined (word letters : List ℕ) : Type 0 where
  pub first : ℕ
  pub second : ℕ
  pub others : List ℕ
  pub word_is : word ≡ codes "-" ++ letters
  pub letters_are : letters ≡ encode_utf8_all (first ∷ second ∷ others)
  pub no_dash : first ≢ dash_char
  pub no_equals : HasNoEquals (encode_utf8_all (second ∷ others))

-- what is answered of a word behind a dash that isn't a number that is a word: nothing, and its
-- items are the new ones; or its letters, which are joined, and no item is new
abbrev pub SplitsDashed : List ℕ → List Arg → Option (Bor (List ℕ)) → List Arg → Type 0
SplitsDashed word old None new = SpellsAs word old new
SplitsDashed word old (Some letters) new = AreJoined word letters.now × (new ≡ old)

-- whatever names are known, the word spells the items that the new list has more
abbrev pub SpellsByAny : Bool → List ℕ → List Arg → List Arg → Type 0
SpellsByAny numbers word old new = (names : ShortNames) → (xs : List Arg)
    × Spells (known_at numbers names) word (Items xs) × (new ≡ old ++ xs)

-- the same of each word but `--`
abbrev pub SplitsAlone : Bool → List ℕ → List Arg → Option (Bor (List ℕ)) → List Arg → Type 0
SplitsAlone numbers word old None new = SpellsByAny numbers word old new
SplitsAlone numbers word old (Some letters) new =
    ¬ (IsNumberWord numbers word) × AreJoined word letters.now × (new ≡ old)

-- the words from low up to high are texts
abbrev pub AreTexts : List (List ℕ) → ℕ → ℕ → Type 0
AreTexts words low high = AllWithin IsUtf8 words low high

-- the first n words are texts, none of them is `--`, and they spell the items
pub record Begins (known : Known) (words : List (List ℕ)) (items : List Arg) (n : ℕ) : Type 0 where
  pub bound : n ≤ length words
  pub without_marker : HasNoMarker (take n words)
  pub spelled : SpellAll known (take n words) items
  pub texts : AreTexts words 0 n

-- the same, whatever names are known
abbrev pub BeginsByAny : Bool → List (List ℕ) → List Arg → ℕ → Type 0
BeginsByAny numbers words items n =
    (names : ShortNames) → Begins (known_at numbers names) words items n

-- the front of a line of words
abbrev pub IsFront : List (List ℕ) → Front → Type 0
IsFront words front = BeginsByAny front.numbers words front.items.items front.read

-- the first n words are all of them, or `--` stands behind them
abbrev pub EndsFront : List (List ℕ) → ℕ → Type 0
EndsFront words n = n < length words → slice_get words n ≡ Some (codes "--")

-- words have this line whatever names are known
abbrev pub IsLineByAny : Bool → List (List ℕ) → Line → Type 0
IsLineByAny numbers words line = (names : ShortNames)
    → IsLine (known_at numbers names) words line.items.items line.marker

-- a refusal: the words have no line, or memory is wanted
abbrev pub HasFault : Known → List (List ℕ) → LineFault → Type 0
HasFault known words (fault.Ambiguous word number) = HasNoLine known words word number
HasFault known words fault.Memory = ⊤

-- the items of the words before the first `--`, and their count; or a refusal
abbrev pub SplitsWords : Known → List (List ℕ) → List Arg → Result ℕ LineFault → Type 0
SplitsWords known words items (Ok n) = Begins known words items n × EndsFront words n
SplitsWords known words items (Err f) = HasFault known words f

-- the line of the words and the place of its marker; or a refusal
abbrev pub ReadsLine : Known → List (List ℕ) → Result Line LineFault → Type 0
ReadsLine known words (Ok line) = IsLine known words line.items.items line.marker
ReadsLine known words (Err f) = HasFault known words f
