-- Commands: a word that opens a run of its own over the items after it.
use Rattle.std.specs.Prelude.{◌≡◌, ℕ, Bool, true, false, List, [], ◌∷◌, ◌++◌, Option, Some, None}
use Rattle.std.specs.Prelude.{map, bytes_eq, encode_utf8, slice_get}
use Rattle.std.specs.{List.list_any, Option.option_map_or}
use Rattle.bpaf_doc.specs.declared.doc.Piece.{Piece}
use Rattle.bpaf_doc.specs.Shape.{Shape, Shown, Part, Command}
use Rattle.bpaf_base.specs.{declared.arg.Arg.Arg, Items.any_item, Items.command_word}
use Rattle.bpaf_line.specs.Situation.{Situation, Context, item_at, in_scope, is_taken, take_place}
use Rattle.bpaf_line.specs.Situation.{with_scope, with_path, with_current}
use Rattle.bpaf_line.specs.Taking.{IsFirst}
use Rattle.bpaf_laws.specs.Product.{BothReads}
use Rattle.bpaf_laws.specs.Reading.{Share, Readings, IsPlace, HasItem}

-- the names of a command: the long one that is shown, its other long ones, its short ones
pub record Called : Type 0 where
  pub name : List ℕ
  pub longs : List (List ℕ)
  pub shorts : List ℕ

-- a command of one name
abbrev pub named_only : List ℕ → Called
named_only name = record { name = name; longs = []; shorts = [] }

-- with one more long name, behind those that it has
abbrev pub with_long_name : Called → List ℕ → Called
with_long_name called name = record called { longs = called.longs ++ name ∷ [] }

-- with one more short name, behind those that it has
abbrev pub with_short_name : Called → ℕ → Called
with_short_name called name = record called { shorts = called.shorts ++ name ∷ [] }

-- the words that open a command: its long names, and its short names as words of one character
abbrev pub opening_words : Called → List (List ℕ)
opening_words called = (called.name ∷ called.longs) ++ map encode_utf8 called.shorts

-- an item is one of these words
abbrev pub is_one_of : List (List ℕ) → Arg → Bool
is_one_of words item =
    list_any (λ word. option_map_or (λ own. bytes_eq own word) (command_word item) false) words

-- the first present item in scope is at p, and is one of these words
pub record IsOpenedAt (words : List (List ℕ)) (s : Situation) (p : ℕ) : Type 0 where
  pub first : IsFirst any_item s p
  pub named : option_map_or (is_one_of words) (item_at s p) false ≡ true

-- there is no present item in scope, or the first one is none of these words
abbrev pub IsNotOpened : List (List ℕ) → Situation → Type 0
IsNotOpened words s = (p : ℕ) → IsFirst any_item s p
    → option_map_or (is_one_of words) (item_at s p) false ≡ false

-- the first item is one of these words and is taken: its place; or not, and no place is current
abbrev pub TakesOpening : List (List ℕ) → Situation → Option ℕ → Situation → Type 0
TakesOpening words s (Some p) t = IsOpenedAt words s p × (t ≡ take_place s p)
TakesOpening words s None t = IsNotOpened words s × (t ≡ with_current s None)

-- behind the word at p, which is taken: the scope runs from it to the old end
abbrev pub opened : Situation → ℕ → Situation
opened s p = with_scope (take_place s p) p s.end

-- inside a command, the word of which is at p: its name stands at the end of the path
abbrev pub inside : Called → Situation → ℕ → Situation
inside called s p = with_path (opened s p) called.name

-- whether the word is there; then the scope runs from it on
abbrev pub OpensScope : List (List ℕ) → Situation → Bool → Situation → Type 0
OpensScope words s true t = (p : ℕ) × IsOpenedAt words s p × (t ≡ opened s p)
OpensScope words s false t = IsNotOpened words s × (t ≡ with_current s None)

-- nothing is left present in the scope that was given
abbrev pub LeavesNothing : Situation → Situation → Type 0
LeavesNothing s t = (p : ℕ) → in_scope s p ≡ true → is_taken t p ≡ true

-- the place of a Word, Short, or Long not attached, that is a command's, and an inner reading
pub record CommandReads (T : Type 0) (words : List (List ℕ)) (inner : Readings T)
    (context : Context) (share : Share) (v : T) : Type 0 where
  pub name : ℕ
  pub read : BothReads ℕ T (λ line own p. HasItem (is_one_of words) line p × IsPlace p own) inner
      context share (name, v)

-- the part that a command may show: its first long and short name, its help, and what is inside
abbrev pub CommandPart : Called → Option (List Piece) → (Shape → Type 0) → Part → Type 0
CommandPart called help inner part =
    (within : Shape) × inner within
    × (part ≡ Command called.name (slice_get called.shorts 0) help within)

-- a command shows its part
abbrev pub CommandDescribes : Called → Option (List Piece) → (Shape → Type 0) → Shape → Type 0
CommandDescribes called help inner shape =
    (part : Part) × CommandPart called help inner part × (shape ≡ Shown part)
