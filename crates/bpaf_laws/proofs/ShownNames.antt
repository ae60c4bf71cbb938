-- Which short names each type shows, by those that its inner parsers show.
use Rattle.std.proofs.Common.{append_assoc, append-nil, Option, Result, arith, List, ◌++◌, refl, []}
use Rattle.bpaf_doc.specs.Shape.{shorts_of_argument, shorts_of_flag, alternatives, parts_of_all, Or}
use Rattle.bpaf_doc.specs.Shape.{members, Shapes, ◌then◌, Shape, parts, Many, Part, CustomUsage}
use Rattle.bpaf_laws.specs.Combinators.{OptionalDescribes, DefaultDescribes, SectionDescribes}
use Rattle.bpaf_laws.specs.Combinators.{TitledDescribes, UsageDescribes, ManyDescribes}
use Rattle.bpaf_laws.specs.Laws.{FieldsShowNames, joined_shorts, of_arguments, ShowsNames, of_flags}
use Rattle.std.proofs.Common.{◌≡◌, ◌∷◌, ap₂, ◌∙◌, ap, ℕ}
use Rattle.std.proofs.lemmas.List.Concat.{flat_map-append}
use Rattle.std.specs.declared.alloc.AllocError.{AllocError}
use Rattle.bpaf_doc.specs.Shape.{Subsection, shapes_of, Adjacent, Optional, Required, none}
use Rattle.bpaf_doc.specs.{declared.meta.MetaInfo.MetaInfo, declared.doc.Piece.Piece}
use Rattle.bpaf_words.specs.Line.{ShortNames}
use Rattle.bpaf_text.specs.Named.{KeyWithValue, Named}
use Rattle.bpaf_laws.specs.Product.{ProductDescribes, BothDescribes, LastDescribes}
use Rattle.bpaf_laws.specs.{Combinators.SomeDescribes, Combinators.usage_pieces, Laws.shorts_among}
use Rattle.bpaf_laws.specs.{Choice.ChoiceDescribes, Choice.either_shape, Adjacent.GroupDescribes}
use Rattle.bpaf_laws.specs.Leaves.{argument_shape, flag_shape}
use Rattle.bpaf_laws.specs.Command.{CommandDescribes, Called}

-- a parser of one shape, of these names
pub one_shape : {shape : Shape} {names : ShortNames} → shorts_among (parts shape) ≡ names
    → ShowsNames (λ shown. shown ≡ shape) names
one_shape are = record { each = λ shown is. ap (λ shape. shorts_among (parts shape)) is ∙ are }

-- a flag
pub flag_shows : {T : Type 0} (named : Named) (absent : Option T)
    → ShowsNames (λ shown. shown ≡ flag_shape named absent) (of_flags named.names.shorts)
flag_shows named absent = one_shape (grind (arith, append-nil {A = ℕ}))

-- an argument
pub argument_shows : (key : KeyWithValue)
    → ShowsNames (λ shown. shown ≡ argument_shape key) (of_arguments key.named.names.shorts)
argument_shows key = one_shape (grind (arith, append-nil {A = ℕ}))

module _ {inner : Shape → Type 0} {names : ShortNames} (inside : ShowsNames inner names) where
  -- a wrapper whose parts are those inside it
  around : (wrap : Shape → Shape) → ((shape : Shape) → parts (wrap shape) ≡ parts shape)
      → ShowsNames (λ shape. (within : Shape) × inner within × (shape ≡ wrap within)) names
  around wrap as_inside = grind arith

  -- what may be left out
  pub optional_shows : ShowsNames (OptionalDescribes inner) names
  optional_shows = around (λ shape. Optional shape) (λ shape. refl)

  -- what may stand any number of times
  pub many_shows : ShowsNames (ManyDescribes inner) names
  many_shows = around (λ shape. Many (Optional shape)) (λ shape. refl)

  -- what stands once at least
  pub some_shows : ShowsNames (SomeDescribes inner) names
  some_shows = around (λ shape. Many (Required shape)) (λ shape. refl)

  -- what has a default
  pub default_shows : (shown : Option (List Piece))
      → ShowsNames (DefaultDescribes inner shown) names
  default_shows x = grind (arith, around, optional_shows)

  -- what has a usage text of its own
  pub usage_shows : (usage : Option (List Piece)) → ShowsNames (UsageDescribes inner usage) names
  usage_shows usage = around (λ shape. CustomUsage shape (usage_pieces usage)) (λ shape. refl)

  -- what stands in a section
  pub section_shows : (title : List Piece) → ShowsNames (SectionDescribes inner title) names
  section_shows title = around (λ shape. Subsection shape title) (λ shape. refl)

  -- what stands in a section of which a closure tells the title
  pub titled_shows : (answers : MetaInfo → Result (List Piece) AllocError → Type 0)
      → ShowsNames (TitledDescribes inner answers) names
  titled_shows answers = grind arith

  -- what stands together
  pub group_shows : ShowsNames (GroupDescribes inner) names
  group_shows = around (λ shape. Adjacent shape) (λ shape. refl)

  -- a command
  pub command_shows : (called : Called) (help : Option (List Piece))
      → ShowsNames (CommandDescribes called help inner) names
  command_shows called help = grind arith

  -- the last field
  pub last_shows : FieldsShowNames (LastDescribes inner) names
  last_shows = grind (arith, append-nil)

-- the short names of two lists of parts
of_joined : (first second : List Part)
    → shorts_among (first ++ second) ≡ joined_shorts (shorts_among first) (shorts_among second)
of_joined first second =
    grind (arith, flat_map-append shorts_of_flag, flat_map-append shorts_of_argument)

-- a field and those after it
pub both_show : {first : Shape → Type 0} {rest : List Shape → Type 0} {own others : ShortNames}
    → ShowsNames first own → FieldsShowNames rest others
    → FieldsShowNames (BothDescribes first rest) (joined_shorts own others)
both_show one more = grind (arith, of_joined, ap₂)

-- a product
pub product_shows : {fields : List Shape → Type 0} {names : ShortNames}
    → FieldsShowNames fields names → ShowsNames (ProductDescribes fields) names
product_shows all = grind arith

-- the parts of two lists of members, one after the other
parts_joined : (xs ys : List Shape)
    → parts_of_all (members (xs ++ ys)) ≡ parts_of_all (members xs) ++ parts_of_all (members ys)
parts_joined [] ys = refl
parts_joined (x ∷ xs) ys =
    let rest = parts_joined xs ys in grind (arith, append_assoc {A = Part})

-- the members as a list have the same parts
listed : (all : Shapes) → parts_of_all (members (shapes_of all)) ≡ parts_of_all all
listed none = refl
listed (first then rest) = ap (λ others. parts first ++ others) (listed rest)

-- what a shape adds to a choice has its parts
added : (shape : Shape) → parts_of_all (members (alternatives shape)) ≡ parts shape
added (Or all) = listed all
added shape = append-nil (parts shape)

-- the parts of a choice are those of both
either_parts : (a b : Shape) → parts (either_shape a b) ≡ parts a ++ parts b
either_parts a b = grind (arith, parts_joined (alternatives a) (alternatives b), added a, added b)

-- a choice of two
pub choice_shows : {first second : Shape → Type 0} {own others : ShortNames} → ShowsNames first own
    → ShowsNames second others
    → ShowsNames (ChoiceDescribes first second) (joined_shorts own others)
choice_shows one other = grind (arith, either_parts, of_joined, ap₂)
