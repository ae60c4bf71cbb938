-- What a parser shows of itself, as contracts see it: a tree without addresses and room; the walks
-- over it, the order of its items, and how one is written inside messages and usage.
use Rattle.std.specs.Prelude.{ℕ, Bool, List, [], ◌∷◌, Option, Some, None, map, ◌++◌, true, false}
use Rattle.std.specs.Prelude.{not, ◌&&◌, ◌||◌, codes, encode_utf8}
use Rattle.std.specs.List.{flat_map}
use Rattle.bpaf_doc.specs.declared.item.Item.TheOpen.{Item-F, Meta-F}
use Rattle.bpaf_doc.specs.declared.item.Item.TheFolds.{fold-Item, fold-Meta}
use Rattle.bpaf_doc.specs.{declared.doc.Piece.Piece, declared.item.ShortLong.ShortLong}
use Rattle.bpaf_doc.specs.{declared.item.Item.Item, declared.meta.Meta.Meta, Print.printed}
use Rattle.bpaf_base.specs.Names.{Names}
use Rattle.bpaf_doc.specs.declared.item.ShortLong.TheVariants as short_long

-- the names that are shown: a short one, a long one, or both
pub data Name : Type 0 where
  Short : ℕ → Name
  Long : List ℕ → Name
  Both : ℕ → List ℕ → Name

mutual
  -- one item, or items joined
  pub data Shape : Type 0 where
    And : Shapes → Shape
    Or : Shapes → Shape
    Optional : Shape → Shape
    Required : Shape → Shape
    Adjacent : Shape → Shape
    Many : Shape → Shape
    Strict : Shape → Shape
    Subsection : Shape → List Piece → Shape
    Suffix : Shape → List Piece → Shape
    CustomUsage : Shape → List Piece → Shape
    Shown : Part → Shape
    Skip : Shape

  -- the members of an And or an Or
  pub data Shapes : Type 0 where
    none : Shapes
    ◌then◌ : Shape → Shapes → Shapes

  -- one item, its fields in the item's order
  pub data Part : Type 0 where
    Any : List Piece → Option (List Piece) → Bool → Part
    Positional : List ℕ → Option (List Piece) → Part
    Command : List ℕ → Option ℕ → Option (List Piece) → Shape → Part
    Flag : Name → List ℕ → Option (List ℕ) → Option (List Piece) → Part
    Argument : Name → List ℕ → List ℕ → Option (List ℕ) → Option (List Piece) → Part

infixr 5 ◌then◌
-- the members that shapes are in an And or an Or
abbrev pub members : List Shape → Shapes
members [] = none
members (shape ∷ rest) = shape then members rest

-- the names that a value of the program shows
abbrev pub name_of : ShortLong → Name
name_of (short_long.Short c) = Short c
name_of (short_long.Long text) = Long text
name_of (short_long.Both c text) = Both c text

-- one item, with what a command shows in its place
abbrev pub part_layer : Item-F Part Shape → Part
part_layer (Item-F.Any metavar help anywhere) = Any metavar help anywhere
part_layer (Item-F.Positional metavar help) = Positional metavar help
part_layer (Item-F.Command name short help inner) = Command name short help inner.value
part_layer (Item-F.Flag name shorts env help) = Flag (name_of name) shorts.items env help
part_layer (Item-F.Argument name shorts metavar env help) =
    Argument (name_of name) shorts.items metavar env help

-- one layer of a meta, with what its children show in their places
abbrev pub shape_layer : Meta-F Part Shape → Shape
shape_layer (Meta-F.And all) = And (members all.items)
shape_layer (Meta-F.Or all) = Or (members all.items)
shape_layer (Meta-F.Optional inner) = Optional inner.value
shape_layer (Meta-F.Required inner) = Required inner.value
shape_layer (Meta-F.Adjacent inner) = Adjacent inner.value
shape_layer (Meta-F.Many inner) = Many inner.value
shape_layer (Meta-F.Strict inner) = Strict inner.value
shape_layer (Meta-F.Subsection inner title) = Subsection inner.value title
shape_layer (Meta-F.Suffix inner text) = Suffix inner.value text
shape_layer (Meta-F.CustomUsage inner text) = CustomUsage inner.value text
shape_layer (Meta-F.Item part) = Shown part
shape_layer Meta-F.Skip = Skip

-- the part that an item of the program is
abbrev pub part_of : Item → Part
part_of = fold-Item Part Shape part_layer shape_layer

-- the shape that a meta of the program is
abbrev pub shape_of : Meta → Shape
shape_of = fold-Meta Part Shape part_layer shape_layer

-- the members that metas of the program are in an And or an Or
abbrev pub member_shapes : List Meta → Shapes
member_shapes all = members (map shape_of all)

-- the first short and the first long name; none where there is neither
abbrev pub first_names : List ℕ → List (List ℕ) → Option Name
first_names [] [] = None
first_names (c ∷ shorts) [] = Some (Short c)
first_names [] (text ∷ longs) = Some (Long text)
first_names (c ∷ shorts) (text ∷ longs) = Some (Both c text)

-- the names that a key shows
abbrev pub shown_name : Names → Option Name
shown_name names = first_names names.shorts names.longs

-- the members of an And or an Or, as a list
abbrev pub shapes_of : Shapes → List Shape
shapes_of none = []
shapes_of (shape then rest) = shape ∷ shapes_of rest

-- what a shape adds to a choice: the members of an Or, and else itself
abbrev pub alternatives : Shape → List Shape
alternatives (Or all) = shapes_of all
alternatives shape = shape ∷ []

-- The walks over what a parser shows.

-- all parts in order, those inside commands too
abbrev mutual
  -- the parts of a shape
  pub parts : Shape → List Part
  parts (And all) = parts_of_all all
  parts (Or all) = parts_of_all all
  parts (Optional inner) = parts inner
  parts (Required inner) = parts inner
  parts (Adjacent inner) = parts inner
  parts (Many inner) = parts inner
  parts (Strict inner) = parts inner
  parts (Subsection inner title) = parts inner
  parts (Suffix inner text) = parts inner
  parts (CustomUsage inner text) = parts inner
  parts (Shown part) = part ∷ parts_inside part
  parts Skip = []

  -- the parts of the members of an And or an Or
  pub parts_of_all : Shapes → List Part
  parts_of_all none = []
  parts_of_all (first then rest) = parts first ++ parts_of_all rest

  -- the parts that a command shows; those of another part none
  pub parts_inside : Part → List Part
  parts_inside (Command name short help inner) = parts inner
  parts_inside _ = []

-- the short names of a flag; of another part none
abbrev pub shorts_of_flag : Part → List ℕ
shorts_of_flag (Flag name shorts env help) = shorts
shorts_of_flag _ = []

-- the short names of an argument; of another part none
abbrev pub shorts_of_argument : Part → List ℕ
shorts_of_argument (Argument name shorts metavar env help) = shorts
shorts_of_argument _ = []

-- the short names of all flags among parts
abbrev pub shorts_of_flags : List Part → List ℕ
shorts_of_flags all = flat_map shorts_of_flag all

-- the short names of all arguments among parts
abbrev pub shorts_of_arguments : List Part → List ℕ
shorts_of_arguments all = flat_map shorts_of_argument all

-- the short names of all flags that a shape shows
abbrev pub flag_shorts : Shape → List ℕ
flag_shorts shape = shorts_of_flags (parts shape)

-- the short names of all arguments that a shape shows
abbrev pub argument_shorts : Shape → List ℕ
argument_shorts shape = shorts_of_arguments (parts shape)

-- the part that stands first
abbrev mutual
  -- of a shape; of an Or none
  pub first_part : Shape → Option Part
  first_part (And all) = first_of_all all
  first_part (Or all) = None
  first_part (Optional inner) = first_part inner
  first_part (Required inner) = first_part inner
  first_part (Adjacent inner) = first_part inner
  first_part (Many inner) = first_part inner
  first_part (Strict inner) = first_part inner
  first_part (Subsection inner title) = first_part inner
  first_part (Suffix inner text) = first_part inner
  first_part (CustomUsage inner text) = first_part inner
  first_part (Shown part) = Some part
  first_part Skip = None

  -- of the members of an And: that of the first one
  pub first_of_all : Shapes → Option Part
  first_of_all none = None
  first_of_all (first then rest) = first_part first

-- The order of items: words and commands stand behind the keys.

-- a part that takes a word from its place: it stands last
abbrev pub takes_word : Part → Bool
takes_word (Any metavar help anywhere) = not anywhere
takes_word (Positional metavar help) = true
takes_word (Command name short help inner) = true
takes_word (Flag name shorts env help) = false
takes_word (Argument name shorts metavar env help) = false

-- whether a shape has a part that takes a word, apart from those inside a command or an Adjacent
abbrev mutual
  -- whether a shape has one
  pub has_word : Shape → Bool
  has_word (And all) = any_has_word all
  has_word (Or all) = any_has_word all
  has_word (Optional inner) = has_word inner
  has_word (Required inner) = has_word inner
  has_word (Adjacent inner) = false
  has_word (Many inner) = has_word inner
  has_word (Strict inner) = has_word inner
  has_word (Subsection inner title) = has_word inner
  has_word (Suffix inner text) = has_word inner
  has_word (CustomUsage inner text) = has_word inner
  has_word (Shown part) = takes_word part
  has_word Skip = false

  -- whether a member of an And or an Or has one
  pub any_has_word : Shapes → Bool
  any_has_word none = false
  any_has_word (first then rest) = has_word first || any_has_word rest

-- no part that takes no word stands behind one that does; the flag: one stands before the shape
abbrev mutual
  -- in a shape; the insides of a command and of an Adjacent are apart from what stands before them
  pub in_order : Shape → Bool → Bool
  in_order (And all) seen = all_in_order all seen
  in_order (Or all) seen = each_in_order all seen
  in_order (Optional inner) seen = in_order inner seen
  in_order (Required inner) seen = in_order inner seen
  in_order (Adjacent inner) seen = in_order inner false
  in_order (Many inner) seen = in_order inner seen
  in_order (Strict inner) seen = in_order inner seen
  in_order (Subsection inner title) seen = in_order inner seen
  in_order (Suffix inner text) seen = in_order inner seen
  in_order (CustomUsage inner text) seen = in_order inner seen
  in_order (Shown part) seen = (takes_word part || not seen) && inside_in_order part
  in_order Skip seen = true

  -- in the members of an And: each stands behind those before it
  pub all_in_order : Shapes → Bool → Bool
  all_in_order none seen = true
  all_in_order (first then rest) seen =
      in_order first seen && all_in_order rest (seen || has_word first)

  -- in each member of an Or by itself
  pub each_in_order : Shapes → Bool → Bool
  each_in_order none seen = true
  each_in_order (first then rest) seen = in_order first seen && each_in_order rest seen

  -- inside a command; there is nothing inside another part
  pub inside_in_order : Part → Bool
  inside_in_order (Command name short help inner) = in_order inner false
  inside_in_order _ = true

-- the long name with its dashes, or the short one where there is no long name
abbrev pub name_text : Name → List ℕ
name_text (Short c) = codes "-" ++ encode_utf8 c
name_text (Long text) = codes "--" ++ text
name_text (Both c text) = codes "--" ++ text

-- one item; of one with a text of its own the whole text
abbrev pub part_text : Part → List ℕ
part_text (Any metavar help anywhere) = printed true metavar
part_text (Positional metavar help) = metavar
part_text (Command name short help inner) = codes "COMMAND ..."
part_text (Flag name shorts env help) = name_text name
part_text (Argument name shorts metavar env help) = name_text name ++ codes "=" ++ metavar
