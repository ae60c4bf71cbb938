-- A key before it becomes a parser, as contracts see it, and the part that it shows.
use Rattle.std.specs.Prelude.{ℕ, Bool, List, [], ◌∷◌, ◌++◌, Option, Some, None}
use Rattle.std.specs.Option.{option_map}
use Rattle.bpaf_doc.specs.Shape.{Part, Flag, Argument, shown_name}
use Rattle.bpaf_doc.specs.{declared.doc.Piece.Piece, Names.Names}

-- what a key holds: its names, its names in the environment, and the help that is shown with it
pub record Named : Type 0 where
  pub names : Names
  pub envs : List (List ℕ)
  pub help : Option (List Piece)

-- a key with these names and nothing else
abbrev pub key_named : Names → Named
key_named names = record { names = names; envs = []; help = None }

-- a key that holds nothing
abbrev pub nothing_named : Named
nothing_named = key_named (record { shorts = []; longs = [] })

-- the key with one more short name, behind those that it has
abbrev pub with_short : Named → ℕ → Named
with_short named name =
    record named { names = record named.names { shorts = named.names.shorts ++ name ∷ [] } }

-- the key with one more long name, behind those that it has
abbrev pub with_long : Named → List ℕ → Named
with_long named name =
    record named { names = record named.names { longs = named.names.longs ++ name ∷ [] } }

-- the key with one more name in the environment, behind those that it has
abbrev pub with_env : Named → List ℕ → Named
with_env named name = record named { envs = named.envs ++ name ∷ [] }

-- the key with this help, in place of the one that it has
abbrev pub with_help : Named → List Piece → Named
with_help named help = record named { help = Some help }

-- the first help, where there is one, else the other
abbrev pub help_or : Option (List Piece) → Option (List Piece) → Option (List Piece)
help_or (Some help) other = Some help
help_or None other = other

-- the key with a help in place of the one that it has, where there is such
abbrev pub helped : Named → Option (List Piece) → Named
helped named help = record named { help = help_or help named.help }

-- the first of some texts
abbrev pub first_text : List (List ℕ) → Option (List ℕ)
first_text [] = None
first_text (text ∷ texts) = Some text

-- the part that a key without a value shows; none where it has no short and no long name
abbrev pub flag_part : Named → Option Part
flag_part named =
    option_map (λ name. Flag name named.names.shorts (first_text named.envs) named.help)
    (shown_name named.names)

-- a key with a value, as contracts see it: what the key holds, what stands for the value where the
-- key is shown, whether only a key with its value in its own word counts, and whether all such keys
-- are taken at once, of which the last one's value counts
pub record KeyWithValue : Type 0 where
  pub named : Named
  pub metavar : List ℕ
  pub adjacent : Bool
  pub last : Bool

-- the part that a key with a value shows; none where it has no short and no long name
abbrev pub argument_part : KeyWithValue → Option Part
argument_part key =
    let named = key.named in
    option_map
    (λ name. Argument name named.names.shorts key.metavar (first_text named.envs) named.help)
    (shown_name named.names)
