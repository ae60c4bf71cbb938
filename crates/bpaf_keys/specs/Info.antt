-- What a run knows beside its parser, and what it may be asked for beside its value: help, and the
-- version.
use Rattle.std.specs.Prelude.{ℕ, Bool, false, List, [], ◌∷◌, Option, Some, None, codes}
use Rattle.std.specs.Prelude.{option_and_then, ◌≡◌, ◌⊎◌, true, Ok, Result, Err, ◌++◌}
use Rattle.bpaf_pages.specs.Help.{PageTexts}
use Rattle.bpaf_doc.specs.Print.{first_line, shown_as}
use Rattle.bpaf_doc.specs.{declared.doc.Piece.Piece, Shape.Shape, Shape.And, Shape.members}
use Rattle.bpaf_text.specs.Named.{Named}
use Rattle.bpaf_line.specs.Situation.{Situation}
use Rattle.bpaf_line.specs.{declared.error.Message.Message, declared.error.Error.Error}
use Rattle.bpaf_laws.specs.Leaves.{FlagReads, IsFlagAbsent, IsFlagPresent, IsPresent, flag_shape}
use Rattle.bpaf_laws.specs.{Laws.Keeps, Product.BothReads, Reading.Readings}
use Rattle.bpaf_keys.specs.declared.info.ExtraParams.{ExtraParams}
use Rattle.bpaf_words.specs.Line.{Known, ShortNames}
use Rattle.bpaf_doc.specs.declared.doc.Style.TheVariants as style
use Rattle.bpaf_line.specs.declared.error.Message.TheVariants as message
use Rattle.bpaf_keys.specs.declared.info.ExtraParams.TheVariants as extra

-- the version, the texts around the help page, the keys that ask for help and for the version,
-- whether help is shown where nothing is there to read, how wide a page may be, and whether a
-- negative number is a word
pub record RunInfo : Type 0 where
  pub version : Option (List Piece)
  pub descr : Option (List Piece)
  pub header : Option (List Piece)
  pub footer : Option (List Piece)
  pub usage : Option (List Piece)
  pub help_arg : Named
  pub version_arg : Named
  pub help_if_no_args : Bool
  pub max_width : ℕ
  pub numbers : Bool

-- a key of one short name and one long name, with a help of one line
abbrev pub usual_key : ℕ → List ℕ → List ℕ → Named
usual_key name long_name help = record {
  names = record { shorts = name ∷ []; longs = long_name ∷ [] };
  envs = [];
  help = Some (shown_as style.Text help ∷ []);
}

-- the usual key for help, whose short name is `h`
abbrev pub help_key : Named
help_key = usual_key 104 (codes "help") (codes "Prints help information")

-- the usual key for the version, whose short name is `V`
abbrev pub version_key : Named
version_key = usual_key 86 (codes "version") (codes "Prints version information")

-- where nothing is set
abbrev pub plain_info : RunInfo
plain_info = record {
  version = None;
  descr = None;
  header = None;
  footer = None;
  usage = None;
  help_arg = help_key;
  version_arg = version_key;
  help_if_no_args = false;
  max_width = 100;
  numbers = false;
}

-- the first line of the description, where there is one
abbrev pub short_descr : RunInfo → Option (List Piece)
short_descr info = option_and_then first_line info.descr

-- the texts around the help page
abbrev pub page_texts : RunInfo → PageTexts
page_texts info = record {
  usage = info.usage;
  descr = info.descr;
  header = info.header;
  footer = info.footer;
}

-- the version isn't asked for: none is set, or its key isn't there
abbrev pub IsNoVersion : RunInfo → Situation → Situation → Type 0
IsNoVersion info s t =
    ((info.version ≡ None) × (t ≡ s))
    ⊎ ((text : List Piece) × (info.version ≡ Some text) × IsFlagAbsent info.version_arg s t)

-- that neither is asked for; or memory for the text is wanted
abbrev pub IsNotAsked : Message → Type 0
IsNotAsked m = (m ≡ message.Memory) ⊎ (m ≡ message.ParseFail (codes "not a version or help"))

-- looking for the version: it is asked for, or it isn't; or memory is wanted
abbrev pub LooksForVersion : RunInfo → Situation → Result (Option (List Piece)) Error → Situation
    → Type 0
LooksForVersion info s (Ok (Some text)) t =
    (info.version ≡ Some text) × IsFlagPresent info.version_arg s t
LooksForVersion info s (Ok None) t = IsNoVersion info s t
LooksForVersion info s (Err e) t = (e.0 ≡ message.Memory) × Keeps s t

-- looking for them: help's key, perhaps twice; else a set version's; neither; or memory is wanted
pub data ExtraOutcome (info : RunInfo) (s : Situation) : Result ExtraParams Error → Situation
    → Type 0 where
  help : (more : Bool) (m t : Situation) → IsFlagPresent info.help_arg s m
      → IsPresent info.help_arg m more t → ExtraOutcome info s (Ok (extra.Help more)) t
  version : (text : List Piece) (m t : Situation) → IsFlagAbsent info.help_arg s m
      → info.version ≡ Some text → IsFlagPresent info.version_arg m t
      → ExtraOutcome info s (Ok (extra.Version text)) t
  neither : (e : Error) (m t : Situation) → IsFlagAbsent info.help_arg s m → IsNoVersion info m t
      → e.0 ≡ message.ParseFail (codes "not a version or help") → ExtraOutcome info s (Err e) t
  no_memory : (e : Error) (t : Situation) → e.0 ≡ message.Memory → Keeps s t
      → ExtraOutcome info s (Err e) t

-- whether a key is there, as a switch reads it
abbrev pub SwitchReads : Named → Readings Bool
SwitchReads named = FlagReads Bool ◌≡◌ named true (Some false)

-- help is read off its key, perhaps twice; the version off its own, and is the one that is set
abbrev pub ExtraReads : RunInfo → Readings ExtraParams
ExtraReads info context share (extra.Help more) =
    BothReads Bool Bool (SwitchReads info.help_arg) (SwitchReads info.help_arg) context share
    (true, more)
ExtraReads info context share (extra.Version text) =
    (info.version ≡ Some text)
    × BothReads Bool Bool (SwitchReads info.help_arg) (SwitchReads info.version_arg) context share
    (false, true)

-- what a key that must be there shows
abbrev pub key_shape : Named → Shape
key_shape named = flag_shape {T = Bool} named None

-- what is shown of them: help, and where a version is set that too
abbrev pub extra_shape_of : Option (List Piece) → Named → Named → Shape
extra_shape_of None first second = key_shape first
extra_shape_of (Some text) first second = And (members (key_shape first ∷ key_shape second ∷ []))

-- that of a run
abbrev pub extra_shape : RunInfo → Shape
extra_shape info = extra_shape_of info.version info.help_arg info.version_arg

-- those that a parser shows, help's and version's as flags; and whether a negative number is a word
abbrev pub known_names : RunInfo → ShortNames → Known
known_names info shorts = record {
  names = record shorts {
    flags = shorts.flags ++ info.help_arg.names.shorts ++ info.version_arg.names.shorts;
  };
  numbers = info.numbers;
}
