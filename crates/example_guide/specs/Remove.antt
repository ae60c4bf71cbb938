-- The remover: its fields, and what it may print.
use Rattle.std.specs.Prelude.{Option, codes, Bool, List, None, Some, ◌∷◌, [], ℕ}
use Rattle.std.specs.Global.{Vec}
use Rattle.bpaf_doc.specs.{declared.doc.Piece.Piece, Names.Names}
use Rattle.bpaf_text.specs.{Meaning.SpellsUnsigned, Named.KeyWithValue}
use Rattle.bpaf_words.specs.{Arguments.Given, Line.Known}
use Rattle.bpaf_grammar.specs.declared.position.Position.TheVariants.{Unrestricted}
use Rattle.bpaf.specs.Info.{plain_info}
use Rattle.bpaf_grammar.specs.Grammar.{FieldsGrammar, argument, Grammar, alone, both, word}
use Rattle.bpaf_program.specs.KnownParser.{known_optional, HasOtherTexts, program_names, known_many}
use Rattle.bpaf_program.specs.KnownParser.{known_switch, MeansText, known_con, IsPageOf, String}
use Rattle.bpaf_program.specs.Fields.{plain_argument}
use Rattle.example_guide.specs.{declared.remove.Removal.Removal, Told.TellsFiles}

-- `-f` and `--force`
abbrev pub force_names : Names
force_names = record { shorts = codes "f"; longs = codes "force" ∷ [] }

-- `-d N`
abbrev pub depth_key : KeyWithValue
depth_key = plain_argument (record { shorts = codes "d"; longs = [] }) (codes "N")

-- `[-d N] [-f] [FILE]..`
abbrev pub fields : FieldsGrammar (Option ℕ × (Bool × Vec String))
fields =
    both (known_optional (argument (SpellsUnsigned 64) depth_key)) (both (known_switch force_names None)
    (alone (known_many (word MeansText Unrestricted (codes "FILE") None))))

-- a removal of these
abbrev pub removal_of : Option ℕ × (Bool × Vec String) → Removal
removal_of x = record { depth = x.0; force = x.1.0; files = x.1.1 }

-- the remover's parser
abbrev pub removal_parser : Grammar Removal
removal_parser = known_con removal_of fields

-- the names by which it reads words
abbrev pub removal_known : Known
removal_known = program_names removal_parser

-- what the remover is given
abbrev pub removal_given : List (List ℕ) → Given
removal_given words = record { words = words; env = []; name = Some (codes "remove") }

-- the words ask for this page of the remover
abbrev pub IsRemovalPage : (words : List (List ℕ)) → List Piece → Bool → Type 0
IsRemovalPage words = IsPageOf removal_parser (HasOtherTexts plain_info) (removal_given words)

-- a line for each file, as removed only where the key was spelled
abbrev pub IsRemovalText : (words : List (List ℕ)) (text : List ℕ) → Type 0
IsRemovalText = TellsFiles (codes "kept: ") (codes "removed: ") removal_known force_names
