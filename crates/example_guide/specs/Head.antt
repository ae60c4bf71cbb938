-- The program `head`: its fields, and what it may print.
use Rattle.std.specs.Prelude.{Option, codes, Bool, List, None, ◌≡◌, ◌∷◌, [], ℕ}
use Rattle.std.specs.Global.{Vec}
use Rattle.bpaf_doc.specs.{declared.doc.Piece.Piece, Names.Names}
use Rattle.bpaf_text.specs.{Meaning.SpellsUnsigned, Named.KeyWithValue}
use Rattle.bpaf_words.specs.{Arguments.Given, Line.Known}
use Rattle.bpaf_grammar.specs.declared.position.Position.TheVariants.{Unrestricted}
use Rattle.bpaf.specs.Info.{plain_info}
use Rattle.bpaf_grammar.specs.Grammar.{FieldsGrammar, argument, Grammar, alone, both, word}
use Rattle.bpaf_program.specs.KnownParser.{known_optional, program_names, known_many, MeansText}
use Rattle.bpaf_program.specs.KnownParser.{known_con, IsPageOf, String}
use Rattle.bpaf_program.specs.Fields.{plain_argument}
use Rattle.example_guide.specs.{declared.head.Head.Head, Told.TellsFiles}

-- `-c` and `--bytes`
abbrev pub bytes_names : Names
bytes_names = record { shorts = codes "c"; longs = codes "bytes" ∷ [] }

-- `-c N` and `--bytes=N`
abbrev pub bytes_key : KeyWithValue
bytes_key = plain_argument bytes_names (codes "N")

-- `[-c N] [FILE]..`
abbrev pub fields : FieldsGrammar (Option ℕ × Vec String)
fields =
    both (known_optional (argument (SpellsUnsigned 64) bytes_key))
    (alone (known_many (word MeansText Unrestricted (codes "FILE") None)))

-- what is asked for of these
abbrev pub head_of : Option ℕ × Vec String → Head
head_of x = record { bytes = x.0; files = x.1 }

-- the program's parser
abbrev pub head_parser : Grammar Head
head_parser = known_con head_of fields

-- the names by which it reads words
abbrev pub head_known : Known
head_known = program_names head_parser

-- what the program is given
abbrev pub head_given : List (List ℕ) → Given
head_given words = record { words = words; env = []; name = None }

-- the words ask for this page of the program
abbrev pub IsHeadPage : (words : List (List ℕ)) → List Piece → Bool → Type 0
IsHeadPage words = IsPageOf head_parser (λ info. info ≡ plain_info) (head_given words)

-- a line for each file, as by bytes only where the key was spelled
abbrev pub IsHeadText : (words : List (List ℕ)) (text : List ℕ) → Type 0
IsHeadText = TellsFiles (codes "by lines: ") (codes "by bytes: ") head_known bytes_names
