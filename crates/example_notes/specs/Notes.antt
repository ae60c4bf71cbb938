-- The program: its keys, its commands, its values on words, the lines of these, and what a run
-- does.
use Rattle.std.specs.Prelude.{string_bytes, option_map, Option, Result, codes, List, ◌++◌, Some, []}
use Rattle.std.specs.Prelude.{None, Bool, ◌≡◌, map, ◌∷◌, ℕ}
use Rattle.std.specs.{Fmt.decimal, Global.Vec, Result.IfErr}
use Rattle.bpaf_program.specs.OfCommands.{alone, argument, both, choice, FieldsGrammar, Grammar}
use Rattle.bpaf_program.specs.OfCommands.{word, known_command, known_con, known_default, known_many}
use Rattle.bpaf_program.specs.OfCommands.{known_map, known_optional, known_switch, AnswersByText}
use Rattle.bpaf_program.specs.OfCommands.{Given, IfShown, IsExactFor, IsPageOf, IsTextOf, IsValueBy}
use Rattle.bpaf_program.specs.OfCommands.{KeyWithValue, line, line_each, MeansText, Names, OrPage}
use Rattle.bpaf_program.specs.OfCommands.{ParseFailure, Piece, plain_argument, plain_info, String}
use Rattle.bpaf_program.specs.OfCommands.{SpellsUnsigned, truth, Unrestricted}
use Rattle.example_notes.specs.declared.options.Notes.{Notes}
use Rattle.example_notes.specs.{declared.options.Task.Task, declared.options.Tag.Tag}
use Rattle.example_notes.specs.declared.options.Tag.TheVariants as tag
use Rattle.example_notes.specs.declared.options.Task.TheVariants as task

-- the line of a directory, where there is one
abbrev pub dir_lines : Option (List ℕ) → List ℕ
dir_lines None = []
dir_lines (Some dir) = line (codes "dir: " ++ dir)

-- the line of a tag
abbrev pub tag_lines : Tag → List ℕ
tag_lines (tag.Add name) = line (codes "tag add: " ++ string_bytes name)
tag_lines (tag.Remove name) = line (codes "tag remove: " ++ string_bytes name)

-- the lines of a task
abbrev pub task_lines : Task → List ℕ
task_lines (task.Add tags texts) =
    line (codes "add") ++ (line_each (codes "tag: ") (map string_bytes tags.items)
    ++ line_each (codes "text: ") (map string_bytes texts.items))
task_lines (task.List max) = line (codes "list: " ++ decimal max)
task_lines (task.Tag tag) = tag_lines tag

-- the lines of all that is asked for
abbrev pub lines : Notes → List ℕ
lines v =
    line (codes "verbose: " ++ truth v.verbose)
    ++ (dir_lines (option_map string_bytes v.dir) ++ task_lines v.task)

-- The program: its keys, its commands, and its values on words.

-- a key of one letter and this name
abbrev pub key : List ℕ → List ℕ → Names
key letter name = record { shorts = letter; longs = name ∷ [] }

-- `-v` and `--verbose`
abbrev pub verbose_names : Names
verbose_names = key (codes "v") (codes "verbose")

-- `-d DIR` and `--dir=DIR`
abbrev pub dir_key : KeyWithValue
dir_key = plain_argument (key (codes "d") (codes "dir")) (codes "DIR")

-- `-t TAG` and `--tag=TAG`
abbrev pub tag_key : KeyWithValue
tag_key = plain_argument (key (codes "t") (codes "tag")) (codes "TAG")

-- `-n NUM` and `--max=NUM`
abbrev pub max_key : KeyWithValue
max_key = plain_argument (key (codes "n") (codes "max")) (codes "NUM")

-- a note of these
abbrev pub add_of : Vec String × Vec String → Task
add_of x = task.Add x.0 x.1

-- `add [-t TAG].. [TEXT]..`
abbrev pub add_command : Grammar (Vec String × Vec String)
add_command = known_command (codes "add") (known_con (λ values. values)
    (both (known_many (argument MeansText tag_key))
    (alone (known_many (word MeansText Unrestricted (codes "TEXT") None)))))

-- `list [-n NUM]`
abbrev pub list_command : Grammar ℕ
list_command =
    known_command (codes "list") (known_default 10 (argument (SpellsUnsigned 64) max_key))

-- this word and `NAME`
abbrev pub name_command : List ℕ → Grammar String
name_command called =
    known_command called (word MeansText Unrestricted (codes "NAME") None)

-- `tag`, and one of two commands
abbrev pub on_tag : Grammar Tag
on_tag = known_command (codes "tag") (choice (known_map tag.Add (name_command (codes "add")))
    (known_map tag.Remove (name_command (codes "remove"))))

-- one of three commands
abbrev pub commands : Grammar Task
commands = choice (known_map add_of add_command)
    (choice (known_map task.List list_command) (known_map task.Tag on_tag))

-- the switch, the directory or None, and a command
abbrev pub fields : FieldsGrammar (Bool × (Option String × Task))
fields =
    both (known_switch verbose_names None)
    (both (known_optional (argument MeansText dir_key)) (alone commands))

-- what is asked for of these
abbrev pub notes_of : Bool × (Option String × Task) → Notes
notes_of x = record { verbose = x.0; dir = x.1.0; task = x.1.1 }

-- the program: the switch and the argument, wherever they stand, and a command
abbrev pub notes_parser : Grammar Notes
notes_parser = known_con notes_of fields

-- what the program is given
abbrev pub program_given : List (List ℕ) → Given
program_given words = record { words = words; env = []; name = Some (codes "notes") }

-- v is a value of the program on words
abbrev pub IsNotesOf : List (List ℕ) → Notes → Type 0
IsNotesOf words = IsValueBy notes_parser (program_given words)

-- the words ask for this page: the program's own, or behind a command's word that of the command
abbrev pub IsNotesPage : (words : List (List ℕ)) → List Piece → Bool → Type 0
IsNotesPage words =
    IsPageOf notes_parser (λ info. info ≡ plain_info) (program_given words)

-- an answer is exact: notes only if a value there; where there is one, one, or want of memory; and
-- a page that is shown is one that the words ask for
abbrev pub AnswersNotes : List (List ℕ) → Result Notes ParseFailure → Type 0
AnswersNotes words r = IsExactFor (IsNotesOf words) r × IfErr r (IfShown (IsNotesPage words))

-- a text is the lines of a value of the program on words
abbrev pub AreLinesOf : (words : List (List ℕ)) (text : List ℕ) → Type 0
AreLinesOf words = IsTextOf (IsNotesOf words) lines

-- a text answers the words: it is such lines, or a page that they ask for
abbrev pub Answers : (words : List (List ℕ)) → List ℕ → Type 0
Answers words = OrPage (AreLinesOf words) (IsNotesPage words)

-- an answer is such a text; where there is a value, its lines, or want of memory
abbrev pub AnswersLines : List (List ℕ) → Result String ParseFailure → Type 0
AnswersLines words = AnswersByText (Answers words) (IsNotesOf words) lines
