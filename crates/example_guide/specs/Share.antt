-- What is shared: of what the program's parser is made, and that an answer is exact.
use Rattle.std.specs.Prelude.{Bool, List, None, Result, Some, [], codes, length, not, ℕ, ◌==◌, ◌∷◌}
use Rattle.std.specs.Prelude.{string_bytes}
use Rattle.bpaf_program.specs.OfCommands.{Grammar, IsExactFor, IsValueBy, KeyWithValue, MeansText}
use Rattle.bpaf_program.specs.OfCommands.{ParseFailure, String, Unrestricted, alone, argument, both}
use Rattle.bpaf_program.specs.OfCommands.{known_command, known_con, known_guard, plain_argument}
use Rattle.bpaf_program.specs.OfCommands.{word}
use Rattle.example_guide.specs.declared.share.Share.{Share}

-- `-u NAME` and `--user=NAME`
abbrev pub user_key : KeyWithValue
user_key = plain_argument (record { shorts = codes "u"; longs = codes "user" ∷ [] }) (codes "NAME")

-- a text isn't empty
abbrev pub has_bytes : List ℕ → Bool
has_bytes text = not (length text == 0)

-- `-u NAME`, and the name isn't empty
abbrev pub user_parser : Grammar String
user_parser = known_guard string_bytes has_bytes (codes "no name") (argument MeansText user_key)

-- `add FILE`, and that of the file isn't
abbrev pub file_parser : Grammar String
file_parser = known_guard string_bytes has_bytes (codes "no file")
    (known_command (codes "add") (word MeansText Unrestricted (codes "FILE") None))

-- what is shared of these
abbrev pub share_of : String × String → Share
share_of x = record { user = x.0; file = x.1 }

-- `-u NAME add FILE`
abbrev pub share_parser : Grammar Share
share_parser = known_con share_of (both user_parser (alone file_parser))

-- an answer is exact: only what the words share; where they share something, that or want of memory
abbrev pub AnswersShare : List (List ℕ) → Result Share ParseFailure → Type 0
AnswersShare words = IsExactFor (IsValueBy share_parser
    (record { words = words; env = []; name = Some (codes "share") }))
