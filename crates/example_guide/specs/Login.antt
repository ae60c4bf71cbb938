-- Who logs in: of what the program's parser is made, and that both of its keys were spelled.
use Rattle.std.specs.Prelude.{IsSome, List, Option, Some, [], codes, ℕ, ◌∷◌, Result}
use Rattle.bpaf_program.specs.OfCommands.{Given, Grammar, IsExactFor, IsValueBy, KeyWithValue}
use Rattle.bpaf_program.specs.OfCommands.{MeansText, Names, ParseFailure, String, alone, argument}
use Rattle.bpaf_program.specs.OfCommands.{both, known_con, known_optional, plain_argument}
use Rattle.bpaf_program.specs.KnownParser.{program_names}
use Rattle.bpaf_record.specs.Record.{WasSpelled}
use Rattle.example_guide.specs.declared.login.Login.{Login}

-- `-u` and `--user`
abbrev pub user_names : Names
user_names = record { shorts = codes "u"; longs = codes "user" ∷ [] }

-- `-p` and `--password`
abbrev pub password_names : Names
password_names = record { shorts = codes "p"; longs = codes "password" ∷ [] }

-- `-u NAME`
abbrev pub user_key : KeyWithValue
user_key = plain_argument user_names (codes "NAME")

-- `-p TEXT`
abbrev pub password_key : KeyWithValue
password_key = plain_argument password_names (codes "TEXT")

-- who logs in by these
abbrev pub login_of : String × String → Login
login_of x = record { user = x.0; password = x.1 }

-- `[-u NAME -p TEXT]`
abbrev pub login_parser : Grammar (Option Login)
login_parser = known_optional (known_con login_of
    (both (argument MeansText user_key) (alone (argument MeansText password_key))))

-- what the program is given of these words
abbrev pub login_given : List (List ℕ) → Given
login_given words = record { words = words; env = []; name = Some (codes "login") }

-- an answer is exact
abbrev pub AnswersLogin : List (List ℕ) → Result (Option Login) ParseFailure → Type 0
AnswersLogin words = IsExactFor (IsValueBy login_parser (login_given words))

-- one of the words before the first `--` spells a key of these names, by those that are known
abbrev pub IsGiven : Names → List (List ℕ) → Type 0
IsGiven names words = WasSpelled (program_names login_parser) names words

-- someone logs in only where both the name and the password were given
abbrev pub IsByBoth : List (List ℕ) → Option Login → Type 0
IsByBoth words login = IsSome login → IsGiven user_names words × IsGiven password_names words
