-- What a program prints of its files, by whether its key was spelled.
use Rattle.std.proofs.Common.{Bool, List, false, if◌then◌else◌, refl, true, ◌≡◌, ℕ}
use Rattle.bpaf_doc.specs.Names.{Names}
use Rattle.bpaf_words.specs.Line.{Known}
use Rattle.bpaf_program.specs.Ending.{line_each}
use Rattle.bpaf_record.specs.Record.{WasSpelled}
use Rattle.example_guide.specs.Told.{TellsFiles, with_key, without_key}

-- the lines begin in the one way only where the key was spelled
pub tells_files : {plain marked : List ℕ} {known : Known} {names : Names} {words : List (List ℕ)}
    {text : List ℕ} (files : List (List ℕ)) (spelled : Bool)
    → text ≡ line_each (if spelled then marked else plain) files
    → (spelled ≡ true → WasSpelled known names words)
    → TellsFiles plain marked known names words text
tells_files files true is key = with_key files is (key refl)
tells_files files false is key = without_key files is
