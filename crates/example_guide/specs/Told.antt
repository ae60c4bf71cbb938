-- What a program prints of its files, by a key.
use Rattle.std.specs.Prelude.{◌≡◌, ℕ, List}
use Rattle.bpaf_doc.specs.Names.{Names}
use Rattle.bpaf_words.specs.Line.{Known}
use Rattle.bpaf_program.specs.Ending.{line_each}
use Rattle.bpaf_record.specs.Record.{WasSpelled}

-- a line for each file: with the one beginning; or with the other, where the key was spelled
pub data TellsFiles (plain marked : List ℕ) (known : Known) (names : Names)
    (words : List (List ℕ)) (text : List ℕ) : Type 0 where
  without_key : (files : List (List ℕ)) → text ≡ line_each plain files
      → TellsFiles plain marked known names words text
  with_key : (files : List (List ℕ)) → text ≡ line_each marked files
      → WasSpelled known names words → TellsFiles plain marked known names words text
