-- The keys of an archiver, and what an archive says of the words that it was read off.
use Rattle.std.specs.Prelude.{◌≡◌, ◌≢◌, true, ℕ, List, [], ◌∷◌, codes, IsSome}
use Rattle.std.specs.List.{Contains}
use Rattle.bpaf_doc.specs.Names.{Names}
use Rattle.bpaf_words.specs.Line.{Known, knowing}
use Rattle.bpaf.specs.Marker.{words_before}
use Rattle.bpaf_record.specs.Record.{WasSpelled}
use Rattle.example_guide.specs.declared.archive.Archive.{Archive}

-- a key of one letter and this name
abbrev pub key : List ℕ → List ℕ → Names
key letter name = record { shorts = letter; longs = name ∷ [] }

-- `-a` and `--agree`
abbrev pub agree : Names
agree = key (codes "a") (codes "agree")

-- `-o` and `--out`
abbrev pub out : Names
out = key (codes "o") (codes "out")

-- `-r` and `--root`
abbrev pub root : Names
root = key (codes "r") (codes "root")

-- `-l` and `--level`
abbrev pub level : Names
level = key (codes "l") (codes "level")

-- `-j` and `--jobs`
abbrev pub jobs : Names
jobs = key (codes "j") (codes "jobs")

-- `-x` and `--without`
abbrev pub without : Names
without = key (codes "x") (codes "without")

-- `-v` and `--verbose`
abbrev pub verbose : Names
verbose = key (codes "v") (codes "verbose")

-- `-q` and `--quiet`
abbrev pub quiet : Names
quiet = key (codes "q") (codes "quiet")

-- the names by which words are read: those of its keys, of help and of the version
abbrev pub archive_known : Known
archive_known = knowing (record { flags = codes "avqhV"; arguments = codes "orljx" })

-- one of the words before the first `--` is this one
abbrev pub IsTyped : List ℕ → List (List ℕ) → Type 0
IsTyped word words = Contains (words_before words) word

-- what it has was spelled
pub record WasToldBy (words : List (List ℕ)) (archive : Archive) : Type 0 where
  pub agreed : (archive.agreed ≡ true) × WasSpelled archive_known agree words
  pub out : WasSpelled archive_known out words
  pub root : WasSpelled archive_known root words
  pub level : IsSome archive.level → WasSpelled archive_known level words
  pub jobs : archive.jobs ≢ 1 → WasSpelled archive_known jobs words
  pub without : archive.without.items ≢ [] → WasSpelled archive_known without words
  pub verbose : archive.verbose ≢ 0 → WasSpelled archive_known verbose words

-- what was spelled it has
pub record HasSpelled (words : List (List ℕ)) (archive : Archive) : Type 0 where
  pub level : IsTyped (codes "--level") words → IsSome archive.level
  pub without : IsTyped (codes "--without") words → archive.without.items ≢ []
  pub quiet : IsTyped (codes "-q") words → archive.quiet ≡ true
  pub quiet_joined : IsTyped (codes "-vq") words → archive.quiet ≡ true
  pub without_joined : IsTyped (codes "-qx1") words → archive.without.items ≢ []
