-- The words of a command line on the two sides of its first `--`.
use Rattle.std.specs.Prelude.{ℕ, Bool, List, bytes_eq, codes}
use Rattle.std.specs.List.{before_first, after_first}

-- a word is `--`
abbrev pub is_marker_word : List ℕ → Bool
is_marker_word word = bytes_eq word (codes "--")

-- the words before the first `--`; all of them, where there is none
abbrev pub words_before : List (List ℕ) → List (List ℕ)
words_before words = before_first is_marker_word words

-- the words behind the first `--`; none, where there is none
abbrev pub words_behind : List (List ℕ) → List (List ℕ)
words_behind words = after_first is_marker_word words
