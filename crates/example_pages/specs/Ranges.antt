-- How a list of ranges is spelled.
use Rattle.std.specs.Prelude.{ℕ, Bool, List, [], ◌∷◌, ◌==◌, ◌&&◌, not, length}
use Rattle.std.specs.Prelude.{if◌then◌else◌}
use Rattle.std.specs.{List.list_all, Char.is_ascii_digit}

-- all characters are digits
abbrev pub are_digits : List ℕ → Bool
are_digits text = list_all is_ascii_digit text

-- what stands before the first dash, and behind it
abbrev pub ends : List ℕ → List ℕ × List ℕ
ends [] = ([], [])
ends (c ∷ rest) = if c == 45 then ([], rest) else (c ∷ (ends rest).0, (ends rest).1)

-- digits, or digits around a dash, on one side of it at least
abbrev pub is_range : List ℕ → Bool
is_range part =
    are_digits (ends part).0 && are_digits (ends part).1
    && not ((length (ends part).0 == 0) && (length (ends part).1 == 0))

-- a character in front of the first of some parts
abbrev pub in_front : ℕ → List (List ℕ) → List (List ℕ)
in_front c [] = (c ∷ []) ∷ []
in_front c (part ∷ parts) = (c ∷ part) ∷ parts

-- the parts of a text between commas
abbrev pub parts : List ℕ → List (List ℕ)
parts [] = [] ∷ []
parts (c ∷ rest) = if c == 44 then [] ∷ parts rest else in_front c (parts rest)

-- ranges, with a comma between two
abbrev pub are_ranges : List ℕ → Bool
are_ranges text = list_all is_range (parts text)
