-- What a document prints, in the two prints that it has, and how texts with line breaks are folded.
use Rattle.std.specs.Prelude.{ℕ, Bool, false, not, ◌||◌, ◌==◌, List, [], ◌∷◌, ◌++◌, Option, Some}
use Rattle.std.specs.Prelude.{None, filter, ◌≡◌, true, ◌≢◌, ◌<◌, ◌&&◌, length, slice_index}
use Rattle.std.specs.Prelude.{if◌then◌else◌, drop, option_map}
use Rattle.std.specs.{List.flat_map, List.before_first}
use Rattle.bpaf_doc.specs.{declared.doc.Piece.Piece, declared.doc.Style.Style}
use Rattle.bpaf_doc.specs.declared.doc.Style.TheVariants as style

-- the texts of the pieces in order, with the detail only in a full print
abbrev pub printed : Bool → List Piece → List ℕ
printed full pieces =
    flat_map (λ piece. piece.text) (filter (λ piece. full || not piece.detail) pieces)

-- a piece that each print shows
abbrev pub shown_as : Style → List ℕ → Piece
shown_as style text = record { text = text; style = style; detail = false }

-- the character of a line break
abbrev pub line_break : ℕ
line_break = 10

-- a backtick
abbrev pub backtick : ℕ
backtick = 96

-- a text between two backticks
abbrev pub in_backticks : List ℕ → List ℕ
in_backticks text = backtick ∷ text ++ backtick ∷ []

-- a document of one plain piece; none where its text is empty
abbrev pub unless_empty : List ℕ → Option (List Piece)
unless_empty [] = None
unless_empty (c ∷ rest) = Some (shown_as style.Text (c ∷ rest) ∷ [])

-- what is printed without detail, up to its first line break
abbrev pub first_line : List Piece → Option (List Piece)
first_line pieces = unless_empty (before_first (λ c. c == line_break) (printed false pieces))

-- a text in both prints: in full where the flag is true, else without the detail
abbrev pub Print : Type 0
Print = Bool → List ℕ

-- what a document prints
abbrev pub prints : List Piece → Print
prints doc full = printed full doc

-- a document prints this text
abbrev pub Prints : Print → List Piece → Type 0
Prints text doc = (full : Bool) → printed full doc ≡ text full

-- a text without bytes
abbrev pub is_blank : List ℕ → Bool
is_blank [] = true
is_blank (c ∷ rest) = false

-- a text is empty where its full print is
abbrev pub is_empty : Print → Bool
is_empty text = is_blank (text true)

-- Texts with their line breaks folded.

-- a space
abbrev pub space : ℕ
space = 32

-- a line break stays before this text: before nothing, a space or a line break
abbrev pub keeps_break : List ℕ → Bool
keeps_break [] = true
keeps_break (c ∷ rest) = c == space || c == line_break

-- every line break is a space, but one that stays before what follows it and one after a line
-- break; the flag tells that a line break stands before the text
abbrev pub folded_after : Bool → List ℕ → List ℕ
folded_after after_break [] = []
folded_after after_break (c ∷ rest) =
    (if c == line_break && not (after_break || keeps_break rest) then space else c)
    ∷ folded_after (c == line_break) rest

-- a whole text, folded
abbrev pub folded : List ℕ → List ℕ
folded text = folded_after false text

-- a line break that stays, or the space in its place
abbrev pub break_or_space : Bool → ℕ
break_or_space stays = if stays then line_break else space

-- what stands between a line and what follows it: a line break, where one stays there, or a space;
-- the flag tells that a line break stands before the line
abbrev pub break_between : Bool → List ℕ → List ℕ → ℕ
break_between after_break line more =
    break_or_space ((after_break && (length line == 0)) || keeps_break more)

-- a text without line breaks
abbrev pub HasNoBreak : List ℕ → Type 0
HasNoBreak text = (i : ℕ) → i < length text → slice_index text i ≢ line_break

-- an empty line: two line breaks in a row
abbrev pub empty_line : List ℕ
empty_line = line_break ∷ line_break ∷ []

-- a piece that only a full print shows
abbrev pub detail : List ℕ → Piece
detail text = record { text = text; style = style.Text; detail = true }

-- two line breaks stand first in a text
abbrev pub begins_with_empty_line : List ℕ → Bool
begins_with_empty_line [] = false
begins_with_empty_line (c ∷ []) = false
begins_with_empty_line (c ∷ d ∷ rest) = c == line_break && d == line_break

-- a text cut at its first empty line, where it has one: what stands before it, and what after it
abbrev pub cut_at_empty_line : List ℕ → Option (List ℕ × List ℕ)
cut_at_empty_line [] = None
cut_at_empty_line (c ∷ rest) =
    if begins_with_empty_line (c ∷ rest) then Some ([], drop 1 rest)
    else option_map (λ parts. (c ∷ parts.0, parts.1)) (cut_at_empty_line rest)

-- the pieces of a text: all of it, folded; or where it was cut what stands before, folded, and as
-- detail a line break and what follows, folded
abbrev pub pieces_of_parts : List ℕ → Option (List ℕ × List ℕ) → List Piece
pieces_of_parts text None = shown_as style.Text (folded text) ∷ []
pieces_of_parts text (Some parts) =
    shown_as style.Text (folded parts.0) ∷ detail (line_break ∷ folded parts.1) ∷ []

-- the pieces that a text gives: it is cut at its first empty line
abbrev pub text_pieces : List ℕ → List Piece
text_pieces text = pieces_of_parts text (cut_at_empty_line text)

-- what a full print shows of a text
abbrev pub folded_whole : List ℕ → List ℕ
folded_whole text = printed true (text_pieces text)
