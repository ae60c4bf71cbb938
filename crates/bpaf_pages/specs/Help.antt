-- The usage text and the help page of what a parser shows: joined texts, lines and paragraphs.
use Rattle.std.specs.Prelude.{ℕ, ◌||◌, List, [], ◌++◌, fold, if◌then◌else◌, not, ◌∷◌, codes}
use Rattle.std.specs.Prelude.{count_by, nat_lt, ◌+◌, Bool, true, false, ◌==◌, length, Option, Some}
use Rattle.std.specs.Prelude.{None, filter, ◌-◌, max, replicate, chars, encode_utf8, flat_map}
use Rattle.bpaf_doc.specs.Shape.{Shape, Shapes, And, Or, Optional, Required, Adjacent, Many, Strict}
use Rattle.bpaf_doc.specs.Shape.{Subsection, Suffix, CustomUsage, Shown, Skip, none, ◌then◌}
use Rattle.bpaf_doc.specs.Shape.{part_text, Part, Any, Positional, Command, Flag, Argument, Name}
use Rattle.bpaf_doc.specs.Print.{Print, is_empty, prints, space}
use Rattle.bpaf_doc.specs.{Shape.Short, Shape.Long, Shape.Both, declared.doc.Piece.Piece}
use Rattle.bpaf_pages.specs.declared.lines.ListPlace.TheVariants.{Positionals, Options, Commands}
use Rattle.bpaf_pages.specs.declared.lines.ListPlace.{ListPlace}
use Rattle.bpaf_pages.specs.declared.lines.ListPlace.TheVariants.{Section}

-- no text
abbrev pub nothing : Print
nothing full = []

-- a text behind another, with something between them where neither is empty
abbrev pub glued : List ℕ → Print → Print → Print
glued between first second full =
    first full ++ (if is_empty first || is_empty second then [] else between) ++ second full

-- texts in order behind a first one, with something between those that aren't empty
abbrev pub joined_behind : List ℕ → Print → List Print → Print
joined_behind between first texts = fold (glued between) first texts

-- texts in order, with something between those that aren't empty
abbrev pub joined : List ℕ → List Print → Print
joined between texts = joined_behind between nothing texts

-- a text with something around it; nothing where it is empty
abbrev pub around : List ℕ → List ℕ → Print → Print
around before after text full = if is_empty text then [] else before ++ text full ++ after

-- how many texts aren't empty
abbrev pub how_many : List Print → ℕ
how_many texts = count_by (λ text. not (is_empty text)) texts

-- one of some texts: between brackets where more than one isn't empty
abbrev pub choice : List Print → Print
choice texts full =
    if nat_lt 1 (how_many texts)
    then around (codes "(") (codes ")") (joined (codes " | ") texts) full
    else joined (codes " | ") texts full

-- how what a shape shows may be written on a line
abbrev mutual
  -- of a shape
  pub usage_text : Shape → Print
  usage_text (And all) full = joined (codes " ") (usage_texts all) full
  usage_text (Or all) full = choice (usage_texts all) full
  usage_text (Optional inner) full = around (codes "[") (codes "]") (usage_text inner) full
  usage_text (Required inner) full = usage_text inner full
  usage_text (Adjacent inner) full = usage_text inner full
  usage_text (Many inner) full = around [] (codes "...") (usage_text inner) full
  usage_text (Strict inner) full = codes "-- " ++ usage_text inner full
  usage_text (Subsection inner title) full = usage_text inner full
  usage_text (Suffix inner text) full = usage_text inner full
  usage_text (CustomUsage inner text) full = prints text full
  usage_text (Shown part) full = part_text part
  usage_text Skip full = []

  -- of each member of an And or an Or
  pub usage_texts : Shapes → List Print
  usage_texts none = []
  usage_texts (first then rest) = usage_text first ∷ usage_texts rest

-- The lines of a help page: the items that a shape shows, and the texts of its suffixes.

-- what a line tells: an item, or a text below what stands before it
pub data Told : Type 0 where
  Listed : Part → Told
  Below : List Piece → Told

-- one line
pub record Line : Type 0 where
  pub place : ListPlace
  pub told : Told

-- whether two places are one
abbrev pub same_place : ListPlace → ListPlace → Bool
same_place Positionals Positionals = true
same_place Options Options = true
same_place Commands Commands = true
same_place (Section one) (Section other) = one == other
same_place _ _ = false

-- the list of an item outside of all sections
abbrev pub list_of : Part → ListPlace
list_of (Any metavar help anywhere) = if anywhere then Options else Positionals
list_of (Positional metavar help) = Positionals
list_of (Command name short help inner) = Commands
list_of (Flag name shorts env help) = Options
list_of (Argument name shorts metavar env help) = Options

-- where an item stands, inside a section or outside
abbrev pub place_in : Option ℕ → Part → ListPlace
place_in None part = list_of part
place_in (Some section) part = Section section

-- the titles of the Subsections, in the order met
abbrev mutual
  -- of a shape: that of a Subsection stands before those inside it
  pub titles : Shape → List (List Piece)
  titles (And all) = titles_of_all all
  titles (Or all) = titles_of_all all
  titles (Optional inner) = titles inner
  titles (Required inner) = titles inner
  titles (Adjacent inner) = titles inner
  titles (Many inner) = titles inner
  titles (Strict inner) = titles inner
  titles (Subsection inner title) = title ∷ titles inner
  titles (Suffix inner text) = titles inner
  titles (CustomUsage inner text) = titles inner
  titles (Shown part) = []
  titles Skip = []

  -- of the members of an And or an Or
  pub titles_of_all : Shapes → List (List Piece)
  titles_of_all none = []
  titles_of_all (first then rest) = titles first ++ titles_of_all rest

-- a text below the last of some lines, none where there is no line
abbrev pub below_last : List Piece → List Line → List Line
below_last text [] = []
below_last text (line ∷ []) = record { place = line.place; told = Below text } ∷ []
below_last text (line ∷ next ∷ rest) = below_last text (next ∷ rest)

-- all lines, where some sections were met before: those of a section stand in it, and those of a
-- section inside it in that one; the inside of a command gives none
abbrev mutual
  -- of a shape, inside a section or outside
  pub lines : Shape → Option ℕ → ℕ → List Line
  lines (And all) home met = lines_of_all all home met
  lines (Or all) home met = lines_of_all all home met
  lines (Optional inner) home met = lines inner home met
  lines (Required inner) home met = lines inner home met
  lines (Adjacent inner) home met = lines inner home met
  lines (Many inner) home met = lines inner home met
  lines (Strict inner) home met = lines inner home met
  lines (Subsection inner title) home met = lines inner (Some met) (met + 1)
  lines (Suffix inner text) home met =
      lines inner home met ++ below_last text (lines inner home met)
  lines (CustomUsage inner text) home met = lines inner home met
  lines (Shown part) home met = record { place = place_in home part; told = Listed part } ∷ []
  lines Skip home met = []

  -- of the members of an And or an Or
  pub lines_of_all : Shapes → Option ℕ → ℕ → List Line
  lines_of_all none home met = []
  lines_of_all (first then rest) home met =
      lines first home met ++ lines_of_all rest home (met + length (titles first))

-- the lines that stand in one place
abbrev pub lines_at : ListPlace → List Line → List Line
lines_at place all = filter (λ line. same_place place line.place) all

-- The help page of what a parser shows.

-- the texts that a program gives; each may be missing
pub record PageTexts : Type 0 where
  pub usage : Option (List Piece)
  pub descr : Option (List Piece)
  pub header : Option (List Piece)
  pub footer : Option (List Piece)

-- the names of a key: a long name alone stands below other long names
abbrev pub key_names : Name → List ℕ
key_names (Short c) = codes "-" ++ encode_utf8 c
key_names (Long name) = codes "    --" ++ name
key_names (Both c name) = codes "-" ++ encode_utf8 c ++ codes ", --" ++ name

-- a short name behind the name of a command
abbrev pub also_short : Option ℕ → List ℕ
also_short None = []
also_short (Some c) = codes ", " ++ encode_utf8 c

-- the name of an item in a list
abbrev pub list_name : Part → List ℕ
list_name (Any metavar help anywhere) = prints metavar true
list_name (Positional metavar help) = metavar
list_name (Command name short help inner) = name ++ also_short short
list_name (Flag name shorts env help) = key_names name
list_name (Argument name shorts metavar env help) = key_names name ++ codes "=" ++ metavar

-- what is said of an item
abbrev pub help_of : Part → Option (List Piece)
help_of (Any metavar help anywhere) = help
help_of (Positional metavar help) = help
help_of (Command name short help inner) = help
help_of (Flag name shorts env help) = help
help_of (Argument name shorts metavar env help) = help

-- what a document prints; nothing where it is missing
abbrev pub prints_of : Option (List Piece) → Print
prints_of None = λ full. []
prints_of (Some doc) = prints doc

-- how many characters a text has
abbrev pub width_of : List ℕ → ℕ
width_of text = length (chars text)

-- how wide the name of a line is; a text below others has none
abbrev pub name_width : Told → ℕ
name_width (Listed part) = width_of (list_name part)
name_width (Below text) = 0

-- the greater width of a text and of a line's name
abbrev pub wider : ℕ → Line → ℕ
wider width line = max width (name_width line.told)

-- the width of the widest name
abbrev pub widest : List Line → ℕ
widest all = fold wider 0 all

-- a name as the beginning of a line, up to the column where what is said of it begins
abbrev pub column : ℕ → List ℕ → List ℕ
column width name = codes "    " ++ name ++ replicate (width - width_of name) space ++ codes "  "

-- the line of a name and what is said of it, which may be empty
abbrev pub name_line : ℕ → List ℕ → Print → Print
name_line width name help full =
    if is_empty help then codes "    " ++ name ++ codes "\n"
    else column width name ++ help full ++ codes "\n"

-- a line where names have this width
abbrev pub line_text : ℕ → Told → Print
line_text width (Listed part) full =
    name_line width (list_name part) (prints_of (help_of part)) full
line_text width (Below text) full = column width [] ++ prints text full ++ codes "\n"

-- lines, one behind the other
abbrev pub rows : ℕ → List Line → Print
rows width all full = flat_map (λ line. line_text width line.told full) all

-- a document as a paragraph; nothing where it is empty
abbrev pub paragraph : Print → Print
paragraph text = around [] (codes "\n") text

-- a heading and the lines below it; nothing where there is no line
abbrev pub list_below : List ℕ → Print → Print
list_below heading list = around (heading ++ codes "\n") [] list

-- the path and the usage text behind the word `Usage:`
abbrev pub usage_line : List (List ℕ) → Print → Print
usage_line path usage full =
    codes "Usage:" ++ flat_map (λ entry. codes " " ++ entry) path
    ++ around (codes " ") [] usage full ++ codes "\n"

-- the usage paragraph: the text that is given, or the line of the path and the usage text
abbrev pub usage_paragraph : List (List ℕ) → Option (List Piece) → Print → Print
usage_paragraph path (Some given) usage = paragraph (prints given)
usage_paragraph path None usage = usage_line path usage

-- a title and the lines of its section
abbrev pub section : ℕ → List Line → ℕ → List Piece → Print
section width all number title full =
    paragraph (prints title) full ++ rows width (lines_at (Section number) all) full

-- the sections of these titles, numbered from the first one
abbrev pub sections : ℕ → List Line → ℕ → List (List Piece) → List Print
sections width all number [] = []
sections width all number (title ∷ rest) =
    section width all number title ∷ sections width all (number + 1) rest

-- the paragraphs before the lists
abbrev pub opening : List (List ℕ) → PageTexts → Print → List Print
opening path given usage =
    paragraph (prints_of given.descr) ∷ usage_paragraph path given.usage usage
    ∷ paragraph (prints_of given.header) ∷ []

-- the lists of all lines outside of sections
abbrev pub lists : ℕ → List Line → List Print
lists width all =
    list_below (codes "Available positional items:") (rows width (lines_at Positionals all))
    ∷ list_below (codes "Available options:") (rows width (lines_at Options all))
    ∷ list_below (codes "Available commands:") (rows width (lines_at Commands all)) ∷ []

-- all paragraphs of a page with these lines and titles
abbrev pub paragraphs : List (List ℕ) → PageTexts → Print → List Line → List (List Piece)
    → List Print
paragraphs path given usage all names =
    let width = widest all in
    opening path given usage
    ++ (sections width all 0 names
    ++ (lists width all ++ paragraph (prints_of given.footer) ∷ []))

-- paragraphs with an empty line between two
abbrev pub page : List Print → Print
page all = joined (codes "\n") all

-- the page of a shape at this path; what `extra` shows, help and the version, stands behind it
unfoldable pub help_text : List (List ℕ) → PageTexts → Shape → Shape → Print
help_text path given shape extra =
    let whole = And (shape then extra then none) in
    page (paragraphs path given (usage_text shape) (lines whole None 0) (titles whole))
