-- What a line of the program is in contracts.
use Rattle.bpaf_pages.specs.declared.lines.Line.{Line as LineHere}
use Rattle.bpaf_pages.specs.declared.lines.Told.{Told as ToldHere}
use Rattle.bpaf_pages.specs.Help.{Line, Told, Listed, Below}
use Rattle.bpaf_doc.specs.Shape.{part_of}
use Rattle.bpaf_pages.specs.declared.lines.Told.TheVariants as told

-- what a line tells
abbrev pub told_of : ToldHere → Told
told_of (told.Listed item) = Listed (part_of item.now)
told_of (told.Below text) = Below text.now

-- a line
abbrev pub line_of : LineHere → Line
line_of line = record { place = line.place; told = told_of line.told }
