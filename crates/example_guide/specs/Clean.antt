-- What the program with commands is told to do, and the names by which it reads words.
use Rattle.std.specs.Prelude.{[], codes}
use Rattle.bpaf_words.specs.Line.{Known, knowing}
use Rattle.example_guide.specs.declared.clean.Task.{Task}
use Rattle.example_guide.specs.declared.clean.Task.TheVariants.{List, Remove}

-- files are to be removed
abbrev pub IsRemoval : Task → Type 0
IsRemoval (List long) = ⊥
IsRemoval (Remove files) = Unit {0}

-- those of its keys, of help and of the version
abbrev pub cleaning_known : Known
cleaning_known = knowing (record { flags = codes "flhV"; arguments = [] })
