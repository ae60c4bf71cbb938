-- The names of the key of a dimmer, and those by which it reads words.
use Rattle.std.specs.Prelude.{[], ◌∷◌, codes}
use Rattle.bpaf_doc.specs.Names.{Names}
use Rattle.bpaf_words.specs.Line.{Known, knowing}

-- `-p` and `--percent`
abbrev pub percent_names : Names
percent_names = record { shorts = codes "p"; longs = codes "percent" ∷ [] }

-- those of its keys, of help and of the version
abbrev pub dimming_known : Known
dimming_known = knowing (record { flags = codes "hV"; arguments = codes "pls" })
