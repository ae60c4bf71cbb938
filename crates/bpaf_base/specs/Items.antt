-- Items: what a test on one computes.
use Rattle.std.specs.Prelude.{ℕ, Bool, true, false, not, ◌&&◌, ◌==◌, List, ◌++◌, Option, Some, None}
use Rattle.std.specs.Prelude.{bytes_eq, codes, encode_utf8}
use Rattle.std.specs.{List.list_any, Option.is_some, Option.option_map_or}
use Rattle.bpaf_base.specs.declared.arg.Arg.TheVariants.{Short, Long, ArgWord, Word, PosWord}
use Rattle.bpaf_base.specs.{Names.Names, declared.arg.Arg.Arg}

-- c is among cs
abbrev pub is_among : List ℕ → ℕ → Bool
is_among cs c = list_any (λ d. d == c) cs

-- a text is among texts
abbrev pub is_text_among : List (List ℕ) → List ℕ → Bool
is_text_among texts text = list_any (λ other. bytes_eq other text) texts

-- the key of a flag or an argument
abbrev pub is_key : Arg → Bool
is_key (Short c attached word) = true
is_key (Long name attached word) = true
is_key _ = false

-- a key with one of the names
abbrev pub is_key_of : Names → Arg → Bool
is_key_of names (Short c attached word) = is_among names.shorts c
is_key_of names (Long name attached word) = is_text_among names.longs name
is_key_of names _ = false

-- a key with its value in its own word
abbrev pub is_attached : Arg → Bool
is_attached (Short c attached word) = attached
is_attached (Long name attached word) = attached
is_attached _ = false

-- a key with one of the names; under `adjacent` an attached one
abbrev pub is_argument_key : Names → Bool → Arg → Bool
is_argument_key names adjacent item =
    is_key_of names item && not (adjacent && not (is_attached item))

-- what a key may have for its value: the text of a Word or an ArgWord
abbrev pub value_text : Arg → Option (List ℕ)
value_text (ArgWord text) = Some text
value_text (Word text) = Some text
value_text _ = None

-- whether it is a PosWord, and its text
abbrev pub word_text : Arg → Option (Bool × List ℕ)
word_text (Word text) = Some (false, text)
word_text (PosWord text) = Some (true, text)
word_text _ = None

-- a Word or a PosWord
abbrev pub is_positional : Arg → Bool
is_positional item = is_some (word_text item)

-- the text of an item: of a key its whole word
abbrev pub item_text : Arg → List ℕ
item_text (Short c attached word) = word
item_text (Long name attached word) = word
item_text (ArgWord text) = text
item_text (Word text) = text
item_text (PosWord text) = text

-- the whole word by which an item may name a command: that of a Word, Short, or Long not attached
abbrev pub command_word : Arg → Option (List ℕ)
command_word (Short c attached word) = Some word
command_word (Long name false word) = Some word
command_word (Word text) = Some text
command_word _ = None

-- an item is the word of a command
abbrev pub is_command_word : List ℕ → Arg → Bool
is_command_word word item = option_map_or (λ own. bytes_eq own word) (command_word item) false

-- every item
abbrev pub any_item : Arg → Bool
any_item item = true

-- how an item is printed: a key without its value, every other item as its text
abbrev pub display : Arg → List ℕ
display (Short c attached word) = codes "-" ++ encode_utf8 c
display (Long name attached word) = codes "--" ++ name
display (ArgWord text) = text
display (Word text) = text
display (PosWord text) = text
