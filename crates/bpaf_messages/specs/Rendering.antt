-- The texts of messages, and what these show of missing items and of those of the line.
use Rattle.std.specs.Prelude.{Bool, true, false, ◌&&◌, ◌||◌, ◌==◌, List, nat_lt, nat_le, [], ◌∷◌}
use Rattle.std.specs.Prelude.{map, filter, if◌then◌else◌, ℕ, zero, suc, ◌+◌, ◌++◌, codes, Option}
use Rattle.std.specs.Prelude.{Some, None, option_map, option_and_then, ◌≡◌, max, drop, chars}
use Rattle.std.specs.Prelude.{encode_utf8, encode_utf8_all, slice_get, unwrap_or, ⊤}
use Rattle.std.specs.{Option.option_map_or, List.best_of}
use Rattle.bpaf_doc.specs.Print.{printed, in_backticks, folded_whole}
use Rattle.bpaf_doc.specs.Shape.{Part, Any, Positional, Command, Flag, Argument, part_text, part_of}
use Rattle.bpaf_line.specs.declared.error.Message.TheVariants.{Memory, NoEnv, ParseSome, ParseFail}
use Rattle.bpaf_line.specs.declared.error.Message.TheVariants.{PureFailed, Missing, ParseFailure}
use Rattle.bpaf_line.specs.declared.error.Message.TheVariants.{StrictPos, NonStrictPos, NoArgument}
use Rattle.bpaf_line.specs.declared.error.Message.TheVariants.{ParseFailed, GuardFailed, Conflict}
use Rattle.bpaf_line.specs.declared.error.Message.TheVariants.{Unconsumed, Ambiguity, Expected}
use Rattle.bpaf_line.specs.Situation.{Situation, line_item, first_present}
use Rattle.bpaf_line.specs.{declared.error.Message.TheVariants.OnlyOnce, Missing.Missed}
use Rattle.bpaf_line.specs.{Missing.missed_of, declared.error.Message.Message, Taking.open_item}
use Rattle.bpaf_line.specs.declared.failure.ParseFailure.{ParseFailure as Failure}
use Rattle.bpaf_base.specs.declared.arg.Arg.TheVariants.{Short, Long, ArgWord, Word, PosWord}
use Rattle.bpaf_base.specs.{declared.arg.Arg.Arg, Items.display}
use Rattle.bpaf_line.specs.declared.failure.ParseFailure.TheVariants as failure

-- an item was looked for no less far on: from a later place, or the same in a scope no earlier
abbrev pub reaches : Missed → Missed → Bool
reaches m n = nat_lt n.position m.position || (m.position == n.position && nat_le n.start m.start)

-- the item that was looked for furthest on, the last of equals
abbrev pub furthest : Missed → List Missed → Missed
furthest first more = best_of reaches first more

-- two items were looked for in one scope
abbrev pub in_one_scope : Missed → Missed → Bool
in_one_scope m n = m.start == n.start && m.«end» == n.«end»

-- a command
abbrev pub is_command : Part → Bool
is_command (Any metavar help anywhere) = false
is_command (Positional metavar help) = false
is_command (Command name short help inner) = true
is_command (Flag name shorts env help) = false
is_command (Argument name shorts metavar env help) = false

-- parts without the commands behind the first one; the flag tells that one stands before them
abbrev pub one_command : Bool → List Part → List Part
one_command after [] = []
one_command after (part ∷ rest) =
    if after && is_command part then one_command after rest
    else part ∷ one_command (after || is_command part) rest

-- the parts that are told: those looked for in the scope of the furthest one
abbrev pub told_parts : Missed → List Missed → List Part
told_parts far all = one_command false (map (λ m. m.item) (filter (in_one_scope far) all))

-- how the item at a place is printed; past the line nothing is
abbrev pub shown_item : Situation → ℕ → List ℕ
shown_item s p = option_map_or display (line_item s p) []

-- the text of a word; a key has none
abbrev pub word_of : Arg → Option (List ℕ)
word_of (Short c attached word) = None
word_of (Long name attached word) = None
word_of (ArgWord text) = Some text
word_of (Word text) = Some text
word_of (PosWord text) = Some text

-- the text of a key; a word has none
abbrev pub key_of : Arg → Option (List ℕ)
key_of (Short c attached word) = Some word
key_of (Long name attached word) = Some word
key_of (ArgWord text) = None
key_of (Word text) = None
key_of (PosWord text) = None

-- the word at a place
abbrev pub word_at : Situation → ℕ → Option (List ℕ)
word_at s p = option_and_then word_of (line_item s p)

-- the text of the key at the next place, where it is present and in scope
abbrev pub key_behind : Situation → ℕ → Option (List ℕ)
key_behind s p = option_and_then key_of (open_item s (p + 1))

-- what stands between a key and its value, by whether it is attached
abbrev pub sign_behind : Bool → List ℕ
sign_behind true = codes "="
sign_behind false = codes " "

-- a key as it stands before its value; of a word nothing
abbrev pub before_value : Arg → List ℕ
before_value (Short c attached word) = display (Short c attached word) ++ sign_behind attached
before_value (Long name attached word) = display (Long name attached word) ++ sign_behind attached
before_value (ArgWord text) = []
before_value (Word text) = []
before_value (PosWord text) = []

-- the key before a place, as it stands before its value
abbrev pub key_before : Situation → ℕ → List ℕ
key_before s zero = []
key_before s (suc p) = option_map_or before_value (line_item s p) []

-- a word; an empty one as two quotes behind the key before it
abbrev pub quoted : List ℕ → List ℕ → List ℕ
quoted key [] = key ++ codes "\"\""
quoted key (c ∷ word) = c ∷ word

-- the word at a place, as a message tells it that says that it can't be read
abbrev pub quoted_word : Situation → ℕ → Option (List ℕ)
quoted_word s p = option_map (quoted (key_before s p)) (word_at s p)

-- The texts of messages.

-- a word stands on the wrong side of the marker, and should stand on this one
abbrev pub side_text : List ℕ → List ℕ → List ℕ
side_text metavar side =
    codes "expected " ++ in_backticks metavar ++ codes " to be on the " ++ side
    ++ codes " side of " ++ in_backticks (codes "--")

-- a text that could not be read: its word, where it stands in the line, and why, folded
abbrev pub parse_failed_text : Option (List ℕ) → List ℕ → List ℕ
parse_failed_text None why = codes "couldn't parse: " ++ folded_whole why
parse_failed_text (Some word) why =
    codes "couldn't parse " ++ in_backticks word ++ codes ": " ++ folded_whole why

-- a value that a check refused: its word, where it stands in the line, and why, folded
abbrev pub guard_failed_text : Option (List ℕ) → List ℕ → List ℕ
guard_failed_text None why = codes "check failed: " ++ folded_whole why
guard_failed_text (Some word) why = in_backticks word ++ codes ": " ++ folded_whole why

-- a key without a value, and advice where the next item is a key with this text
abbrev pub no_argument_text : List ℕ → List ℕ → Option (List ℕ) → List ℕ
no_argument_text key metavar None =
    in_backticks key ++ codes " requires an argument " ++ in_backticks metavar
no_argument_text key metavar (Some next) =
    in_backticks key ++ codes " requires an argument " ++ in_backticks metavar
    ++ codes ", got a flag " ++ in_backticks next
    ++ codes ", try " ++ in_backticks (key ++ codes "=" ++ next)
    ++ codes " to use it as an argument"

-- the key at a place stands there once more
abbrev pub only_once_text : Situation → ℕ → List ℕ
only_once_text s place =
    codes "argument " ++ in_backticks (shown_item s place)
    ++ codes " cannot be used multiple times in this context"

-- the character of a number with a dash before it; the dash alone, where there is none
abbrev pub dashed : List ℕ → ℕ → List ℕ
dashed letters number = codes "-" ++ option_map_or encode_utf8 (slice_get letters number) []

-- the same with a value: the characters behind it
abbrev pub dashed_with_rest : List ℕ → ℕ → List ℕ
dashed_with_rest letters number =
    dashed letters number ++ codes "=" ++ encode_utf8_all (drop (number + 1) letters)

-- the first characters of a word as options by themselves
abbrev pub split_options : List ℕ → List ℕ
split_options letters = dashed letters 1 ++ codes " " ++ dashed letters 2 ++ codes " .."

-- for a program of this name an option of a word is an option-argument too: what to write in place
-- of the word, either options by themselves or that one with a value
abbrev pub advice_text : (name word option options with_value : List ℕ) → List ℕ
advice_text name word option options with_value =
    name ++ codes " supports " ++ in_backticks option
    ++ codes " as both an option and an option-argument, try to split " ++ in_backticks word
    ++ codes " into individual options (" ++ options ++ codes ") or use " ++ in_backticks with_value
    ++ codes " syntax to disambiguate"

-- the same where the option is a character of the word
abbrev pub ambiguity_text : List ℕ → List ℕ → List ℕ → ℕ → List ℕ
ambiguity_text name word letters number = advice_text name word (dashed letters number)
    (split_options letters) (dashed_with_rest letters number)

-- one of these texts
abbrev pub one_of_texts : List (List ℕ) → List ℕ
one_of_texts [] = codes "no arguments"
one_of_texts (a ∷ []) = in_backticks a
one_of_texts (a ∷ b ∷ []) = in_backticks a ++ codes " or " ++ in_backticks b
one_of_texts (a ∷ b ∷ c ∷ more) =
    in_backticks a ++ codes ", " ++ in_backticks b ++ codes ", or more"

-- what was got in place of what was expected: the item at a place, or nothing
abbrev pub got_text : Situation → Option ℕ → List ℕ
got_text s None = codes ", pass "
got_text s (Some p) = codes ", got " ++ in_backticks (shown_item s p) ++ codes ". Pass "

-- one of these texts was expected
abbrev pub expected_of : Situation → List (List ℕ) → Option ℕ → List ℕ
expected_of s texts got =
    codes "expected " ++ one_of_texts texts ++ got_text s got
    ++ in_backticks (codes "--help") ++ codes " for usage information"

-- one of these parts was expected
abbrev pub expected_text : Situation → List Part → Option ℕ → List ℕ
expected_text s parts got = expected_of s (map part_text parts) got

-- what is told where all that is missing is hidden
abbrev pub hidden_text : List ℕ
hidden_text =
    codes "parser requires an extra flag, argument or parameter, "
    ++ codes "but its name is hidden by the author"

-- what is told of missing items: those looked for furthest on were expected; or all are hidden
abbrev pub missing_text : Situation → List Missed → List ℕ
missing_text s [] = hidden_text
missing_text s (first ∷ more) =
    let far = furthest first more in
    expected_text s (told_parts far (first ∷ more))
    (first_present s (max far.start far.position) far.«end»)

-- the text of a message in a situation; want of memory and the answer of an inner run have none
abbrev pub message_text : Message → Situation → List ℕ
message_text Memory s = []
message_text (NoEnv name) s =
    codes "environment variable " ++ in_backticks name ++ codes " is not set"
message_text (ParseSome text) s = folded_whole text
message_text (ParseFail text) s = folded_whole text
message_text (PureFailed text) s = folded_whole text
message_text (Missing items) s = missing_text s (map missed_of items)
message_text (ParseFailure inner) s = []
message_text (StrictPos place metavar) s = side_text metavar (codes "right")
message_text (NonStrictPos place metavar) s = side_text metavar (codes "left")
message_text (ParseFailed place why) s =
    parse_failed_text (option_and_then (quoted_word s) place) why
message_text (GuardFailed place why) s = guard_failed_text (option_and_then (word_at s) place) why
message_text (NoArgument place metavar) s =
    no_argument_text (shown_item s place) metavar (key_behind s place)
message_text (Unconsumed place) s =
    in_backticks (shown_item s place) ++ codes " is not expected in this context"
message_text (Ambiguity word number) s =
    ambiguity_text (unwrap_or s.context.name (codes "app")) word (chars word) number
message_text (Conflict winner loser) s =
    in_backticks (shown_item s loser) ++ codes " cannot be used at the same time as "
    ++ in_backticks (shown_item s winner)
message_text (Expected items got) s = expected_text s (map part_of items.items) got
message_text (OnlyOnce earlier place) s = only_once_text s place

-- a refusal of this text; or want of memory for it
abbrev pub IsRefusal : List ℕ → Failure → Type 0
IsRefusal text (failure.Stdout doc full) = ⊥
IsRefusal text (failure.Stderr doc) = printed true doc ≡ text
IsRefusal text failure.Memory = ⊤

-- what is told of a message in a situation: want of memory stays that, the answer of an inner run
-- is passed on, and every other message is a refusal of its text, or want of memory for it
abbrev pub Renders : Message → Situation → Failure → Type 0
Renders Memory s told = told ≡ failure.Memory
Renders (ParseFailure inner) s told = told ≡ inner
Renders message s told = IsRefusal (message_text message s) told
