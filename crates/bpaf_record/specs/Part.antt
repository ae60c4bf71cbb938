-- What a parser is to a program with commands, as the program tells it.
use Rattle.std.specs.Prelude.{Bool, true, false, not, ◌&&◌, ◌||◌}
use Rattle.bpaf_exact.specs.Flat.{FieldKind, ByName}
use Rattle.bpaf_exact.specs.ProgramForm.{ProgramForm, no_program, alternative, single, complete}
use Rattle.bpaf_exact.specs.ProgramForm.{product, commands, before_commands, part, after_parts}
use Rattle.bpaf_exact.specs.ProgramForm.{last_choice}
use Rattle.bpaf_record.specs.declared.part.Kind.TheVariants.{Named, Word}
use Rattle.bpaf_record.specs.declared.part.ProgramPart.TheVariants.{NoPart, Alternative, Single}
use Rattle.bpaf_record.specs.declared.part.ProgramPart.TheVariants.{Complete, Product, Commands}
use Rattle.bpaf_record.specs.declared.part.ProgramPart.TheVariants.{BeforeCommands, Part}
use Rattle.bpaf_record.specs.declared.part.ProgramPart.TheVariants.{AfterParts, LastChoice}
use Rattle.bpaf_record.specs.{declared.part.Kind.Kind, declared.part.ProgramPart.ProgramPart}

-- by a name, or a positional word
abbrev pub kind_of : FieldKind → Kind
kind_of ByName = Named
kind_of k = Word

-- that of a form, without its items
abbrev pub form_part : {T : Type 0} → ProgramForm T → ProgramPart
form_part no_program = NoPart
form_part (alternative wide q value) = Alternative wide
form_part (single wide k q group gap) = Single wide (kind_of k)
form_part (complete wide k q value) = Complete wide (kind_of k)
form_part (product wide named q fields) = Product wide named
form_part (commands optional value) = Commands optional
form_part (before_commands value) = BeforeCommands
form_part (part p) = Part
form_part (last_choice p own value) = LastChoice
form_part (after_parts value) = AfterParts

-- it is a named part too
abbrev pub has_named_part : ProgramPart → Bool
has_named_part (Alternative wide) = true
has_named_part (Single wide Named) = true
has_named_part (Complete wide Named) = true
has_named_part (Product wide named) = named
has_named_part Part = true
has_named_part _ = false

-- where a test holds
abbrev pub part_if : Bool → ProgramPart → ProgramPart
part_if true form = form
part_if false form = NoPart

-- a named part, where it is one
abbrev pub as_part : ProgramPart → ProgramPart
as_part form = part_if (has_named_part form) Part

-- with a closure round it
abbrev pub closed_part : ProgramPart → ProgramPart
closed_part (Product wide named) = part_if named Part
closed_part LastChoice = AfterParts
closed_part form = form

-- with another look
abbrev pub dressed_part : ProgramPart → ProgramPart
dressed_part (Product wide named) = Product true named
dressed_part form = form

-- with a repeat or a default, or left out
abbrev pub completed_part : ProgramPart → ProgramPart
completed_part (Alternative wide) = Complete wide Named
completed_part (Single wide kind) = Complete wide kind
completed_part (Commands false) = Commands true
completed_part form = as_part form

-- a command or a choice of commands
abbrev pub is_commands_part : ProgramPart → Bool
is_commands_part (Commands false) = true
is_commands_part _ = false

-- it may stand in a choice of named parts and commands
abbrev pub is_last_part : ProgramPart → Bool
is_last_part (Commands false) = true
is_last_part LastChoice = true
is_last_part form = has_named_part form

-- one of two, by a test
abbrev pub chosen_of : Bool → ProgramPart → ProgramPart → ProgramPart
chosen_of true one other = one
chosen_of false one other = other

-- the choice of two that aren't flat, nor commands alone
abbrev pub joined_part : Bool → Bool → ProgramPart → ProgramPart → ProgramPart
joined_part keys words one other =
    chosen_of (has_named_part one && has_named_part other) (part_if keys Part)
    (part_if ((words && (keys || (is_commands_part one || is_commands_part other)))
    && (is_last_part one && is_last_part other)) LastChoice)

-- the choice of two, by whether their keys and their words are apart
abbrev pub chosen_part : Bool → Bool → ProgramPart → ProgramPart → ProgramPart
chosen_part keys words (Alternative wide) (Alternative other) =
    part_if keys (Alternative (wide || other))
chosen_part keys words (Commands false) (Commands false) = part_if words (Commands false)
chosen_part keys words one other = joined_part keys words one other

-- one parser of a choice
abbrev pub only_part : ProgramPart → ProgramPart
only_part (Alternative wide) = Alternative wide
only_part (Commands false) = Commands false
only_part form = as_part form

-- as a field of a product
abbrev pub field_part : ProgramPart → ProgramPart
field_part (Complete wide kind) = Complete wide kind
field_part (Product wide true) = Complete true Named
field_part (Product wide false) = Product true false
field_part (Commands optional) = Commands optional
field_part BeforeCommands = BeforeCommands
field_part LastChoice = AfterParts
field_part AfterParts = AfterParts
field_part form = completed_part form

-- it is named
abbrev pub is_named_kind : Kind → Bool
is_named_kind Named = true
is_named_kind Word = false

-- as the last field
abbrev pub last_part : ProgramPart → ProgramPart
last_part (Complete wide kind) = Product wide (is_named_kind kind)
last_part (Product wide false) = Product wide false
last_part (Commands optional) = BeforeCommands
last_part BeforeCommands = BeforeCommands
last_part Part = Part
last_part AfterParts = AfterParts
last_part _ = NoPart

-- it may stand before others: of a named one the keys have to be apart, behind a word there is none
abbrev pub may_stand : Kind → Bool → Bool → Bool
may_stand Named apart none = apart
may_stand Word apart none = none

-- as a field before others
abbrev pub before_part : ProgramPart → ProgramPart → Bool → Bool → ProgramPart
before_part (Complete wide kind) (Product other named) apart none =
    part_if (may_stand kind apart none) (Product (wide || other) (is_named_kind kind && named))
before_part (Complete wide Named) BeforeCommands apart none = part_if apart BeforeCommands
before_part (Complete wide Named) AfterParts apart none = part_if apart AfterParts
before_part Part (Product wide false) apart none = part_if apart AfterParts
before_part Part BeforeCommands apart none = part_if apart AfterParts
before_part Part AfterParts apart none = part_if apart AfterParts
before_part first rest apart none =
    part_if (apart && (has_named_part first && has_named_part rest)) Part

-- with a constructor
abbrev pub made_part : ProgramPart → ProgramPart
made_part (Product wide named) = Product wide named
made_part BeforeCommands = BeforeCommands
made_part AfterParts = AfterParts
made_part form = as_part form

-- a program
abbrev pub is_program_part : ProgramPart → Bool
is_program_part NoPart = false
is_program_part _ = true

-- a flat record
abbrev pub is_record_part : ProgramPart → Bool
is_record_part (Alternative wide) = not wide
is_record_part (Single wide kind) = not wide
is_record_part (Complete wide kind) = not wide
is_record_part (Product wide named) = not wide
is_record_part _ = false

-- behind the word of a command
abbrev pub command_part : Bool → ProgramPart → ProgramPart
command_part opens form = part_if (opens && is_program_part form) (Commands false)
