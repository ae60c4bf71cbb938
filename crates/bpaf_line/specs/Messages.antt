-- The classes of refusals, and the one refusal of two parsers of which either would have served.
use Rattle.std.specs.Prelude.{Bool, true, false, ◌≡◌, ◌++◌, ◌⊎◌, ◌||◌, if◌then◌else◌}
use Rattle.bpaf_line.specs.declared.error.Message.{Message}
use Rattle.bpaf_line.specs.declared.error.Message.TheVariants.{Memory, NoEnv, ParseSome, ParseFail}
use Rattle.bpaf_line.specs.declared.error.Message.TheVariants.{PureFailed, Missing, ParseFailure}
use Rattle.bpaf_line.specs.declared.error.Message.TheVariants.{StrictPos, NonStrictPos, NoArgument}
use Rattle.bpaf_line.specs.declared.error.Message.TheVariants.{Unconsumed, Ambiguity}
use Rattle.bpaf_line.specs.declared.failure.ParseFailure.TheVariants as failure

-- want of memory, also that of an inner run
abbrev pub is_memory : Message → Bool
is_memory Memory = true
is_memory (ParseFailure failure.Memory) = true
is_memory _ = false

-- the answer of an inner run
abbrev pub is_answer : Message → Bool
is_answer (ParseFailure f) = true
is_answer _ = false

-- a refusal past which a parser goes on that may do without a value
abbrev pub can_catch : Message → Bool
can_catch (NoEnv name) = true
can_catch (ParseSome text) = true
can_catch (ParseFail text) = true
can_catch (PureFailed text) = true
can_catch (Missing items) = true
can_catch (NonStrictPos place metavar) = true
can_catch _ = false

-- a refusal for which the words of the line are at fault
abbrev pub is_wrong_input : Message → Bool
is_wrong_input (StrictPos place metavar) = true
is_wrong_input (NonStrictPos place metavar) = true
is_wrong_input (NoArgument place metavar) = true
is_wrong_input (Unconsumed place) = true
is_wrong_input (Ambiguity word number) = true
is_wrong_input _ = false

-- of two refusals that aren't want of memory: what a whole inner run answered; else all that is
-- missing, for which memory may be wanted; else the first where it can't be caught, else the second
abbrev pub CombinesSpared : Message → Message → Message → Type 0
CombinesSpared (ParseFailure failure) second both = both ≡ ParseFailure failure
CombinesSpared first (ParseFailure failure) both = both ≡ ParseFailure failure
CombinesSpared (Missing items) (Missing others) both = (both ≡ Missing (items ++ others))
    ⊎ (both ≡ Memory)
CombinesSpared first second both = both ≡ (if can_catch first then second else first)

-- want of memory, where one of the two is
abbrev pub Combines : Message → Message → Message → Type 0
Combines first second both =
    (((is_memory first || is_memory second) ≡ true) × (both ≡ Memory))
    ⊎ (((is_memory first || is_memory second) ≡ false) × CombinesSpared first second both)
