-- What is told of items that are left, and of words that have no line.
use Rattle.std.specs.Prelude.{ℕ, ◌≡◌, ◌<◌, Bool, true, false, ◌==◌, bytes_eq, Option, Some, ◌⊎◌}
use Rattle.std.specs.Prelude.{List, [], None}
use Rattle.bpaf_line.specs.Situation.{Situation, line_item, Context, beginning, IsNextOpen}
use Rattle.bpaf_base.specs.{declared.arg.Arg.Arg, declared.arg.Arg.TheVariants.Short}
use Rattle.bpaf_base.specs.declared.arg.Arg.TheVariants.{Long}
use Rattle.bpaf_line.specs.{Situation.conflict_at, declared.failure.ParseFailure.ParseFailure}
use Rattle.bpaf_line.specs.{declared.error.Message.Message}
use Rattle.bpaf_messages.specs.Rendering.{Renders}
use Rattle.bpaf_line.specs.declared.failure.ParseFailure.TheVariants as failure
use Rattle.bpaf_line.specs.declared.error.Message.TheVariants as message

-- two items are keys of one kind and name
abbrev pub have_one_name : Arg → Arg → Bool
have_one_name (Short c attached word) (Short d joined other) = c == d
have_one_name (Long name attached word) (Long same joined other) = bytes_eq name same
have_one_name item other = false

-- two places have such items
abbrev pub repeats : Option Arg → Option Arg → Bool
repeats (Some item) (Some other) = have_one_name item other
repeats item other = false

-- the item at a place, and the one at an earlier place, taken or not, are keys of one kind and name
abbrev pub repeats_key : Situation → ℕ → ℕ → Bool
repeats_key s place earlier = repeats (line_item s place) (line_item s earlier)

-- the last place before another that has a key of its name
pub record IsEarlierKey (s : Situation) (place earlier : ℕ) : Type 0 where
  pub before : earlier < place
  pub same : repeats_key s place earlier ≡ true
  pub last : (q : ℕ) → earlier < q → q < place → repeats_key s place q ≡ false

-- no place before another has a key of its name
abbrev pub HasNoEarlierKey : Situation → ℕ → Type 0
HasNoEarlierKey s place = (q : ℕ) → q < place → repeats_key s place q ≡ false

-- what is told of words without a line: the message, with the set name alone; or want of memory
abbrev pub TellsNoLine : Option (List ℕ) → Message → ParseFailure → Type 0
TellsNoLine name m f =
    (f ≡ failure.Memory)
    ⊎ ((context : Context) × (context.line ≡ []) × (context.name ≡ name)
    × Renders m (beginning context) f)

-- the message of the first item that is left: what excludes it, where that is noted; else the
-- earlier key of its kind and name, where it is a key and there is one; else that it isn't expected
pub data IsLeftover (s : Situation) : Message → Type 0 where
  conflict : (p winner : ℕ) → IsNextOpen s 0 p → conflict_at s p ≡ Some winner
      → IsLeftover s (message.Conflict winner p)
  only_once : (p earlier : ℕ) → IsNextOpen s 0 p → conflict_at s p ≡ None
      → IsEarlierKey s p earlier → IsLeftover s (message.OnlyOnce earlier p)
  not_expected : (p : ℕ) → IsNextOpen s 0 p → conflict_at s p ≡ None
      → HasNoEarlierKey s p → IsLeftover s (message.Unconsumed p)
