-- What a short text is kept as.
use Rattle.std.specs.Prelude.{ℕ, ◌≤◌, List, length, take, string_bytes}
use Rattle.std.specs.Str.{IsUtf8}
use Rattle.bpaf_base.specs.declared.text.Kept.TheVariants.{Short, Long}
use Rattle.bpaf_base.specs.{declared.short.ShortText.TheInside.Inside, declared.text.Kept.Kept}

-- the bytes in front
abbrev pub front_of : Inside → List ℕ
front_of s = take s.len s.bytes

-- they are there, and are those of characters
pub record IsShortText (s : Inside) : Type 0 where
  pub within : s.len ≤ length s.bytes
  pub text : IsUtf8 (take s.len s.bytes)

-- the bytes of a text, whatever it is kept in
abbrev pub bytes_of : Kept → List ℕ
bytes_of (Short text) = text
bytes_of (Long text) = string_bytes text
