-- What a text means as a value, what reading it may answer, and what collections hold.
use Rattle.std.specs.Prelude.{List, [], ◌∷◌, ◌≡◌, ℕ, ◌^◌, ◌<◌, Bool, true, false, ℤ, Result, Ok}
use Rattle.std.specs.Prelude.{Err, encode_utf8}
use Rattle.std.specs.Str.Parse.{IsNumeral, digits_value, without_leading_plus, without_leading_sign}
use Rattle.std.specs.Str.Parse.{signed_digits_value, true_text, false_text}
use Rattle.std.specs.{BTreeSet.insert_key, declared.cmp.Ordering.Ordering, Char.IsScalar}
use Rattle.bpaf_text.specs.declared.fault.TextFault.TheVariants.{Fault, Memory}
use Rattle.bpaf_text.specs.{declared.fault.TextFault.TextFault, declared.few.Kept.Kept}
use Rattle.bpaf_text.specs.{declared.few.Kept.TheVariants.One, declared.few.Kept.TheVariants.Many}
use mir.Syntax.{Width}
use mir.Val.{SFits as FitsSigned}

-- the keys of a set in which these values were inserted, the first one first
abbrev pub inserted : {T : Type 0} → (T → T → Ordering) → List T → List T → List T
inserted cmp keys [] = keys
inserted cmp keys (v ∷ vs) = inserted cmp (insert_key cmp keys v) vs

-- an optional plus and one or more digits, whose value fits this many bits
pub record SpellsUnsigned (bits : ℕ) (text : List ℕ) (value : ℕ) : Type 0 where
  pub numeral : IsNumeral 10 (without_leading_plus text)
  pub value_of : value ≡ digits_value 10 (without_leading_plus text)
  pub fits : value < 2 ^ bits

-- an optional plus or minus and one or more digits, whose value fits the width
pub record SpellsSigned (width : Width) (text : List ℕ) (value : ℤ) : Type 0 where
  pub numeral : IsNumeral 10 (without_leading_sign text)
  pub value_of : value ≡ signed_digits_value 10 text
  pub fits : FitsSigned width value

-- the word `true` or the word `false`
abbrev pub SpellsBool : List ℕ → Bool → Type 0
SpellsBool text true = text ≡ true_text
SpellsBool text false = text ≡ false_text

-- one character and nothing else
pub record SpellsChar (text : List ℕ) (character : ℕ) : Type 0 where
  pub scalar : IsScalar character
  pub alone : text ≡ encode_utf8 character

-- an answer for a text: a value that it means, or a fault only where it means none
abbrev pub ReadsText : {T : Type 0} → (List ℕ → T → Type 0) → List ℕ → Result T TextFault → Type 0
ReadsText means text (Ok value) = means text value
ReadsText {T = T} means text (Err (Fault message)) = (value : T) → ¬ (means text value)
ReadsText means text (Err Memory) = Unit {0}

-- the members of a list, whatever it is kept in
abbrev pub members_of : {T : Type 0} → Kept T → List T
members_of (One member) = member ∷ []
members_of (Many members) = members.items
