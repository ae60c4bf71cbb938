-- A toggle, the last value of two keys that may each stand any number of times.
use Rattle.std.specs.Prelude.{◌≡◌, ◌⊎◌, ℕ, Bool, true, Option, Some, None}
use Rattle.bpaf_grammar.specs.Grammar.{Grammar, choice, closed, many, mapped, repeat}
use Rattle.bpaf_batteries.specs.Keys.{key_grammar, is_flag_key, is_either, AreKeysApart, KeyOutcome}
use Rattle.bpaf_text.specs.declared.params.ParseFlag.{ParseFlag}
use Rattle.bpaf_line.specs.{Taking.HasNone, Taking.is_match, Situation.Situation}
use Rattle.bpaf_laws.specs.{Choice.ChoiceOutcome, Combinators.EndsIn, Reading.Outcome}
use Rattle.bpaf_laws.specs.Leaves.{IsLast}

-- a value of the key at a place: a clone of that of its flag
abbrev pub GivesValue : {T : Type 0} → (T → T → Type 0) → ParseFlag T → ParseFlag T → Situation → ℕ
    → T → Type 0
GivesValue clones one other s p v = ((is_match (is_flag_key one) s p ≡ true) × clones one.present v)
    ⊎ ((is_match (is_flag_key other) s p ≡ true) × clones other.present v)

-- a value of the rightmost key of either flag that is present in scope; none where there is no key
abbrev pub RightmostGives : {T : Type 0} → (T → T → Type 0) → ParseFlag T → ParseFlag T → Situation
    → Option T → Type 0
RightmostGives clones one other s (Some v) =
    (p : ℕ) × IsLast (is_either one other) s p × GivesValue clones one other s p v
RightmostGives clones one other s None = HasNone (is_either one other) s

-- the rightmost key of either wins, for keys that must stand on the line, whose names are apart
abbrev pub LastToggleWins : {T : Type 0} → (T → T → Type 0) → ParseFlag T → ParseFlag T → Situation
    → Option T → Type 0
LastToggleWins clones one other s v = AreKeysApart one other → RightmostGives clones one other s v

-- what a choice of two keys answers
abbrev pub EitherOutcome : {T : Type 0} → (T → T → Type 0) → ParseFlag T → ParseFlag T → Outcome T
EitherOutcome clones one other = ChoiceOutcome (KeyOutcome clones one) (KeyOutcome clones other)

-- a toggle: the last value of a repeat of the choice
abbrev pub toggle_grammar : {T : Type 0} → (T → T → Type 0) → ParseFlag T → ParseFlag T → Bool
    → Grammar (Option T)
toggle_grammar clones one other catches = closed (mapped (λ values v. EndsIn values.items v))
    (repeat (many catches) (choice (key_grammar clones one) (key_grammar clones other)))
