-- Required flags as the batteries have them, of which only keys on the line count; and a level
-- within bounds.
use Rattle.std.specs.Prelude.{◌∷◌, ◌≡◌, ℕ, List, [], Bool, false, ◌&&◌, ◌||◌, None, ℤ, pos, ◌+ℤ◌}
use Rattle.std.specs.{Int.int_max, Int.int_min, Prelude.◌-ℤ◌}
use Rattle.bpaf_doc.specs.Print.{text_pieces}
use Rattle.bpaf_text.specs.{declared.params.ParseFlag.ParseFlag, Named.key_named, Named.with_help}
use Rattle.bpaf_base.specs.{declared.arg.Arg.Arg, Items.is_key_of}
use Rattle.bpaf_laws.specs.Reading.{Outcome, Readings}
use Rattle.bpaf_grammar.specs.Grammar.{Grammar, flag, outcome_of, reads_of}

-- an item is a key of a flag
abbrev pub is_flag_key : {T : Type 0} → ParseFlag T → Arg → Bool
is_flag_key key item = is_key_of key.named.names item

-- an item is a key of one of two flags
abbrev pub is_either : {T : Type 0} → ParseFlag T → ParseFlag T → Arg → Bool
is_either one other item = is_flag_key one item || is_flag_key other item

-- a key of a flag must stand on the line: no absent value, and no names in the environment
pub record MustStand {T : Type 0} (key : ParseFlag T) : Type 0 where
  pub required : key.absent ≡ None
  pub on_the_line : key.named.envs ≡ []

-- two such flags, and no item is a key of both
pub record AreKeysApart {T : Type 0} (one other : ParseFlag T) : Type 0 where
  pub one_stands : MustStand one
  pub other_stands : MustStand other
  pub apart : (item : Arg) → (is_flag_key one item && is_flag_key other item) ≡ false

-- a key
abbrev pub key_grammar : {T : Type 0} → (T → T → Type 0) → ParseFlag T → Grammar T
key_grammar clones key = flag clones key.named key.present key.absent

-- what it answers
abbrev pub KeyOutcome : {T : Type 0} → (T → T → Type 0) → ParseFlag T → Outcome T
KeyOutcome clones key = outcome_of (key_grammar clones key)

-- what it reads
abbrev pub KeyReads : {T : Type 0} → (T → T → Type 0) → ParseFlag T → Readings T
KeyReads clones key = reads_of (key_grammar clones key)

-- a flag that must stand on the line, of one short and one long name, with this help
abbrev pub counted_key : ℕ → List ℕ → List ℕ → ParseFlag (Unit {0})
counted_key name long help = record {
  present = tt;
  absent = None;
  named =
      with_help (key_named (record { shorts = name ∷ []; longs = long ∷ [] })) (text_pieces help);
}

-- the letter `v`
abbrev pub letter_v : ℕ
letter_v = 118

-- the letter `q`
abbrev pub letter_q : ℕ
letter_q = 113

-- the level of two counts: an offset plus the first minus the second, or the bound that it passes
abbrev pub IsLevelOf : (offset min max : ℤ) → ℕ × ℕ → ℤ → Type 0
IsLevelOf offset min max counts v =
    v ≡ int_max min (int_min ((offset +ℤ pos counts.0) -ℤ pos counts.1) max)
