-- What a flag whose key must stand on the line answers, and what it reads.
use Rattle.std.proofs.Common.{◌≡◌, ℕ, ◌&&◌, Bool, true, false, Result, Ok, Err, Option, subst}
use Rattle.std.proofs.Common.{arith}
use Rattle.std.specs.Option.{option_map_or, IsSomeRelated}
use Rattle.bpaf_text.specs.declared.params.ParseFlag.{ParseFlag}
use Rattle.bpaf_base.specs.declared.arg.Arg.{Arg}
use Rattle.bpaf_line.specs.Situation.{Situation, take_place}
use Rattle.bpaf_line.specs.{Messages.is_memory, Taking.IsFirst, Taking.HasNone}
use Rattle.bpaf_line.specs.{declared.error.Error.Error, declared.error.Message.Message}
use Rattle.bpaf_laws.specs.Leaves.{FlagOutcome, FlagFails, IsFlagPresent}
use Rattle.bpaf_laws.specs.{Reading.is_set, Laws.IsNotMemory}
use Rattle.bpaf_batteries.specs.Keys.{is_flag_key, MustStand}

-- of two tests that no item passes both, an item passes not both
pub not_both : (one other : Arg → Bool) (at : Option Arg)
    → ((item : Arg) → (one item && other item) ≡ false) → option_map_or one at false ≡ true
    → option_map_or other at false ≡ true → ⊥
not_both one other at apart e f = grind (arith, apart)

-- what such a flag answers but want of memory: a value, its first key taken; or no key, as before
abbrev pub KeyEval : {T : Type 0} → (T → T → Type 0) → ParseFlag T → Situation → Result T Error
    → Situation → Type 0
KeyEval clones flag s (Ok v) t =
    (p : ℕ) × IsFirst (is_flag_key flag) s p × (t ≡ take_place s p) × clones flag.present v
KeyEval clones flag s (Err e) t = HasNone (is_flag_key flag) s × (t ≡ s)

module _ {T : Type 0} (clones : T → T → Type 0) (flag : ParseFlag T) (stands : MustStand flag)
    (s t : Situation) where
  -- no variable of the environment counts
  not_set : is_set s.context.env flag.named.envs ≡ true → ⊥
  not_set set = grind arith

  -- there is no absent value
  not_absent : (v : T) → IsSomeRelated clones flag.absent v → ⊥
  not_absent v value = subst (λ absent. IsSomeRelated clones absent v) stands.required value

  -- a flag that is present took its first key
  key_taken : (v : T) → IsFlagPresent flag.named s t → clones flag.present v
      → KeyEval clones flag s (Ok v) t
  key_taken v present value = grind (arith, not_set)

  -- a refusal that isn't want of memory comes where there is no key
  key_missed : (m : Message) → FlagFails flag.named flag.absent s m t → is_memory m ≡ false
      → HasNone (is_flag_key flag) s × (t ≡ s)
  key_missed m fails spared = grind arith

  -- a flag answers its key, or refuses where there is none
  pub key_ran : (r : Result T Error) → FlagOutcome clones flag.named flag.present flag.absent s r t
      → IsNotMemory r → KeyEval clones flag s r t
  key_ran r o spared = grind (arith, key_taken, key_missed, not_absent)
