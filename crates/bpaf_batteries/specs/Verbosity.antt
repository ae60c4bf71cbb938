-- A level from two counted keys.
use Rattle.std.specs.Prelude.{◌≡◌, ◌&&◌, ℕ, ℤ, pos, false, ◌-ℤ◌, List, length, slice_get, codes}
use Rattle.bpaf_batteries.specs.Keys.{key_grammar, counted_key, is_flag_key, letter_q, letter_v}
use Rattle.std.specs.{Option.option_map_or, Prelude.Some}
use Rattle.bpaf_grammar.specs.Grammar.{Grammar, alone, both, count, product, repeat}
use Rattle.bpaf_batteries.specs.{declared.pair.KeyCounts.KeyCounts, Keys.IsLevelOf}
use Rattle.bpaf_text.specs.declared.params.ParseFlag.{ParseFlag}
use Rattle.bpaf_line.specs.Situation.{Situation, Context, item_in}
use Rattle.bpaf_base.specs.Count.{count_below}
use Rattle.bpaf_laws.specs.{Reading.Share, Laws.newly}

-- the key for more
abbrev pub more_of : KeyCounts → ParseFlag (Unit {0})
more_of keys = keys.fields.first.inner

-- the key for less
abbrev pub fewer_of : KeyCounts → ParseFlag (Unit {0})
fewer_of keys = keys.fields.rest.last.inner

-- the keys are `-v`, `--verbose` and `-q`, `--quiet`
abbrev pub AreVerboseAndQuiet : KeyCounts → Type 0
AreVerboseAndQuiet keys =
    (more_of keys ≡ counted_key letter_v (codes "verbose")
    (codes "Increase output verbosity, can be used several times"))
    × (fewer_of keys ≡ counted_key letter_q (codes "quiet")
    (codes "Decrease output verbosity, can be used several times"))

-- how many places of a share have a key of a flag
abbrev pub keys_in : {T : Type 0} → ParseFlag T → Context → Share → ℕ
keys_in flag context share = count_below
    (λ p. share p && option_map_or (is_flag_key flag) (item_in context p) false)
    (length context.line)

-- how many keys of a flag were newly taken
abbrev pub keys_taken : {T : Type 0} → ParseFlag T → Situation → Situation → ℕ
keys_taken flag s t = keys_in flag s.context (newly s t)

-- two counts are of the keys that were newly taken
abbrev pub KeysAreCounted : KeyCounts → Situation → Situation → ℕ × ℕ → Type 0
KeysAreCounted keys s t counts =
    (counts.0 ≡ keys_taken (more_of keys) s t) × (counts.1 ≡ keys_taken (fewer_of keys) s t)

-- a counted key
abbrev pub count_grammar : {T : Type 0} → (T → T → Type 0) → ParseFlag T → Grammar ℕ
count_grammar clones key = repeat count (key_grammar clones key)

-- both counts
abbrev pub counts_grammar : (Unit {0} → Unit {0} → Type 0) → KeyCounts → Grammar (ℕ × ℕ)
counts_grammar clones keys = product (λ counts v. v ≡ counts)
    (both (count_grammar clones (more_of keys)) (alone (count_grammar clones (fewer_of keys))))

-- a number is the level of the keys that were newly taken
abbrev pub VerbosityCounts : KeyCounts → (offset min max : ℤ) → Situation → Situation → ℤ → Type 0
VerbosityCounts keys offset min max s t v =
    IsLevelOf offset min max (keys_taken (more_of keys) s t, keys_taken (fewer_of keys) s t) v

-- a clone of the item at the level of two counts, from the first to the last
abbrev pub PicksItem : {T : Type 0} → (T → T → Type 0) → ℕ → List T → ℕ × ℕ → T → Type 0
PicksItem {T} clones offset items counts v = (place : ℕ) × (item : T)
    × IsLevelOf (pos offset) (pos 0) (pos (length items) -ℤ pos 1) counts (pos place)
    × (slice_get items place ≡ Some item) × clones item v

-- the item at the level of the keys that were newly taken
abbrev pub VerbosityPicks : {T : Type 0} → KeyCounts → (T → T → Type 0) → ℕ → List T → Situation
    → Situation → T → Type 0
VerbosityPicks keys clones offset items s t v =
    PicksItem clones offset items (keys_taken (more_of keys) s t, keys_taken (fewer_of keys) s t) v
