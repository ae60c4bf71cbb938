-- How many numbers of a set lie below one.
use Rattle.std.specs.Prelude.{ℕ, zero, suc, ◌+◌, Bool, if◌then◌else◌}

-- how many numbers below n are in a set
abbrev pub count_below : (ℕ → Bool) → ℕ → ℕ
count_below set zero = 0
count_below set (suc n) = if set n then (count_below set n + 1) else count_below set n
