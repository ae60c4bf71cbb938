-- The names of a key, as contracts see them.
use Rattle.std.specs.Prelude.{ℕ, List}

-- the short names as characters, and the long ones as texts
pub record Names : Type 0 where
  pub shorts : List ℕ
  pub longs : List (List ℕ)
