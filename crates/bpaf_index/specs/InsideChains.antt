-- What `Chains` are kept as.
use Rattle.std.specs.Prelude.{ℕ, ◌≡◌, ◌+◌, ◌<◌, List, length, slice_index}
use Rattle.bpaf_index.specs.declared.chains.Chains.TheInside.{Inside}
use Rattle.bpaf_index.specs.Chained.{Chained, IsNextOf, IsPlaceOf}

-- the classes, the beginnings and the names
abbrev pub chained_of : Inside → Chained
chained_of s = record {
  classes = s.links.value.classes.items;
  heads = s.heads.items;
  names = s.links.value.names;
}

-- each place has a next one, each class a beginning, and each chain begins at a place of its class
pub record IsLinked (classes next heads : List ℕ) : Type 0 where
  pub whole : length next ≡ length classes
  pub linked : (p : ℕ) → p < length classes
      → IsNextOf classes (slice_index classes p) (p + 1) (slice_index next p)
  pub numbered : (p : ℕ) → p < length classes → slice_index classes p < length heads
  pub headed : (k : ℕ) → k < length heads → IsPlaceOf classes k (slice_index heads k)
