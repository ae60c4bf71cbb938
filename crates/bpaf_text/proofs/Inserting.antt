-- Values that are inserted into a set one after another.
use Rattle.std.proofs.Common.{◌≡◌, List, [], ◌∷◌, ◌++◌, refl}
use Rattle.std.specs.{BTreeSet.insert_key, declared.cmp.Ordering.Ordering}
use Rattle.bpaf_text.specs.Meaning.{inserted}

-- one value more at the end is inserted last
pub inserted_more : {T : Type 0} (cmp : T → T → Ordering) (keys vs : List T) (v : T)
    → inserted cmp keys (vs ++ v ∷ []) ≡ insert_key cmp (inserted cmp keys vs) v
inserted_more cmp keys [] v = refl
inserted_more cmp keys (x ∷ vs) v = inserted_more cmp (insert_key cmp keys x) vs v
