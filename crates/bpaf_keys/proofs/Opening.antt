-- How the word of a command is looked for, name by name.
use Rattle.std.proofs.Common.{arith, ◌≡◌, ℕ, suc, ◌<◌, Bool, true, false, ◌||◌, List, [], ◌∷◌, ◌++◌}
use Rattle.std.proofs.Common.{length, get_or, map, take, drop, encode_utf8, Option, Some, None}
use Rattle.std.proofs.Common.{is_some, refl, sym, ap, ◌∙◌, append_assoc}
use Rattle.std.proofs.{lemmas.List.Folds.list_any-append, lemmas.List.map-append, Math.Seq.split_at}
use Rattle.std.specs.Option.{option_map_or}
use Rattle.bpaf_base.specs.declared.arg.Arg.{Arg}
use Rattle.bpaf_line.specs.Situation.{Situation, item_at}
use Rattle.bpaf_laws.specs.Command.{TakesOpening, is_one_of}

-- an item is one of some words or of others where it is one of all of them
one_of_both : (a b : List (List ℕ)) (item : Option Arg)
    → option_map_or (is_one_of (a ++ b)) item false
    ≡ (option_map_or (is_one_of a) item false || option_map_or (is_one_of b) item false)
one_of_both a b x = grind (arith, list_any-append)

-- of two tests the second holds
second_holds : (x y : Bool) → y ≡ true → (x || y) ≡ true
second_holds b y e = grind arith

module _ (a b : List (List ℕ)) (s : Situation) where
  -- where none of some words is taken, and then one of others, or none, it is so of all of them
  takes_behind : (m : Situation) (r : Option ℕ) (t : Situation) → TakesOpening a s None m
      → TakesOpening b m r t → TakesOpening (a ++ b) s r t
  takes_behind m r t before takes = grind (arith, one_of_both, second_holds)

  -- a word that is taken is one of more words
  takes_among : (p : ℕ) (t : Situation) → TakesOpening a s (Some p) t
      → TakesOpening (a ++ b) s (Some p) t
  takes_among p t found = (
    record {
      first = found.0.first;
      named = one_of_both a b (item_at s p) ∙ rw found.0.named refl;
    },
    found.1,
  )

-- the word of a character is taken, and those before it aren't
pub short_takes : (shorts : List ℕ) (i c : ℕ) → i < length shorts → c ≡ get_or shorts i c
    → {word : List ℕ} → word ≡ encode_utf8 c → (s m : Situation) (r : Option ℕ) (t : Situation)
    → is_some r ≡ true → TakesOpening (map encode_utf8 (take i shorts)) s None m
    → TakesOpening (word ∷ []) m r t → TakesOpening (map encode_utf8 shorts) s r t
short_takes shorts i c within is spelled s m None t found none takes = cc
short_takes shorts i c within is spelled s m (Some p) t found none takes = rw parts
    (takes_among _ _ s p t (takes_behind _ _ s m (Some p) t none (rw spelled at takes)))
  where
    -- the words of characters fall into those before one, its own, and those behind it
    parts : map encode_utf8 shorts
        ≡ (map encode_utf8 (take i shorts) ++ encode_utf8 c ∷ []) ++ map encode_utf8
        (drop (suc i) shorts)
    parts =
        ap (map encode_utf8) (split_at shorts i c within)
        ∙ (map-append encode_utf8 (take i shorts) (get_or shorts i c ∷ drop (suc i) shorts)
        ∙ (ap (λ x. map encode_utf8 (take i shorts) ++ encode_utf8 x ∷ map encode_utf8
        (drop (suc i) shorts)) (sym is)
        ∙ sym (append_assoc (map encode_utf8 (take i shorts)) (encode_utf8 c ∷ [])
        (map encode_utf8 (drop (suc i) shorts)))))
