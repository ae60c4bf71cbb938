-- Bits in words of 64: what a write changes, how many are clear, and what is found.
use Rattle.std.proofs.Common.{◌≡◌, ◌≢◌, ℕ, zero, suc, ◌+◌, ◌<◌, ◌≤◌, Bool, true, false, refl, ap}
use Rattle.std.proofs.Common.{◌∙◌, arith, if◌then◌else◌, ⊎_elim, ◌==◌, ◌||◌, List, [], ◌∷◌, ◌++◌}
use Rattle.std.proofs.Common.{sym, ◌-◌, ◌/◌, ◌%◌, ◌^◌, not, min, count_ones, bit_and, pow_pos, ◌*◌}
use Rattle.std.proofs.Common.{length, slice_index, slice_set, get_or-set_same, get_or-set_other}
use Rattle.std.proofs.Common.{nat_le, replicate, ◌&&◌, Option, Some}
use Rattle.std.proofs.lemmas.Bool.{cases_lt, cases_eq, eq-eqb, and_left, le-leb, lt-leb}
use Rattle.std.proofs.lemmas.Nat.{ones-le, ones_cat, shr-shr, mod_below, and_mask, shr_le}
use Rattle.std.proofs.lemmas.Nat.Bits.{bit_at-zero, bit_at_not, bit_at-trailing_zeros, bit_at_above}
use Rattle.std.proofs.lemmas.Nat.Bits.{ones_shr, bit_at-lt, bit_at_ones}
use Rattle.std.proofs.lemmas.List.{get_or-replicate, get_or_past, length-replicate}
use Rattle.bpaf_index.specs.Bits.{is_on, clear_within, IsFirstWith, is_bit, has_bit}
use Rattle.bpaf_base.specs.Count.{count_below}
use Rattle.bpaf_base.proofs.Count.{count_below-same, count_below-none, count_below-all}
use Rattle.bpaf_base.proofs.Count.{count_below-split, count_below-most}
use Rattle.bpaf_index.specs.Bits.{is_clear_from, count_clear, ChangesBit, lesser_of, is_on_as}
use Rattle.std.specs.Int.{bit_at, bit_not, trailing_zeros, w64}
use Rattle.std.proofs.{lemmas.Bool.Decides.nat_tests, lemmas.List.Folds.list_any-append}
use Rattle.std.proofs.{lemmas.List.Folds.list_any_at, Math.Bool.beq}
use Rattle.bpaf_index.specs.Bits.{ChangesBits, IsLeastIn}
use lib.Pow.{mod-pow-add}
use lib.Count.{ones_step, trailing_of_zero}

-- a place is on a longer list where it was on the old one, or is the last
pub is_on_push : (places : List ℕ) (p q : ℕ)
    → is_on (places ++ p ∷ []) q ≡ (is_on places q || (p == q))
is_on_push places p q = grind (arith, list_any-append {X = ℕ})

-- the other places are on it where they were
pub on_others : (places : List ℕ) (p q : ℕ) → q ≢ p → is_on (places ++ p ∷ []) q ≡ is_on places q
on_others places p q other = grind (arith, nat_tests, is_on_push places p q)

-- The clear bits of one word of 64: a stretch of them, and how many there are.

-- a bit that is the only one is counted
ones_bit : (b : ℕ) → b < 2 → count_ones b ≡ (if b == 1 then 1 else 0)
ones_bit zero below = omega (arith, ones-le 0 0 (omega arith))
ones_bit (suc zero) below = omega (arith, ones_step 1, ones-le 0 0 (omega arith))
ones_bit (suc (suc b)) below = absurd (omega arith)

-- the ones among the lowest bits are as many as these bits that are set
ones_low : (k n : ℕ) → count_ones (n % 2 ^ k) ≡ count_below (is_bit n) k
ones_low zero n = omega (arith, ones-le 0 (n % 2 ^ 0) (omega arith))
ones_low (suc k) n =
    let above : suc k ≡ 1 + k = omega arith in
    let low = ones_low k n in
    let top = ones_bit (bit_at n k) (bit_at-lt n k) in
    ap (λ j. count_ones (n % 2 ^ j)) above
    ∙ (ap count_ones (mod-pow-add n 1 k)
    ∙ (ones_cat k (bit_at n k) (n % 2 ^ k) (mod_below n (2 ^ k) (pow_pos k)) ∙ grind arith))

-- a bit that isn't set is set in the complement
complement : (word i : ℕ) → word < 2 ^ 64 → i < 64
    → is_bit (bit_not w64 word) i ≡ not (is_bit word i)
complement word i fits within = grind (
  arith,
  nat_tests,
  bit_at_not w64 word i fits within,
  bit_at-lt word i,
)

-- a bit of a word that was shifted is one further up
pub bit_shifted : (word low i : ℕ) → bit_at (word / 2 ^ low) i ≡ bit_at word (low + i)
bit_shifted word low i = ap (λ x. x % 2) (shr-shr word low i)

-- the ones of what the mask leaves of the complement are the clear bits
pub clear_counted : (word low wide : ℕ) → word < 2 ^ 64 → low + wide ≤ 64 → 0 < wide
    → count_ones (bit_and (bit_not w64 (word / 2 ^ low)) ((2 ^ 64 - 1) / 2 ^ (64 - wide)))
    ≡ clear_within word low wide
clear_counted word low wide fits inside some =
    let kept : 64 - (64 - wide) ≡ wide = omega arith in
    let mask : (2 ^ 64 - 1) / 2 ^ (64 - wide) ≡ 2 ^ wide - 1 = ones_shr 64 (64 - wide) (omega arith)
    ∙ ap (λ j. 2 ^ j - 1) kept in
    let rest = word / 2 ^ low in
    let small : rest < 2 ^ 64 = omega (arith, shr_le word low) in
    ap (λ m. count_ones (bit_and (bit_not w64 rest) m)) mask
    ∙ (ap count_ones (and_mask (bit_not w64 rest) wide)
    ∙ (ones_low wide (bit_not w64 rest)
    ∙ count_below-same _ _ wide (λ i within. complement rest i small (omega arith)
    ∙ ap (λ b. not (b == 1)) (bit_shifted word low i))))

-- of a word without bits all are clear
pub clear_all : (word low wide : ℕ) → word ≡ 0 → wide ≡ clear_within word low wide
clear_all word low wide none = grind (arith, count_below-all, bit_at-zero)

-- of a word whose bits are all set none is clear
pub clear_none : (word low wide : ℕ) → word ≡ 18446744073709551615 → low + wide ≤ 64
    → 0 ≡ clear_within word low wide
clear_none word low wide full inside = sym (count_below-none _ wide (λ i within.
    ap (λ w. not (bit_at w (low + i) == 1)) full
    ∙ ap (λ b. not (b == 1)) (bit_at_ones 64 (low + i) (omega arith))))

-- the zeros at the lower end of what is left of a word end at the first bit that is set
pub zeros_first : (word low n : ℕ) → word < 2 ^ 64 → low < 64
    → n ≡ min (trailing_zeros w64 (word / 2 ^ low)) (64 - low)
    → IsFirstWith (is_bit word) true low 64 (low + n)
zeros_first word low n fits inside is = ⊎_elim
    (λ (none : word / 2 ^ low ≡ 0).
    let all : trailing_zeros w64 (word / 2 ^ low) ≡ 64 = ap (trailing_zeros w64) none
    ∙ trailing_of_zero 64 in
    record {
      from = omega arith;
      within = omega arith;
      present = λ below. absurd (omega arith);
      passed = λ i above below. ap (λ b. b == 1) (in_rest i above
          ∙ (ap (λ x. bit_at x (i - low)) none ∙ bit_at-zero (i - low)));
    })
    (λ (some : word / 2 ^ low ≢ 0).
    let h = bit_at-trailing_zeros w64 (word / 2 ^ low) (omega arith)
    (omega (arith, shr_le word low)) in
    let zeros = trailing_zeros w64 (word / 2 ^ low) in
    let there : bit_at word (low + zeros) ≡ 1 = sym (bit_shifted word low zeros) ∙ h.1 in
    let below : low + zeros < 64 = ⊎_elim (λ (within : low + zeros < 64). within)
    (λ (past : 64 ≤ low + zeros). absurd
    (omega (arith, there, bit_at_above word 64 (low + zeros) fits past)))
    (cases_lt (low + zeros) 64) in
    let same : n ≡ zeros = omega arith in
    record {
      from = omega arith;
      within = omega arith;
      present = λ _. ap (λ k. is_bit word (low + k)) same ∙ ap (λ b. b == 1) there;
      passed = λ i above under.
          ap (λ b. b == 1) (in_rest i above ∙ h.2 (i - low) (omega arith));
    })
    (cases_eq (word / 2 ^ low) 0)
  where
    in_rest : (i : ℕ) → low ≤ i → bit_at word i ≡ bit_at (word / 2 ^ low) (i - low)
    in_rest i above = let at : low + (i - low) ≡ i = omega arith in
        ap (bit_at word) (sym at) ∙ sym (bit_shifted word low (i - low))

-- the first bit that is set in the complement of a word is the first that is clear in it
pub first_flipped : (word low p : ℕ) → word < 2 ^ 64
    → IsFirstWith (is_bit (bit_not w64 word)) true low 64 p
    → IsFirstWith (is_bit word) false low 64 p
first_flipped word low p fits first = grind (arith, complement)

-- Bits in words of 64: what a write of one word changes.

-- the bit of the place whose word was written
pub has_bit_written : (words : List ℕ) (p w : ℕ) → p < 64 * length words
    → has_bit (slice_set words (p / 64) w) p ≡ is_bit w (p % 64)
has_bit_written words p w within = grind (arith, get_or-set_same)

-- the other bits, where the written word differs from the old one in that one bit at most
pub has_bit_others : (words : List ℕ) (p w : ℕ) → p < 64 * length words
    → ((i : ℕ) → i < 64 → i ≢ p % 64 → bit_at w i ≡ bit_at (slice_index words (p / 64)) i)
    → (q : ℕ) → q ≢ p → has_bit (slice_set words (p / 64) w) q ≡ has_bit words q
has_bit_others words p w within same q other = grind (arith, get_or-set_same, get_or-set_other)

-- below the place from which they are counted none are
pub count_clear-none : (words : List ℕ) (low : ℕ) → count_clear words low low ≡ 0
count_clear-none words low = count_below-none (is_clear_from words low) low
    (λ q below. and_left (nat_le low q) _ (lt-leb low q below))

-- those of a part of one word are the clear bits of that part
pub count_clear-word : (words : List ℕ) (low place wide : ℕ) → low ≤ place → place % 64 + wide ≤ 64
    → count_clear words low (place + wide) ≡ count_clear words low place
    + clear_within (slice_index words (place / 64)) (place % 64) wide
count_clear-word words low place wide above inside =
    grind (arith, count_below-split, count_below-same, le-leb)

-- there are no more of them than places below
pub count_clear-most : (words : List ℕ) (low p : ℕ) → count_clear words low p ≤ p
count_clear-most words low p = count_below-most (is_clear_from words low) p

-- no bit of words that are 0 is set
pub has_bit_zero : (n p : ℕ) → has_bit (replicate n 0) p ≡ false
has_bit_zero n p = ap (λ x. is_bit x (p % 64)) (zero_at (p / 64))
    ∙ ap (λ b. b == 1) (bit_at-zero (p % 64))
  where
    zero_at : (i : ℕ) → slice_index (replicate n 0) i ≡ 0
    zero_at i = ⊎_elim (λ (within : i < n). get_or-replicate n i 0 0 within)
        (λ (past : n ≤ i). get_or_past (replicate n 0) i 0
        (omega (arith, length-replicate {A = ℕ} n 0))) (cases_lt i n)

-- in words that were 0 before one bit was set, that bit alone is set
pub has_bit_one : (n m : ℕ) (words : List ℕ) → ChangesBit (replicate n 0) words m true → (p : ℕ)
    → has_bit words p ≡ (p == m)
has_bit_one n m words change p =
    grind (arith, nat_tests, change.here, change.others p, has_bit_zero n p)

-- The bits of several places at once, and the least place of some.

-- the place at a number of a list is on it
pub on_at : (places : List ℕ) (i : ℕ) → i < length places
    → is_on places (slice_index places i) ≡ true
on_at places i within = list_any_at (λ q. q == slice_index places i) places i 0 within
    (eq-eqb (slice_index places i) (slice_index places i) refl)

-- the bit of one place more is changed
pub changes_more : (old words new places : List ℕ) (p : ℕ) (bit : Bool)
    → ChangesBits old words places bit → ChangesBit words new p bit
    → ChangesBits old new (places ++ p ∷ []) bit
changes_more old words new places p bit h change = grind (arith, nat_tests, is_on_push)

-- a place without the bit changes nothing
pub least_skip : (words places : List ℕ) (p : ℕ) (bit : Bool) (found : Option ℕ)
    → IsLeastIn (is_on_as words places bit) found → not (beq (has_bit words p) bit) ≡ true
    → IsLeastIn (is_on_as words (places ++ p ∷ []) bit) found
least_skip words places p bit found = grind (arith, nat_tests, is_on_push)

-- a place with it is the least, or the one that was
pub least_take : (words places : List ℕ) (p : ℕ) (bit : Bool) (found : Option ℕ)
    → IsLeastIn (is_on_as words places bit) found → not (beq (has_bit words p) bit) ≡ false
    → IsLeastIn (is_on_as words (places ++ p ∷ []) bit) (Some (lesser_of found p))
least_take words places p bit found = take_it (has_bit words)
  where
    take_it : (has : ℕ → Bool)
        → IsLeastIn (λ q. is_on places q && (if bit then has q else not (has q))) found
        → not (beq (has p) bit) ≡ false
        → IsLeastIn (λ q. is_on (places ++ p ∷ []) q && (if bit then has q else not (has q)))
        (Some (lesser_of found p))
    take_it has h on = grind (arith, nat_tests, is_on_push)

-- how many places are clear, word by word
pub ruleset clear_counts = (count_clear-none, count_clear-word, count_clear-most)

-- how many bits of a part of a word are clear
pub ruleset clear_parts = (clear_all, clear_none, clear_counted)
