-- How many numbers of a set lie below one, and what changes that.
use Rattle.std.proofs.Common.{◌≡◌, ◌≢◌, ℕ, zero, suc, ◌+◌, ◌<◌, ◌≤◌, Bool, true, false, refl, arith}
use Rattle.std.proofs.{Common.⊎_elim, lemmas.Bool.cases_lt}
use Rattle.bpaf_base.specs.Count.{count_below}

-- two sets that agree below n have as many numbers there
pub count_below-same : (f g : ℕ → Bool) (n : ℕ) → ((q : ℕ) → q < n → f q ≡ g q)
    → count_below f n ≡ count_below g n
count_below-same f g zero agree = refl
count_below-same f g (suc n) agree =
    let below = count_below-same f g n (λ q l. agree q (omega arith)) in
    rw (agree n (omega arith), below) refl

-- a set that lacks one number of another has one fewer
pub count_below-fewer : (f g : ℕ → Bool) (n p : ℕ) → p < n → f p ≡ true → g p ≡ false
    → ((q : ℕ) → q ≢ p → f q ≡ g q) → count_below g n + 1 ≡ count_below f n
count_below-fewer f g zero p within has lacks agree = absurd (omega arith)
count_below-fewer f g (suc n) p within has lacks agree =
    let fewer = λ (below : p < n). count_below-fewer f g n p below has lacks agree in
    let same = λ (past : n ≤ p).
    count_below-same f g n (λ q k. agree q (λ z. absurd (omega arith))) in
    let here = agree n in
    grind arith

-- a set without numbers below n has none of them
pub count_below-none : (f : ℕ → Bool) (n : ℕ) → ((q : ℕ) → q < n → f q ≡ false)
    → count_below f n ≡ 0
count_below-none f zero lacks = refl
count_below-none f (suc n) lacks =
    let below = count_below-none f n (λ q l. lacks q (omega arith)) in
    rw (lacks n (omega arith)) below

-- a set without numbers from n on has no more of them
pub count_below-cut : (f : ℕ → Bool) (n m : ℕ) → n ≤ m → ((q : ℕ) → n ≤ q → q < m → f q ≡ false)
    → count_below f m ≡ count_below f n
count_below-cut f n zero within lacks = let at : n ≡ 0 = omega arith in rw at refl
count_below-cut f n (suc m) within lacks =
    ⊎_elim (λ (below : m < n). let at : n ≡ suc m = omega arith in rw at refl)
    (λ (above : n ≤ m). rw (lacks m above (omega arith))
    (count_below-cut f n m above (λ q l h. lacks q l (omega arith)))) (cases_lt m n)

-- a set with a number below n has at least one
pub count_below-some : (f : ℕ → Bool) (n p : ℕ) → p < n → f p ≡ true → 1 ≤ count_below f n
count_below-some f zero p within has = absurd (omega arith)
count_below-some f (suc n) p within has =
    let before = λ (below : p < n). count_below-some f n p below has in grind arith

-- no set has more than n numbers below n
pub count_below-most : (f : ℕ → Bool) (n : ℕ) → count_below f n ≤ n
count_below-most f zero = omega arith
count_below-most f (suc n) = let before = count_below-most f n in grind arith

-- a set with all numbers below n has n of them
pub count_below-all : (f : ℕ → Bool) (n : ℕ) → ((q : ℕ) → q < n → f q ≡ true) → count_below f n ≡ n
count_below-all f zero all = refl
count_below-all f (suc n) all =
    let below = count_below-all f n (λ q l. all q (omega arith)) in
    rw (all n (omega arith), below) (omega arith)

-- the numbers of a set below a sum are those below the first, and those of the rest
pub count_below-split : (f : ℕ → Bool) (n k : ℕ)
    → count_below f (n + k) ≡ count_below f n + count_below (λ i. f (n + i)) k
count_below-split f n zero = let same : n + 0 ≡ n = omega arith in rw same (omega arith)
count_below-split f n (suc k) =
    let later : n + suc k ≡ suc (n + k) = omega arith in
    let before = count_below-split f n k in rw later (grind arith)
