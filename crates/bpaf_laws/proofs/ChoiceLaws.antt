-- Choices keep to the laws where their branches do, catch no want of memory; the leftmost wins.
use Rattle.std.proofs.Common.{true≢false, Result, Option, false, arith, Bool, true, Some, None, ◌≡◌}
use Rattle.bpaf_laws.proofs.Keeping.{AnswersLawfully, reads_conflicts, LawfulAnswer, same_took_none}
use Rattle.bpaf_laws.proofs.Keeping.{lawful_answer, names_want, keeps_refl, keeps_same, lawful_by}
use Rattle.bpaf_laws.specs.Choice.{TookAndIsChosen, AnsweredBranch, ChoiceOutcome, ValueOfWinner}
use Rattle.bpaf_laws.specs.Choice.{BranchesEval, depth, LeftmostWins, EqualDepths, branch_of}
use Rattle.bpaf_laws.specs.Choice.{ChoiceReads, IsChosen, is_memory_answer, Winner, Chosen}
use Rattle.std.proofs.Common.{refl, ◌&&◌, IsOk, Err, sym, inl, inr, not, ◌∙◌, ◌⊎◌, Ok, ap, ℕ}
use Rattle.std.proofs.{lemmas.Bool.and_parts, lemmas.Bool.cases_cond, lemmas.Bool.Decides.nat_tests}
use Rattle.bpaf_line.specs.Taking.{ConflictsSaved, TakeTheSame, IsLeftmost, IsWinner}
use Rattle.bpaf_line.specs.{declared.error.Error.Error, Situation.Situation, Messages.Combines}
use Rattle.bpaf_laws.proofs.Keeping.{reads_as, names_same}
use Rattle.bpaf_laws.specs.Laws.{WithoutMemory, IsNotMemory, Lawful, Spares}
use Rattle.bpaf_laws.specs.{Choice.IsMemoryAnswer, Choice.Stands, Reading.Readings, Reading.Outcome}
use Rattle.bpaf_laws.specs.Combinators.{is_untouched}

-- an error is no value
pub ok_is_not_err : {T : Type 0} (v : T) (e : Error) → ◌≡◌ {A = Result T Error} (Ok v) (Err e) → ⊥
ok_is_not_err v e same = cc

-- the branch that won has a value
pub not_winner : {T : Type 0} (first second : AnsweredBranch T) (winner : Bool × Option ℕ)
    (e : Error) (t : Situation) → Winner first second winner (Err e) t → ⊥
not_winner first second x e t won = grind (arith, ok_is_not_err)

module _ {T : Type 0} (s : Situation) (Holds : Result T Error → Situation → Type 0)
    (noted : (v : T) (m loser : Situation) (place : ℕ) (t : Situation)
    → ConflictsSaved m loser place t → Holds (Ok v) m → Holds (Ok v) t)
    (back : (e : Error) (m : Situation) → Holds (Err e) m → Holds (Err e) s)
    (both : (e f g : Error) (m n : Situation) → Combines e.0 f.0 g.0 → Holds (Err e) m
    → Holds (Err f) n → Holds (Err g) s) where
  -- what holds of two values, also under conflict notes, holds of the winner's
  of_winner : (x y : T) (sa sb : Situation) (winner : Bool × Option ℕ) (r : Result T Error)
      (t : Situation) → Winner (branch_of x sa) (branch_of y sb) winner r t → Holds (Ok x) sa
      → Holds (Ok y) sb → Holds r t
  of_winner x y sa sb (wins, None) r t won one other = rw (won.0, won.1) one
  of_winner x y sa sb (true, Some place) r t won one other =
      rw won.0 (noted x sa sb place t won.1 one)
  of_winner x y sa sb (false, Some place) r t won one other =
      rw won.0 (noted y sb sa place t won.1 other)

  -- what holds of two values, also under conflict notes, holds of the chosen one, at any depths
  pub of_chosen : (a : Result T Error) (sa : Situation) (b : Result T Error) (sb : Situation)
      (r : Result T Error) (t : Situation) → Chosen s a sa b sb r t → Holds a sa → Holds b sb
      → Holds r t
  of_chosen a sa b sb r t x one other = grind (arith, of_winner)

-- where both paths are equally deep the table is that of equal depths
pub chosen_at_equal : {T : Type 0} (s : Situation) (a : Result T Error) (sa : Situation)
    (b : Result T Error) (sb : Situation) (r : Result T Error) (t : Situation)
    → depth sa ≡ depth sb → Chosen s a sa b sb r t → EqualDepths s a sa b sb r t
chosen_at_equal s a sa b sb r t same x = grind arith

module _ {T : Type 0} {first second : Outcome T} {rf rs : Readings T} (lf : Lawful T first rf)
    (ls : Lawful T second rs) where
  -- the answer of branches that were evaluated keeps to the laws
  evaluated : AnswersLawfully (BranchesEval first second) (ChoiceReads rf rs)
  evaluated s r t o = of_chosen s (LawfulAnswer T (ChoiceReads rf rs) s)
      (λ v m loser place t saved read. reads_conflicts (ChoiceReads rf rs) s m loser place v t saved
      read) (λ e m refused. (keeps_refl s, refused.1))
      (λ e f g m n combined one other.
      (keeps_refl s, grind (arith, names_same, cases_cond, one.1, other.1))) o.a o.sa o.b o.sb r t
      o.chosen (grind (arith, lawful_answer, reads_as)) (grind (arith, lawful_answer, reads_as))

  -- choices keep to the laws
  pub choice_lawful : Lawful T (ChoiceOutcome first second) (ChoiceReads rf rs)
  choice_lawful = lawful_by answers
    where
      answers : AnswersLawfully (ChoiceOutcome first second) (ChoiceReads rf rs)
      answers s (Ok v) t o = evaluated s (Ok v) t o
      answers s (Err e) t (inl o) = evaluated s (Err e) t o
      answers s (Err e) t (inr want) = (keeps_same s t want.1, names_want _ e.0 want.0)

-- A choice of two: what its evaluation shows, and that it catches no want of memory.

-- where both branches ran and wanted no memory, the choice gives the chosen answer, or wants some
pub ran_outcome : {T : Type 0} (first second : Outcome T) (s : Situation) (a : Result T Error)
    (sa : Situation) (b : Result T Error) (sb : Situation) (r : Result T Error) (t : Situation)
    → first s a sa → second s b sb → is_memory_answer a ≡ false → is_memory_answer b ≡ false
    → Chosen s a sa b sb r t ⊎ IsMemoryAnswer s r t → ChoiceOutcome first second s r t
ran_outcome first second s a sa b sb r t f g p q answer = grind arith

module _ {T : Type 0} (first second less other : Outcome T) (fewer : Spares first less)
    (fewer_others : Spares second other) (s t : Situation) (r : Result T Error) where
  -- fewer answers of two branches give fewer runs of both, which didn't want memory
  abbrev pub branches_within : BranchesEval first second s r t → BranchesEval less other s r t
  branches_within o = record {
    a = o.a;
    sa = o.sa;
    b = o.b;
    sb = o.sb;
    first_ran = fewer s o.sa o.a o.first_ran o.first_spared;
    second_ran = fewer_others s o.sb o.b o.second_ran o.second_spared;
    first_spared = o.first_spared;
    second_spared = o.second_spared;
    chosen = o.chosen;
  }

-- fewer answers of two branches give fewer answers of a choice, which didn't want memory
pub choice_within : {T : Type 0} (first second less other : Outcome T) → Spares first less
    → Spares second other → (s t : Situation) (r : Result T Error)
    → ChoiceOutcome first second s r t → ChoiceOutcome less other s r t
choice_within first second less other fewer others s t r ran =
    grind (arith, branches_within first second less other fewer others s t)

-- a choice catches no want of memory
pub choice_spared : {T : Type 0} (first second : Outcome T) (s t : Situation) (r : Result T Error)
    → ChoiceOutcome first second s r t → IsNotMemory r
    → ChoiceOutcome (WithoutMemory first) (WithoutMemory second) s r t
choice_spared first second s t r ran spared = grind (arith, choice_within)

-- of two situations the leftmost place of the one is that of the other
pub leftmost_of_other : (s other : Situation) (p : ℕ) → IsLeftmost s other p → IsLeftmost other s p
leftmost_of_other s other p h = grind arith

-- where the second branch doesn't win against the first, the first one does
pub first_wins : {T : Type 0} (first second : AnsweredBranch T) (place : ℕ) (t : Situation)
    → IsWinner second.left first.left (false, Some place)
    → ConflictsSaved first.left second.left place t → ValueOfWinner first second (Ok first.value) t
first_wins first second place t winner saved =
    let left = leftmost_of_other second.left first.left place winner.0 in
    ((true, Some place), (left, left.differs ∙ ap not winner.1), (refl, saved))

-- where the second branch wins against the first, it is the winner
pub second_wins : {T : Type 0} (first second : AnsweredBranch T) (place : ℕ) (t : Situation)
    → IsWinner second.left first.left (true, Some place)
    → ConflictsSaved second.left first.left place t → ValueOfWinner first second (Ok second.value) t
second_wins first second place t winner saved =
    let left = leftmost_of_other second.left first.left place winner.0 in
    ((false, Some place), (left, left.differs ∙ ap not winner.1), (refl, saved))

-- The leftmost place that only one of two branches took belongs to the chosen one.

-- there is one leftmost place at most
one_leftmost : (s other : Situation) (p q : ℕ) → IsLeftmost s other p → IsLeftmost s other q → q ≡ p
one_leftmost s other p q a b = grind (arith, a.first, b.first)

-- the chosen of two answers took the leftmost place that only one took; without one it's the first
abbrev IsLeftmostChosen : {T : Type 0} → Result T Error → Situation → Result T Error → Situation
    → T → Situation → Type 0
IsLeftmostChosen a sa b sb v t =
    ((p : ℕ) → IsLeftmost sa sb p → TookAndIsChosen p a sa v t ⊎ TookAndIsChosen p b sb v t)
    × (TakeTheSame sa sb → IsChosen a sa v t)

module _ {T : Type 0} (v : T) (t : Situation) where
  -- a branch that stands is chosen
  pub stands : (branch : AnsweredBranch T) → Stands branch (Ok v) t
      → IsChosen (Ok branch.value) branch.left v t
  stands branch answer = grind arith

  -- a winner is chosen
  winner_chosen : (first second : AnsweredBranch T) (winner : Bool × Option ℕ)
      → IsWinner first.left second.left winner → Winner first second winner (Ok v) t
      → IsLeftmostChosen (Ok first.value) first.left (Ok second.value) second.left v t
  winner_chosen first second (wins, None) decided won = (
    (λ p left. let same = decided.0 p in absurd (grind (arith, left.differs))),
    (λ same. stands first won),
  )
  winner_chosen first second (true, Some place) decided won = (
    (λ p left. inl (record {
      chosen = record { answer = sym won.0; takes = won.1.taken };
      took = grind (arith, one_leftmost first.left second.left p place left decided.0);
    })),
    (λ same. absurd (grind (arith, same place))),
  )
  winner_chosen first second (false, Some place) decided won = (
    (λ p left. inr (record {
      chosen = record { answer = sym won.0; takes = won.1.taken };
      took = grind (arith, one_leftmost first.left second.left p place left decided.0);
    })),
    (λ same. absurd (grind (arith, same place))),
  )

-- what answered a value and left as many items took nothing
pub took_nothing : {T : Type 0} {outcome : Outcome T} {reads : Readings T} → Lawful T outcome reads
    → (s t : Situation) (v : T) → outcome s (Ok v) t → is_untouched s t ≡ true → TakeTheSame t s
took_nothing law s t v ran untouched p = grind (arith, nat_tests, same_took_none)

module _ {T : Type 0} {first second : Outcome T} {first_reads second_reads : Readings T}
    (first_law : Lawful T first first_reads) (second_law : Lawful T second second_reads) where
  -- where neither took an item no place is taken by only one
  none_differs : (s : Situation) (x : T) (sa : Situation) (y : T) (sb : Situation)
      → first s (Ok x) sa → second s (Ok y) sb
      → (is_untouched s sa && is_untouched s sb) ≡ true → TakeTheSame sa sb
  none_differs s x sa y sb first_ran second_ran both p =
      let each = and_parts (is_untouched s sa) (is_untouched s sb) both in
      took_nothing first_law s sa x first_ran each.0 p ∙ sym
      (took_nothing second_law s sb y second_ran each.1 p)

  -- of two values at equal depths the leftmost is chosen
  equal_chosen : (s : Situation) (v : T) (t : Situation) (a : Result T Error) (sa : Situation)
      (b : Result T Error) (sb : Situation) → first s a sa → second s b sb
      → EqualDepths s a sa b sb (Ok v) t → IsOk a → IsOk b → IsLeftmostChosen a sa b sb v t
  equal_chosen s v t (Ok x) sa (Ok y) sb first_ran second_ran (inl neither) one other = (
    (λ p left.
        absurd (grind (arith, none_differs s x sa y sb first_ran second_ran neither.0 p))),
    (λ same. stands v t (branch_of x sa) neither.1),
  )
  equal_chosen s v t (Ok x) sa (Ok y) sb first_ran second_ran (inr won) one other =
      winner_chosen v t (branch_of x sa) (branch_of y sb) won.1.0 won.1.1 won.1.2
  equal_chosen s v t (Ok x) sa (Err e) sb first_ran second_ran chosen one other = grind arith
  equal_chosen s v t (Err e) sa b sb first_ran second_ran chosen one other =
      absurd (true≢false (sym one))

  -- in every choice
  pub leftmost_is_chosen : (s t : Situation) (r : Result T Error) → ChoiceOutcome first second s r t
      → LeftmostWins first second s r t
  leftmost_is_chosen s t (Err e) ran = ran
  leftmost_is_chosen s t (Ok v) ran =
      let chosen = λ (one : IsOk ran.a) (other : IsOk ran.b) (depths : depth ran.sa ≡ depth ran.sb).
      equal_chosen s v t ran.a ran.sa ran.b ran.sb ran.first_ran ran.second_ran
      (grind (arith, ran.chosen)) one other in
      record {
        ran = ran;
        leftmost = λ one other depths. (chosen one other depths).0;
        else_first = λ one other depths. (chosen one other depths).1;
      }
