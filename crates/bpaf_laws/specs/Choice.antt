-- Choices, of two parsers or of any number.
use Rattle.std.specs.Prelude.{◌≡◌, ◌⊎◌, ◌<◌, ℕ, Bool, true, false, ◌&&◌, ◌++◌, length, Result, Ok}
use Rattle.std.specs.Prelude.{Err, Option, Some, None, List, [], ◌∷◌, codes}
use Rattle.std.specs.Result.{IsOk}
use Rattle.bpaf_doc.specs.Shape.{Shape, Or, alternatives, members}
use Rattle.bpaf_line.specs.Taking.{IsLeftmost, TakeTheSame, IsWinner, ConflictsSaved}
use Rattle.bpaf_line.specs.Messages.{is_memory, is_wrong_input, Combines}
use Rattle.bpaf_line.specs.{Situation.Situation, Situation.is_taken, declared.error.Error.Error}
use Rattle.bpaf_laws.specs.Combinators.{is_untouched}
use Rattle.bpaf_laws.specs.{Reading.Readings, Reading.Outcome, Laws.IsNotMemory}

-- how many names the path has
abbrev pub depth : Situation → ℕ
depth s = length s.path

-- an answer that is want of memory
abbrev pub is_memory_answer : {T : Type 0} → Result T Error → Bool
is_memory_answer (Ok v) = false
is_memory_answer (Err e) = is_memory e.0

-- want of memory, which leaves all as before
abbrev pub IsMemoryAnswer : {T : Type 0} → Situation → Result T Error → Situation → Type 0
IsMemoryAnswer s (Ok v) t = ⊥
IsMemoryAnswer s (Err e) t = (is_memory e.0 ≡ true) × (t ≡ s)

-- a branch that answered Ok: the value that it gave, and the situation that it left
pub record AnsweredBranch (T : Type 0) : Type 0 where
  pub value : T
  pub left : Situation

-- the branch that gave this value and left this situation
abbrev pub branch_of : {T : Type 0} → T → Situation → AnsweredBranch T
branch_of x s = record { value = x; left = s }

-- a branch stands: its value is the answer, in the situation that it left
abbrev pub Stands : {T : Type 0} → AnsweredBranch T → Result T Error → Situation → Type 0
Stands branch r t = (r ≡ Ok branch.value) × (t ≡ branch.left)

-- a branch won by a place: its value is the answer, what only the other took is noted with that
abbrev pub WonBy : {T : Type 0} → AnsweredBranch T → AnsweredBranch T → ℕ → Result T Error
    → Situation → Type 0
WonBy winner loser place r t = (r ≡ Ok winner.value) × ConflictsSaved winner.left loser.left place t

-- the answer, by whether the first of two branches wins, and by which place; without one it stands
abbrev pub Winner : {T : Type 0} → AnsweredBranch T → AnsweredBranch T → Bool × Option ℕ
    → Result T Error → Situation → Type 0
Winner first second (wins, None) r t = Stands first r t
Winner first second (true, Some place) r t = WonBy first second place r t
Winner first second (false, Some place) r t = WonBy second first place r t

-- the value of the branch that took the leftmost place taken by only one; without one, of the first
abbrev pub ValueOfWinner : {T : Type 0} → AnsweredBranch T → AnsweredBranch T → Result T Error
    → Situation → Type 0
ValueOfWinner first second r t =
    (winner : Bool × Option ℕ) × IsWinner first.left second.left winner
    × Winner first second winner r t

-- both answered a value: that of the first where neither took an item, else that of the winner
abbrev pub BothOk : {T : Type 0} → Situation → AnsweredBranch T → AnsweredBranch T
    → Result T Error → Situation → Type 0
BothOk s first second r t =
    (((is_untouched s first.left && is_untouched s second.left) ≡ true) × Stands first r t)
    ⊎ (((is_untouched s first.left && is_untouched s second.left) ≡ false)
    × ValueOfWinner first second r t)

-- one answered a value: it stands, unless it took nothing and the other's error is wrong input,
-- which is then the answer
abbrev pub OneOk : {T : Type 0} → Situation → AnsweredBranch T → Error → Result T Error
    → Situation → Type 0
OneOk s branch e r t =
    (((is_untouched s branch.left && is_wrong_input e.0) ≡ true) × (r ≡ Err e) × (t ≡ s))
    ⊎ (((is_untouched s branch.left && is_wrong_input e.0) ≡ false) × Stands branch r t)

-- neither did: their errors combined, and all is as before
abbrev pub BothErr : {T : Type 0} → Situation → Error → Error → Result T Error → Situation → Type 0
BothErr s e f r t = ((both : Error) × Combines e.0 f.0 both.0 × (r ≡ Err both)) × (t ≡ s)

-- the answer where both paths are equally deep
abbrev pub EqualDepths : {T : Type 0} → Situation → Result T Error → Situation → Result T Error
    → Situation → Result T Error → Situation → Type 0
EqualDepths s (Ok x) sa (Ok y) sb r t = BothOk s (branch_of x sa) (branch_of y sb) r t
EqualDepths s (Ok x) sa (Err f) sb r t = OneOk s (branch_of x sa) f r t
EqualDepths s (Err e) sa (Ok y) sb r t = OneOk s (branch_of y sb) e r t
EqualDepths s (Err e) sa (Err f) sb r t = BothErr s e f r t

-- the answer by what the two branches answered: that of the deeper path, else as above
abbrev pub Chosen : {T : Type 0} → Situation → Result T Error → Situation → Result T Error
    → Situation → Result T Error → Situation → Type 0
Chosen s a sa b sb r t =
    ((depth sb < depth sa) × (r ≡ a) × (t ≡ sa))
    ⊎ (((depth sa < depth sb) × (r ≡ b) × (t ≡ sb))
    ⊎ ((depth sa ≡ depth sb) × EqualDepths s a sa b sb r t))

-- both branches, evaluated from the same situation, answered something else than want of memory
pub record BranchesEval {T : Type 0} (first second : Outcome T) (s : Situation) (r : Result T Error)
    (t : Situation) : Type 0 where
  pub a : Result T Error
  pub sa : Situation
  pub b : Result T Error
  pub sb : Situation
  pub first_ran : first s a sa
  pub second_ran : second s b sb
  pub first_spared : IsNotMemory a
  pub second_spared : IsNotMemory b
  pub chosen : Chosen s a sa b sb r t

-- the table; want of memory is the answer at once, and leaves all as before
abbrev pub ChoiceOutcome : {T : Type 0} → Outcome T → Outcome T → Outcome T
ChoiceOutcome first second s (Ok v) t = BranchesEval first second s (Ok v) t
ChoiceOutcome first second s (Err e) t =
    BranchesEval first second s (Err e) t ⊎ ((is_memory e.0 ≡ true) × (t ≡ s))

-- a reading of one branch
abbrev pub ChoiceReads : {T : Type 0} → Readings T → Readings T → Readings T
ChoiceReads first second context share v = first context share v ⊎ second context share v

-- the choice of two shapes
abbrev pub either_shape : Shape → Shape → Shape
either_shape first second = Or (members (alternatives first ++ alternatives second))

-- a choice shows what both branches show
abbrev pub ChoiceDescribes : (Shape → Type 0) → (Shape → Type 0) → Shape → Type 0
ChoiceDescribes first second shape =
    (a : Shape) × (b : Shape) × first a × second b × (shape ≡ either_shape a b)

-- a branch is the chosen one: its value is the answer, and what it took is taken
pub record IsChosen {T : Type 0} (a : Result T Error) (sa : Situation) (v : T)
    (t : Situation) : Type 0 where
  pub answer : a ≡ Ok v
  pub takes : TakeTheSame t sa

-- a branch took a place, and is the chosen one
pub record TookAndIsChosen {T : Type 0} (p : ℕ) (a : Result T Error) (sa : Situation) (v : T)
    (t : Situation) : Type 0 where
  pub chosen : IsChosen a sa v t
  pub took : is_taken sa p ≡ true

-- the answer comes of two branches that ran; where these are equally deep and both answer a value
-- the chosen one took the leftmost place taken by only one of them, and without such a place the
-- first is chosen
pub record LeftmostIsChosen {T : Type 0} (first second : Outcome T) (s : Situation) (v : T)
    (t : Situation) : Type 0 where
  pub ran : BranchesEval first second s (Ok v) t
  pub leftmost : IsOk ran.a → IsOk ran.b → depth ran.sa ≡ depth ran.sb
      → (p : ℕ) → IsLeftmost ran.sa ran.sb p → TookAndIsChosen p ran.a ran.sa v t
      ⊎ TookAndIsChosen p ran.b ran.sb v t
  pub else_first : IsOk ran.a → IsOk ran.b → depth ran.sa ≡ depth ran.sb → TakeTheSame ran.sa ran.sb
      → IsChosen ran.a ran.sa v t

-- the table, in which the leftmost wins
abbrev pub LeftmostWins : {T : Type 0} → Outcome T → Outcome T → Outcome T
LeftmostWins first second s (Ok v) t = LeftmostIsChosen first second s v t
LeftmostWins first second s (Err e) t = ChoiceOutcome first second s (Err e) t

-- choices of two, nested to the left: what stands before against the meaning of each in turn
abbrev pub Nested : {A : Type 1} {P : Type 0} → (A → A → A) → (P → A) → A → List P → A
Nested choice meaning before [] = before
Nested choice meaning before (p ∷ ps) = Nested choice meaning (choice before (meaning p)) ps

-- the message of a choice without parsers
abbrev pub no_choice : List ℕ
no_choice = codes "Invalid choice usage"
