-- Closures round commands, choices of them, and commands that may be left out, have a default or are
-- repeated keep to the laws.
use Rattle.std.proofs.Common.{true≢false, Option, Result, ⊎_elim, false, arith, List, refl, ◌++◌}
use Rattle.std.proofs.Common.{◌||◌, Err, ℕ, ◌≡◌, sym, ◌∙◌, inl, inr, [], Ok, ap, subst, Bool, true}
use Rattle.std.proofs.Common.{None, ◌<◌, ◌∷◌, ◌⊎◌}
use Rattle.std.proofs.lemmas.Bool.{and_parts, cases_lt, or_right, le-leb, lt-ltb}
use Rattle.std.proofs.{lemmas.Bool.le-leb, lemmas.Bool.lt-ltb, lemmas.List.Folds.list_any-append}
use Rattle.bpaf_base.specs.{Items.is_command_word, Items.any_item}
use Rattle.bpaf_line.specs.Messages.{is_memory}
use Rattle.bpaf_line.specs.Taking.{ConflictsSaved, open_item}
use Rattle.std.proofs.lemmas.List.Folds.{list_any-append}
use Rattle.bpaf_base.specs.Items.{is_command_word, any_item}
use Rattle.bpaf_line.specs.{Messages.is_memory, Taking.ConflictsSaved, Taking.open_item}
use Rattle.bpaf_line.specs.{Situation.Situation, Situation.is_taken, declared.error.Error.Error}
use Rattle.bpaf_line.proofs.Places.{present_in_line, open_has_item}
use Rattle.bpaf_laws.proofs.ChoiceLaws.{chosen_at_equal, of_chosen}
use Rattle.bpaf_laws.specs.Choice.{ChoiceOutcome, Chosen, depth}
use Rattle.bpaf_laws.specs.{Command.is_one_of, Laws.IsNotMemory, Reading.Outcome}
use Rattle.bpaf_exact.proofs.Places.{open_present, same_cells, same_item, match_of, Match}
use Rattle.bpaf_exact.proofs.Classes.{combined_missing, is_missing_of, not_memory, memory_class}
use Rattle.bpaf_exact.proofs.Classes.{goes_on, stops_at}
use Rattle.bpaf_exact.proofs.{Names.apart_second, Names.apart_first, Wrappers.closed_keeps}
use Rattle.bpaf_exact.specs.Flat.{OptionalEval, IsWholeIn, ClosedEval, Variables, OfMissing}
use Rattle.bpaf_exact.specs.Flat.{none_here, OfMemory, no_place, NonePresent, ClosedValue}
use Rattle.bpaf_exact.specs.Flat.{ErrorClass, AgreesOn, Closure, Steady, cells, class, Decides}
use Rattle.bpaf_exact.specs.Flat.{FallbackEval, RepeatOutcome, Stops, nothing_found, some_closure}
use Rattle.bpaf_exact.specs.Pieces.{either, pieces, Cells, Roles}
use Rattle.bpaf_exact.specs.ProgramForm.{OptionalCommands, FindsNoCommand, ChoiceValue, CommandsLaw}
use Rattle.bpaf_exact.specs.ProgramForm.{ProgramTook, opens_later, CellsValue, ProgramLaw, Opens}
use Rattle.bpaf_exact.specs.ProgramForm.{WordsApart, opens_here, OpensNone, DefaultCommands}
use Rattle.bpaf_exact.specs.ProgramForm.{LeavesToOthers, RepeatCommands, is_dashed}
use Rattle.bpaf_line.specs.Situation.{open_count}
use Rattle.bpaf_laws.specs.Combinators.{LastOutcome, StopsAtError, TurnOutcome, Turns, is_nil}
use Rattle.bpaf_laws.specs.Combinators.{rests, stops}
use Rattle.bpaf_exact.proofs.{Product.none_counted, Names.never_nil, Leaves.last_same}
use Rattle.bpaf_exact.proofs.Repeat.{same_count, stopped_by}
use Rattle.std.proofs.{lemmas.List.Folds.list_all-append, Common.not}

-- the same scope of the same line
pub record SameScope (m n : Situation) : Type 0 where
  pub context : n.context ≡ m.context
  pub start : n.start ≡ m.start
  pub end : n.end ≡ m.end

-- no evaluation of a flat field changes it
pub same_scope : {m n : Situation} → Steady m n → SameScope m n
same_scope a = record { context = a.context; start = a.start; end = a.end }

-- two evaluations that began alike keep the same
pub steady_both : {s m n : Situation} → Steady s m → Steady s n → SameScope n m
steady_both a b = grind arith

-- a place where as much is taken has the item that it had
pub steady_item : {m n : Situation} → SameScope m n → (p : ℕ) → is_taken n p ≡ is_taken m p
    → open_item n p ≡ open_item m p
steady_item {m} {n} st p e = grind (arith, same_item)

-- where as much is taken the cells are the same
pub cells_same : {m n : Situation} → SameScope m n → ((p : ℕ) → is_taken n p ≡ is_taken m p)
    → cells n ≡ cells m
unfolding cells
cells_same {m} {n} st f = grind (arith, same_cells, steady_item)

-- where a place isn't taken an item is there
pub has_item : {env : Variables} {s : Situation} {p : ℕ} → IsWholeIn env s → is_taken s p ≡ false
    → Match any_item s p
has_item {s} {p} w free =
    grind (arith, cases_lt, le-leb, lt-ltb, match_of, open_has_item, present_in_line)

-- conflict notes change nothing that is taken
pub saved_steady : {s : Situation} (other : Situation) {t : Situation} {place : ℕ}
    → ConflictsSaved s other place t → Steady s t
saved_steady other c = grind arith

-- Closures.
module _ {A B : Type 0} {inner : Outcome A} {r : Roles} {value : CellsValue A} {f : Closure A B}
    (agrees : (cs : Cells) → AgreesOn (value cs) f) (c : ErrorClass) where
  -- round a program
  pub closed_program : {env : Variables} → ProgramLaw env A inner r value
      → ProgramLaw env B (ClosedEval A B inner f c) r (ClosedValue value f)
  closed_program l = grind (arith, closed_keeps)

  -- round commands
  pub closed_commands : {env : Variables} {words : List (List ℕ)}
      → CommandsLaw env A inner r words value
      → CommandsLaw env B (ClosedEval A B inner f c) r words (ClosedValue value f)
  closed_commands l = record {
    program = closed_program l.program;
    opened = λ cs v h. l.opened cs h.from h.read;
    plain = l.plain;
    deeper = λ s t v w o. grind (arith, l.deeper s t);
    took = λ s t v o. grind (arith, l.took s t);
    none = λ s t e o n. grind (arith, l.took s t, l.none s t);
  }

-- Commands that may be left out.

-- where nothing is present there is no piece
none_own : (q : Roles) {cs : Cells} → NonePresent cs → pieces q cs ≡ []
none_own q no_place = refl
none_own q (none_here n) = none_own q n

-- where nothing is present nothing opens a command
pub none_opens : {words : List (List ℕ)} {cs : Cells} → NonePresent cs → OpensNone words cs
none_opens no_place ds o = elim o [ ]
none_opens (none_here n) ds (opens_later {ds = es} o) = none_opens n es o

module _ {env : Variables} {T : Type 0} {inner : Outcome T} {r : Roles} {words : List (List ℕ)}
    {value : CellsValue T} (l : CommandsLaw env T inner r words value) where
  -- its values
  abbrev optional : CellsValue (Option T)
  optional = OptionalCommands T value

  -- a value is that of a command, or None, where nothing is present
  optional_took : (s t : Situation) (v : Option T) → IsWholeIn env s
      → OptionalEval T inner s (Ok v) t → ProgramTook (Option T) optional s v t
  optional_took s t v w x4 = grind (arith, none_opens)

  -- where there is a value, a refusal is want of memory
  optional_refuses : (s t : Situation) (e : Error) → IsWholeIn env s
      → OptionalEval T inner s (Err e) t → (u : Option T) → optional (cells s) u
      → class e ≡ OfMemory
  optional_refuses s t e w x u h = grind (arith, none_opens, open_present)

  -- the laws
  pub optional_commands : ProgramLaw env (Option T) (OptionalEval T inner) r optional
  optional_commands = grind (arith, optional_took, optional_refuses, none_own)

  -- Commands with a default.
  module _ {f : Closure (Unit {0}) T} (decides : Decides f) where
    -- their values
    abbrev default : CellsValue T
    default = DefaultCommands T (f.yes tt) value

    -- a value is theirs, or what is given where nothing is present
    default_took : (s t : Situation) (v : T) → IsWholeIn env s → FallbackEval T inner f s (Ok v) t
        → ProgramTook T default s v t
    default_took s t v w x = grind (arith, none_opens)

    -- where there is a value, a refusal is want of memory
    default_refuses : (s t : Situation) (e : Error) → IsWholeIn env s
        → FallbackEval T inner f s (Err e) t → (u : T) → default (cells s) u → class e ≡ OfMemory
    default_refuses s t e w x u h = grind (arith, none_opens)

    -- the laws
    pub default_commands : ProgramLaw env T (FallbackEval T inner f) r default
    default_commands = record {
      others = λ q n a cs v s h. ⊎_elim (l.program.others q n a cs v s) (λ g. none_own q g.0) h;
      keeps = record { ok = default_took; err = default_refuses };
    }

  -- Repeats of commands.

  -- their values
  abbrev listed : CellsValue (List T)
  listed = RepeatCommands T value

  -- where nothing is open nothing is answered
  none_answered : {s t : Situation} {v : T} → open_count s ≡ 0 → inner s (Ok v) t → ⊥
  none_answered {s} {t} {v} e i =
      (l.took s t v i).0 (none_opens (none_counted (cells s) (sym (open_present s) ∙ e)))

  -- turns answered no value, or one
  data Once (s : Situation) (vs : List T) (t : Situation) : Type 0 where
    never : vs ≡ [] → t ≡ s → Once s vs t
    once : {v : T} → vs ≡ v ∷ [] → inner s (Ok v) t → Once s vs t

  -- each list of turns
  turns_once : (first : Bool) (vs : List T) {s m : Situation} → Turns inner false first s vs m
      → Once s vs m
  turns_once first [] turns = never refl (sym turns)
  turns_once first (v ∷ []) {s} turns =
      once refl (subst (λ z. inner s (Ok v) z) turns.2 turns.1.0)
  turns_once first (v ∷ (x ∷ vs)) {s} turns =
      absurd (none_answered (l.took s turns.0 v turns.1.0).1 turns.2.1.0)

  -- where no value came before, the turn stops at an error, and else as well
  stopped : {s m t : Situation} {vs : List T} → Once s vs m
      → TurnOutcome inner false (is_nil vs) m (Ok None) t
      → StopsAtError inner false m × (t ≡ m)
  stopped (never e same) (inl o) = absurd (true≢false (sym (ap is_nil e) ∙ o.2))
  stopped {s} {m} (once {v} e i) (inl o) = absurd (none_answered (l.took s m v i).1 o.1)
  stopped x (inr o) = o

  -- a repeat answered the value of one evaluation; or none, where that is refused
  data Ran (s : Situation) (vs : List T) (t : Situation) : Type 0 where
    ran_none : vs ≡ [] → StopsAtError inner false s → t ≡ s → Ran s vs t
    ran_once : {v : T} → vs ≡ v ∷ [] → inner s (Ok v) t → Ran s vs t

  -- of turns and a stop
  ran_turns : {s m t : Situation} {vs : List T} → Once s vs m
      → StopsAtError inner false m × (t ≡ m) → Ran s vs t
  ran_turns (never e same) stop = ran_none e (rw (← same) stop.0) (stop.1 ∙ same)
  ran_turns {s} (once {v} e i) stop = ran_once e (subst (λ z. inner s (Ok v) z) (sym stop.1) i)

  -- what a repeat of commands answers
  repeat_ran : (idle : Bool) (s t : Situation) (vs : List T) → RepeatOutcome inner idle s (Ok vs) t
      → Ran s vs t
  repeat_ran false s t vs o =
      let once = turns_once true vs o.steps in ran_turns once (stopped once o.stop)
  repeat_ran true s t vs (stops o) =
      let once = turns_once false vs o.steps in ran_turns once (stopped once o.stop)
  repeat_ran true s t vs (rests v e i same) = ran_once e i

  -- a value is theirs, or none where nothing is present
  repeat_took : {s t : Situation} (vs : List T) → IsWholeIn env s → Ran s vs t
      → ProgramTook (List T) listed s vs t
  repeat_took vs w x = grind (arith, none_opens, stops_at, stopped_by)

  -- where nothing is present what doesn't stop a repeat is want of memory
  none_fails : {s t : Situation} {e : Error} → NonePresent (cells s) → inner s (Err e) t
      → (Stops e s t → ⊥) → class e ≡ OfMemory
  none_fails {s} {t} {e} n i goes = ⊎_elim (λ c. c)
      (λ c. absurd (goes (nothing_found c.0 (same_count s t c.1)))) (l.none s t e i (none_opens n))

  -- where there is a value a refusal is want of memory
  turns_fail : {s m t : Situation} {e : Error} {vs : List T} (nil : Bool) → IsWholeIn env s
      → Once s vs m → TurnOutcome inner false nil m (Err e) t → (us : List T)
      → listed (cells s) us → class e ≡ OfMemory
  turns_fail {e = e} nil w x (inr o) us h = memory_class e.0 o.0
  turns_fail {s} {m} {t} {e} nil w (once {v} f i) (inl o) us h =
      none_fails (none_counted (cells m) (sym (open_present m) ∙ (l.took s m v i).1)) o.0
      (goes_on e o.1)
  turns_fail {s} {m} {t} {e} nil w (never f same) (inl o) [] h =
      none_fails (rw same h) o.0 (goes_on e o.1)
  turns_fail {s} {m} {t} {e} nil w (never f same) (inl o) (u ∷ []) h =
      l.program.keeps.err s t e w (subst (λ z. inner z (Err e) t) same o.0) u h
  turns_fail nil w (never f same) (inl o) (u ∷ (x ∷ us)) h = absurd h

  -- where it is refused
  repeat_fails : (idle : Bool) {s : Situation} (t : Situation) (e : Error) → IsWholeIn env s
      → RepeatOutcome inner idle s (Err e) t → (us : List T) → listed (cells s) us
      → class e ≡ OfMemory
  repeat_fails false t e w o us h =
      turns_fail (is_nil o.values) w (turns_once true o.values o.steps) o.fails us h
  repeat_fails true t e w o us h =
      turns_fail (is_nil o.values) w (turns_once false o.values o.steps) o.fails us h

  -- where nothing is present none of its own is
  listed_leaves : LeavesToOthers r listed
  listed_leaves q n a cs [] s h = none_own q h
  listed_leaves q n a cs (v ∷ []) s h = l.program.others q n a cs v s h
  listed_leaves q n a cs (v ∷ (x ∷ vs)) s h = absurd h

  -- a repeat keeps to the laws of a program
  pub repeat_commands : (idle : Bool)
      → ProgramLaw env (List T) (RepeatOutcome inner idle) r listed
  repeat_commands idle = record {
    others = listed_leaves;
    keeps = record {
      ok = λ s t vs w o. repeat_took vs w (repeat_ran idle s t vs o);
      err = λ s t e w o us h. repeat_fails idle t e w o us h;
    };
  }

  -- Of their lists on the same cells all are empty or none is.
  pub some_commands_agree : (cs : Cells) → AgreesOn (listed cs) (some_closure T)
  some_commands_agree cs [] y v h k made none = made.1 refl
  some_commands_agree cs (x ∷ []) [] v h k made none =
      let o = l.opened cs x h in none_opens k o.0 o.1
  some_commands_agree cs (x ∷ xs) (y ∷ ys) v h k made none = absurd cc
  some_commands_agree cs (x ∷ (z ∷ xs)) [] v h k made none = absurd h

  -- the last value is that of one evaluation
  last_ran : {s t : Situation} {v : T} → LastOutcome inner s (Ok v) t → inner s (Ok v) t
  last_ran {s} {t} {v} (inl o) = by_ran (repeat_ran true s t _ o.1)
    where
      by_ran : Ran s (o.0 ++ v ∷ []) t → inner s (Ok v) t
      by_ran (ran_none e stop same) = absurd (never_nil o.0 v [] e)
      by_ran (ran_once e i) = rw (last_same o.0 [] e) i
  last_ran {s} {t} {v} (inr o) = by_ran (repeat_ran true s o.0 [] o.1)
    where
      by_ran : Ran s [] o.0 → inner s (Ok v) t
      by_ran (ran_none e stop same) = subst (λ z. inner z (Ok v) t) same o.2
      by_ran (ran_once e i) = absurd cc

  -- where there is a value a refusal is want of memory
  last_fails : {s t : Situation} {e : Error} → IsWholeIn env s → LastOutcome inner s (Err e) t
      → (u : T) → value (cells s) u → class e ≡ OfMemory
  last_fails {s} {t} {e} w (inl o) u h = repeat_fails true t e w o (u ∷ []) h
  last_fails {s} {t} {e} w (inr o) u h = by_ran (repeat_ran true s o.0 [] o.1)
    where
      by_ran : Ran s [] o.0 → class e ≡ OfMemory
      by_ran (ran_none f stop same) =
          l.program.keeps.err s t e w (subst (λ z. inner z (Err e) t) same o.2) u h
      by_ran (ran_once f i) = absurd cc

  -- the last value keeps to the laws of a program
  pub last_commands : ProgramLaw env T (LastOutcome inner) r value
  last_commands = record {
    others = l.program.others;
    keeps = record {
      ok = λ s t v w o. l.program.keeps.ok s t v w (last_ran o);
      err = λ s t e w o u h. last_fails w o u h;
    };
  }

-- A choice of commands.

-- what one of some words opens, one of more words does
pub opens_left : (words others : List (List ℕ)) {cs ds : Cells} → Opens words cs ds
    → Opens (words ++ others) cs ds
opens_left words others (opens_here {k} h) =
    opens_here (list_any-append (λ word. is_command_word word k) words others
    ∙ ap (λ b. b || is_one_of others k) h)
opens_left words others (opens_later o) = opens_later (opens_left words others o)

-- or one of the others
pub opens_right : (words others : List (List ℕ)) {cs ds : Cells} → Opens others cs ds
    → Opens (words ++ others) cs ds
opens_right words others (opens_here {k} h) =
    opens_here (list_any-append (λ word. is_command_word word k) words others
    ∙ or_right (is_one_of words k) (is_one_of others k) h)
opens_right words others (opens_later o) = opens_later (opens_right words others o)

-- words that are apart don't open the same cells
pub opens_apart : (words others : List (List ℕ)) → WordsApart words others → {cs ds es : Cells}
    → Opens words cs ds → Opens others cs es → ⊥
opens_apart words others a (opens_here {k} h) (opens_here i) = true≢false (sym i ∙ a k h)
opens_apart words others a (opens_later o) (opens_later p) = opens_apart words others a o p

-- two situations with the same cells, equally deep
pub record Alike (m t : Situation) : Type 0 where
  pub cells_alike : cells t ≡ cells m
  pub depth_alike : depth t ≡ depth m

-- a situation is like itself
pub alike_same : {m t : Situation} → t ≡ m → Alike m t
alike_same e = record { cells_alike = ap cells e; depth_alike = ap depth e }

-- situations that are alike, one after another
pub alike_then : {l m t : Situation} → Alike l m → Alike m t → Alike l t
alike_then e f = grind arith

-- situations are alike where conflicts are saved
pub alike_saved : {m : Situation} (other : Situation) {t : Situation} {place : ℕ}
    → ConflictsSaved m other place t → Alike m t
alike_saved other c = grind (arith, cells_same, same_scope, saved_steady)

module _ {env : Variables} {T : Type 0} {a b : Outcome T} {ra rb : Roles} {wa wb : List (List ℕ)}
    {va vb : CellsValue T} (la : CommandsLaw env T a ra wa va) (lb : CommandsLaw env T b rb wb vb)
    (apart : WordsApart wa wb) where
  -- the values of either
  abbrev values : CellsValue T
  values = ChoiceValue T va vb

  -- a value of the choice is one of a branch
  data BranchOk (s : Situation) (v : T) (t : Situation) : Type 0 where
    of_first : {m : Situation} → a s (Ok v) m → Alike m t → BranchOk s v t
    of_second : {m : Situation} → b s (Ok v) m → Alike m t → BranchOk s v t

  -- an answer of a branch or of the choice, where it is a value, is one of a branch
  abbrev OfBranch : Situation → Result T Error → Situation → Type 0
  OfBranch s (Ok v) t = BranchOk s v t
  OfBranch s (Err e) t = Unit {0}

  -- also with conflicts saved
  saved_too : {s m loser t : Situation} {v : T} {place : ℕ} → ConflictsSaved m loser place t
      → BranchOk s v m → BranchOk s v t
  saved_too {loser = loser} c (of_first i e) = of_first i (alike_then e (alike_saved loser c))
  saved_too {loser = loser} c (of_second i e) = of_second i (alike_then e (alike_saved loser c))

  -- one of the first
  by_first : {s t : Situation} (r : Result T Error) → a s r t → OfBranch s r t
  by_first (Ok v) i = of_first i (alike_same refl)
  by_first (Err e) i = tt

  -- an answer of the second branch
  by_second : {s t : Situation} (r : Result T Error) → b s r t → OfBranch s r t
  by_second (Ok v) i = of_second i (alike_same refl)
  by_second (Err e) i = tt

  -- each
  branch_ok : {s t : Situation} {v : T} → ChoiceOutcome a b s (Ok v) t → BranchOk s v t
  branch_ok {s} {t} {v} o = of_chosen s (OfBranch s) (λ v m loser place t c h. saved_too c h)
      (λ e m h. tt) (λ e f g m n c h i. tt) o.a o.sa o.b o.sb (Ok v) t o.chosen
      (by_first o.a o.first_ran) (by_second o.b o.second_ran)

  -- what opens the first doesn't open the second
  second_closed : {cs : Cells} {u : T} → va cs u → OpensNone wb cs
  second_closed {cs} {u} h ds o = let i = la.opened cs u h in opens_apart wa wb apart i.1 o

  -- what has a value of the second doesn't open the first
  first_closed : {cs : Cells} {u : T} → vb cs u → OpensNone wa cs
  first_closed {cs} {u} h ds o = let i = lb.opened cs u h in opens_apart wa wb apart o i.1

  -- a branch that found no command, of whose answer something else than want of memory is known
  abbrev Passed : Situation → Error → Situation → Type 0
  Passed s e m = (class e ≡ OfMissing) × (cells m ≡ cells s) × (m.path ≡ s.path)

  -- nothing else can be of it
  passed : (s m : Situation) (e : Error) → is_memory e.0 ≡ false
      → FindsNoCommand s (class e) m → Passed s e m
  passed s m e h x = grind (arith, not_memory)

  -- where a branch has a value, a refusal of the choice is want of memory
  choice_refuses : (s t : Situation) (e : Error) → IsWholeIn env s
      → ChoiceOutcome a b s (Err e) t → (u : T) → values (cells s) u → class e ≡ OfMemory
  choice_refuses s t e w (inr o) u h = memory_class e.0 o.0
  choice_refuses s t e w (inl o) u (inl h) =
      absurd (grind (
        arith,
        and_parts,
        is_missing_of,
        not_memory,
        passed,
        second_closed,
        o.first_ran,
        o.second_ran,
        o.first_spared,
        o.second_spared,
        o.chosen,
      ))
  choice_refuses s t e w (inl o) u (inr h) =
      absurd (grind (
        arith,
        first_closed,
        and_parts,
        is_missing_of,
        not_memory,
        passed,
        o.first_ran,
        o.second_ran,
        o.first_spared,
        o.second_spared,
        o.chosen,
      ))

  -- where no word opens anything
  none_chosen : (s : Situation) {sa sb t : Situation} (x y : Result T Error) {g : Error}
      → a s x sa → b s y sb → IsNotMemory x → IsNotMemory y
      → OpensNone wa (cells s) → OpensNone wb (cells s) → Chosen s x sa y sb (Err g) t
      → FindsNoCommand s (class g) t
  none_chosen s x y i j hx hy na nb chosen =
      grind (arith, chosen_at_equal, combined_missing, passed)

  -- where no word opens anything no branch has a value
  none_branch : {s t : Situation} {v : T} → OpensNone (wa ++ wb) (cells s) → BranchOk s v t → ⊥
  none_branch {s} {v} n (of_first {m} i e) =
      (la.took s m v i).0 (λ ds p. n ds (opens_left wa wb p))
  none_branch {s} {v} n (of_second {m} i e) =
      (lb.took s m v i).0 (λ ds p. n ds (opens_right wa wb p))

  -- and has a longer path
  deeper_branch : {s t : Situation} {v : T} → IsWholeIn env s → BranchOk s v t → depth s < depth t
  deeper_branch {s} {t} {v} w (of_first {m} i e) =
      let d = la.deeper s m v w i in let a = e.depth_alike in omega arith
  deeper_branch {s} {t} {v} w (of_second {m} i e) =
      let d = lb.deeper s m v w i in let a = e.depth_alike in omega arith

  -- a branch leaves nothing
  ended_branch : {s t : Situation} {v : T} → BranchOk s v t → open_count t ≡ 0
  ended_branch {s} {t} {v} (of_first {m} i e) =
      same_count m t e.cells_alike ∙ (la.took s m v i).1
  ended_branch {s} {t} {v} (of_second {m} i e) =
      same_count m t e.cells_alike ∙ (lb.took s m v i).1

  -- where no word opens anything the choice is missing
  choice_none : (s t : Situation) (e : Error) → ChoiceOutcome a b s (Err e) t
      → OpensNone (wa ++ wb) (cells s) → FindsNoCommand s (class e) t
  choice_none s t e (inr o) n = inl (memory_class e.0 o.0)
  choice_none s t e (inl o) n =
      none_chosen s o.a o.b o.first_ran o.second_ran o.first_spared o.second_spared
      (λ ds p. n ds (opens_left wa wb p)) (λ ds p. n ds (opens_right wa wb p)) o.chosen

  -- the laws
  pub choice_commands : CommandsLaw env T (ChoiceOutcome a b) (either ra rb) (wa ++ wb) values
  choice_commands = record {
    program = record {
      others = λ q n p cs v s h. ⊎_elim (λ g. la.program.others q n (apart_first rb p) cs v s g)
          (λ g. lb.program.others q n (apart_second ra p) cs v s g) h;
      keeps = record {
        ok = λ s t v w o. grind (arith, first_closed, second_closed, branch_ok o);
        err = choice_refuses;
      };
    };
    opened = λ cs v h. ⊎_elim (λ g. let o = la.opened cs v g in (o.0, opens_left wa wb o.1))
        (λ g. let o = lb.opened cs v g in (o.0, opens_right wa wb o.1)) h;
    plain = list_all-append (λ word. not (is_dashed word)) wa wb ∙ rw (la.plain, lb.plain) refl;
    deeper = λ s t v w o. deeper_branch w (branch_ok o);
    took = λ s t v o. (λ n. none_branch n (branch_ok o), ended_branch (branch_ok o));
    none = choice_none;
  }
