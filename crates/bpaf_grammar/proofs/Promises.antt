-- Each answer of a parser keeps what its grammar promises.
use Rattle.bpaf_laws.specs.Combinators.{FallbackOutcome, Gives, GuardOutcome, MapOutcome}
use Rattle.bpaf_laws.specs.Leaves.{ArgumentFails, ArgumentOutcome, FailsKeyFirst}
use Rattle.bpaf_laws.proofs.Sparing.{none_takes_nothing, spared_collect, spared_count, spared_last}
use Rattle.bpaf_grammar.specs.Grammar.{Grammar, Look, Repeat, Step, argument, choice, closed}
use Rattle.bpaf_grammar.specs.Grammar.{collect, command, count, default_gives, describes_of}
use Rattle.bpaf_grammar.specs.Grammar.{dressed, fallback, flag, stretch, guarded, hide, kept, last}
use Rattle.bpaf_grammar.specs.Grammar.{look_outcome, made, many, mapped, only, optional, outcome_of}
use Rattle.bpaf_grammar.specs.Grammar.{own, parsed, product, repeat, repeat_outcome, some}
use Rattle.bpaf_grammar.specs.Promises.{CommandLeavesNothing, CommandNamesItsOwn}
use Rattle.bpaf_grammar.specs.Promises.{DefaultsTakeNothing, KeyIsFirst, LeftmostIsAnswered}
use Rattle.bpaf_grammar.specs.Promises.{MemoryIsNeverCaught, RepeatIsBounded, TakesOneStretch}
use Rattle.std.proofs.Common.{Option, Result, false, arith, true, refl, Bool, Err, Ok, List, ℕ}
use Rattle.std.specs.Result.{IfErr}
use Rattle.bpaf_line.specs.declared.error.Message.TheVariants.{Memory, ParseFailed}
use Rattle.bpaf_line.specs.{declared.error.Message.Message, declared.error.Error.Error}
use Rattle.bpaf_line.specs.Situation.{Situation}
use Rattle.bpaf_text.specs.Named.{KeyWithValue}
use Rattle.bpaf_laws.specs.Laws.{DefaultTakesNothing, Spares, WithoutMemory}
use Rattle.bpaf_laws.specs.{Leaves.KeyBeforeEnvironment, Combinators.ParseOutcome, Reading.Outcome}
use Rattle.bpaf_laws.proofs.CombinatorLaws.{collect_bounded, many_bounded, some_bounded}
use Rattle.bpaf_laws.proofs.ArgumentLaws.{fault_first, key_first, refused_first}
use Rattle.bpaf_laws.proofs.Sparing.{spared_many, spared_some, spared_step}
use Rattle.bpaf_laws.proofs.AdjacentLaws.{group_takes_stretch, spared_group}
use Rattle.bpaf_laws.proofs.ChoiceLaws.{choice_spared, leftmost_is_chosen}
use Rattle.bpaf_laws.proofs.ProductLaws.{product_spares}
use Rattle.bpaf_grammar.specs.Positional.{FaultsWordAlone, PositionalOutcome}
use Rattle.bpaf_grammar.specs.Grammar.{spared_of, step_outcome, word}
use Rattle.bpaf_grammar.specs.{declared.position.Position.Position, Promises.is_bounded_by}
use Rattle.bpaf_grammar.specs.{Laws.lawful_of, Laws.spares_fields, Run.FaultsTextAlone}
use Rattle.bpaf_grammar.specs.{Ending.run_ending, Own.MadeOutcome}
use Rattle.bpaf_grammar.proofs.Inside.{answer_names_inside, plain_leaves_nothing, takes_one_stretch}
use Rattle.bpaf_grammar.proofs.Sparing.{flag_clones_nothing, spared_either}

-- Want of memory is never caught.

-- an argument tells no fault of a text that means a value
text_faults_alone : {T : Type 0} (means : List ℕ → T → Type 0) (key : KeyWithValue)
    (s t : Situation)
    (r : Result T Error) → ArgumentOutcome means key s r t → IfErr r (FaultsTextAlone means key s t)
text_faults_alone means key s t (Ok v) o = tt
text_faults_alone means key s t (Err e) o = λ place fault is.
    let failed = rw is at o in (failed.0, failed.1, failed.2.0)

-- a word tells no fault of a text that means a value
word_faults_alone : {T : Type 0} (means : List ℕ → T → Type 0) (position : Position)
    (metavar : List ℕ) (s t : Situation) (r : Result T Error)
    → PositionalOutcome means position metavar s r t → IfErr r (FaultsWordAlone means s t)
word_faults_alone means position metavar s t (Ok v) o = tt
word_faults_alone means position metavar s t (Err e) o = λ place fault is.
    let failed = rw is at o in (failed.0, failed.2.0)

module _ {A B : Type 0} (inner : Outcome A) where
  -- a closure that gives a value
  spared_map : (answers : A → B → Type 0)
      → Spares (MapOutcome inner answers) (MapOutcome (WithoutMemory inner) answers)
  spared_map answers s t r o spared = grind arith

  -- one that may refuse
  spared_parse : {E : Type 0} (answers : A → Result B E → Type 0) (shown : E → Option (List ℕ))
      → Spares (ParseOutcome inner answers shown) (ParseOutcome (WithoutMemory inner) answers shown)
  spared_parse answers shown s t r o spared = grind arith

-- one that checks
spared_guard : {T : Type 0} (inner : Outcome T) (checks : T → Bool → Type 0) (message : List ℕ)
    → Spares (GuardOutcome inner checks message) (GuardOutcome (WithoutMemory inner) checks message)
spared_guard inner checks message s t r o spared = grind arith

-- a closure round a parser
spared_closure : {A B : Type 0} (f : Step A B) (inner : Outcome A)
    → Spares (step_outcome f inner) (step_outcome f (WithoutMemory inner))
spared_closure (mapped answers) inner = λ s t r o spared. spared_map inner answers s t r o spared
spared_closure (parsed answers shown) inner = spared_parse inner answers shown
spared_closure (guarded checks message) inner = spared_guard inner checks message

-- a value for which memory may be wanted
spared_value : {A B : Type 0} (inner : Outcome A) (makes : A → B → Type 0)
    → Spares (MadeOutcome inner makes) (MadeOutcome (WithoutMemory inner) makes)
spared_value inner makes s t r o spared = grind arith

-- a repeat
spared_repeat : {A B : Type 0} (f : Repeat A B) (inner : Outcome A)
    → Spares (repeat_outcome f inner) (repeat_outcome f (WithoutMemory inner))
spared_repeat (many catch) inner = spared_many inner catch
spared_repeat (some catch message) inner = spared_some inner catch message
spared_repeat (collect catch fills) inner = spared_collect inner catch fills
spared_repeat count inner = spared_count inner

module _ {T : Type 0} (inner : Outcome T) where
  -- another look
  spared_look : (look : Look)
      → Spares (look_outcome look inner) (look_outcome look (WithoutMemory inner))
  spared_look hide s t r o spared = grind arith
  spared_look _ s t r o spared = (o, spared)

  -- a default
  spared_default : (gives : Gives T)
      → Spares (FallbackOutcome inner gives) (FallbackOutcome (WithoutMemory inner) gives)
  spared_default gives s t r o spared = grind arith

  -- where it stands in for a value all is as before
  default_takes_nothing : (gives : Gives T) (s t : Situation) (r : Result T Error)
      → FallbackOutcome inner gives s r t → DefaultTakesNothing inner s r t
  default_takes_nothing gives s t r o = grind arith

-- no parser catches want of memory
pub memory_is_never_caught : {T : Type 0} (g : Grammar T) (s t : Situation) (r : Result T Error)
    → outcome_of g s r t → MemoryIsNeverCaught g s r t
memory_is_never_caught (flag clones key present absent) s t r o =
    flag_clones_nothing key absent s t clones present r o
memory_is_never_caught (argument means key) s t r o = text_faults_alone means key s t r o
memory_is_never_caught (word means position metavar help) s t r o =
    word_faults_alone means position metavar s t r o
memory_is_never_caught (kept clones value) s t (Ok v) o = tt
memory_is_never_caught (kept clones value) s t (Err e) o = o.0
memory_is_never_caught (own p) s t r o = p.spares s t r o
memory_is_never_caught (closed f g) s t r o = spared_closure f (outcome_of g) s t r o
memory_is_never_caught (made makes g) s t r o = spared_value (outcome_of g) makes s t r o
memory_is_never_caught (dressed look g) s t r o = spared_look (outcome_of g) look s t r o
memory_is_never_caught (optional catch g) s t r o = spared_step (outcome_of g) catch true s t r o
memory_is_never_caught (fallback shown d g) s t r o =
    spared_default (outcome_of g) (default_gives d) s t r o
memory_is_never_caught (repeat f g) s t r o = spared_repeat f (outcome_of g) s t r o
memory_is_never_caught (last g) s t r o = spared_last (outcome_of g) s t r o
memory_is_never_caught (choice g h) s t r o = choice_spared (outcome_of g) (outcome_of h) s t r o
memory_is_never_caught (only g) s t r o = memory_is_never_caught g s t r o
memory_is_never_caught (command adjacent called info help g) s t r o = spared_either (outcome_of g)
    (run_ending (describes_of g) info) called _ adjacent s t r o
memory_is_never_caught (stretch first g) s t r o = λ spared.
    spared_group (outcome_of g) _ (λ s t r ran unwanted. (ran, unwanted)) s o
memory_is_never_caught (product makes g) s t r o =
    product_spares (outcome_of g) (spared_of g) makes (spares_fields g) s t r o

-- Repeats and defaults, choices, arguments and commands.

-- repeats are bounded
pub repeat_is_bounded : {T : Type 0} (g : Grammar T) (s t : Situation) (r : Result T Error)
    → outcome_of g s r t → RepeatIsBounded g s r t
repeat_is_bounded (repeat f g) s t r o = bounded f r o
  where
    bounded : {B : Type 0} (f : Repeat _ B) (r : Result B Error)
        → repeat_outcome f (outcome_of g) s r t
        → is_bounded_by f (outcome_of g) s r t
    bounded (many catch) r o = many_bounded (lawful_of g) catch s t r o
    bounded (some catch message) r o = some_bounded (lawful_of g) catch s t message r o
    bounded (collect catch fills) r o = collect_bounded (lawful_of g) catch s t fills r o
    bounded count r o = tt
repeat_is_bounded _ s t r o = tt

-- None and defaults take nothing
pub defaults_take_nothing : {T : Type 0} (g : Grammar T) (s t : Situation) (r : Result T Error)
    → outcome_of g s r t → DefaultsTakeNothing g s r t
defaults_take_nothing (optional catch g) s t r o = none_takes_nothing (outcome_of g) catch s t r o
defaults_take_nothing (fallback shown d g) s t r o =
    default_takes_nothing (outcome_of g) (default_gives d) s t r o
defaults_take_nothing _ s t r o = tt

-- the leftmost wins
pub leftmost_is_answered : {T : Type 0} (g : Grammar T) (s t : Situation) (r : Result T Error)
    → outcome_of g s r t → LeftmostIsAnswered g s r t
leftmost_is_answered (choice g h) s t r o =
    leftmost_is_chosen (lawful_of g) (lawful_of h) s t r o
leftmost_is_answered (only g) s t r o = leftmost_is_answered g s t r o
leftmost_is_answered _ s t r o = tt

module _ {T : Type 0} (means : List ℕ → T → Type 0) (key : KeyWithValue) (s t : Situation) where
  -- a refusal of an argument, by whether its key is there
  fails_first : (m : Message) → ArgumentFails means key s m t → FailsKeyFirst means key s m
  fails_first (ParseFailed place fault) fails =
      fault_first means key s t fails.0 (ParseFailed place fault) fails.1 fails.2
  fails_first Memory fails = ((λ p here. tt), (λ none. tt))
  fails_first other fails = refused_first means key s t other fails

  -- each answer
  argument_first : (r : Result T Error) → ArgumentOutcome means key s r t
      → KeyBeforeEnvironment means key s r t
  argument_first (Ok v) o = key_first means key s t o.0 (Ok v) o.1 o.2
  argument_first (Err e) o = fails_first e.0 o

-- a key comes before the environment
pub key_is_first : {T : Type 0} (g : Grammar T) (s t : Situation) (r : Result T Error)
    → outcome_of g s r t → KeyIsFirst g s r t
key_is_first (argument means key) s t r o = argument_first means key s t r o
key_is_first _ s t r o = tt

-- a command leaves nothing in its scope
pub command_leaves_nothing : {T : Type 0} (g : Grammar T) (s t : Situation) (r : Result T Error)
    → outcome_of g s r t → CommandLeavesNothing g s r t
command_leaves_nothing (command false called info help g) s t (Ok v) o = plain_leaves_nothing
    (lawful_of g) (run_ending (describes_of g) info) called _ false s t v o refl
command_leaves_nothing (command false called info help g) s t (Err e) o = tt
command_leaves_nothing _ s t r o = tt

-- an adjacent one takes one stretch, and so does an adjacent group
pub takes_stretch : {T : Type 0} (g : Grammar T) (s t : Situation) (r : Result T Error)
    → outcome_of g s r t → TakesOneStretch g s r t
takes_stretch (command true called info help g) s t (Ok v) o = takes_one_stretch
    (lawful_of g) (run_ending (describes_of g) info) called _ true s t v o refl
takes_stretch (command true called info help g) s t (Err e) o = tt
takes_stretch (stretch first g) s t r o = group_takes_stretch first (lawful_of g) s r t o
takes_stretch _ s t r o = tt

-- what a command hands on is its own
pub command_names_its_own : {T : Type 0} (g : Grammar T) (s t : Situation) (r : Result T Error)
    → outcome_of g s r t → CommandNamesItsOwn g s r t
command_names_its_own (command adjacent called info help g) s t r o =
    answer_names_inside (lawful_of g) (describes_of g) info called s _ adjacent r t o
command_names_its_own _ s t r o = tt
