-- What is so of each answer of a parser beside its outcome, by what the parser is made of.
use Rattle.bpaf_laws.specs.Combinators.{CollectIsBounded, FallbackOutcome, IsBounded, LastOutcome}
use Rattle.bpaf_laws.specs.Laws.{DefaultTakesNothing, IsNotMemory, NoneTakesNothing, WithoutMemory}
use Rattle.bpaf_grammar.specs.Grammar.{Grammar, Repeat, argument, choice, closed, collect, command}
use Rattle.bpaf_grammar.specs.Grammar.{count, default_gives, describes_of, dressed, fallback, flag}
use Rattle.bpaf_grammar.specs.Grammar.{stretch, kept, last, look_outcome, made, many, only}
use Rattle.bpaf_grammar.specs.Grammar.{optional, outcome_of, own, product, repeat, repeat_outcome}
use Rattle.std.specs.{Prelude.false, Prelude.true, Prelude.IfOk, Prelude.◌≡◌, Result.IfErr}
use Rattle.bpaf_line.specs.Messages.{is_memory}
use Rattle.bpaf_laws.specs.{Command.CommandPart, Command.LeavesNothing, Leaves.KeyBeforeEnvironment}
use Rattle.bpaf_laws.specs.{Choice.LeftmostWins, Choice.ChoiceOutcome, Combinators.TurnOutcome}
use Rattle.bpaf_laws.specs.{Adjacent.GroupOutcome, Adjacent.IsStretch, Product.ProductOutcome}
use Rattle.bpaf_laws.specs.{Reading.Outcome, Laws.newly}
use Rattle.bpaf_grammar.specs.Grammar.{some, spared_of, step_outcome, word}
use Rattle.bpaf_grammar.specs.{Run.ClonesNothing, Run.FaultsTextAlone, Command.EitherCommandOutcome}
use Rattle.bpaf_grammar.specs.{Positional.FaultsWordAlone, Refusals.NamesInside, Own.MadeOutcome}
use Rattle.bpaf_grammar.specs.Ending.{EndsRun}

-- an answer that isn't want of memory is one of these
abbrev pub UnlessMemory : {T : Type 0} → Outcome T → Outcome T
UnlessMemory without s r t = IsNotMemory r → without s r t

-- Want of memory is caught by no parser: an answer that isn't want of memory comes of inner answers
-- that aren't either. Nor does a leaf tell it as another refusal.
abbrev pub MemoryIsNeverCaught : {T : Type 0} → Grammar T → Outcome T
MemoryIsNeverCaught (flag clones key present absent) s r t = IfErr r (ClonesNothing key absent s t)
MemoryIsNeverCaught (argument means key) s r t = IfErr r (FaultsTextAlone means key s t)
MemoryIsNeverCaught (word means position metavar help) s r t = IfErr r (FaultsWordAlone means s t)
MemoryIsNeverCaught (kept clones value) s r t = IfErr r (λ e. is_memory e.0 ≡ true)
MemoryIsNeverCaught (own o) s r t = o.spared s r t
MemoryIsNeverCaught (closed f g) s r t =
    UnlessMemory (step_outcome f (WithoutMemory (outcome_of g))) s r t
MemoryIsNeverCaught (made makes g) s r t =
    UnlessMemory (MadeOutcome (WithoutMemory (outcome_of g)) makes) s r t
MemoryIsNeverCaught (dressed look g) s r t =
    UnlessMemory (look_outcome look (WithoutMemory (outcome_of g))) s r t
MemoryIsNeverCaught (optional catch g) s r t =
    UnlessMemory (TurnOutcome (WithoutMemory (outcome_of g)) catch true) s r t
MemoryIsNeverCaught (fallback shown d g) s r t =
    UnlessMemory (FallbackOutcome (WithoutMemory (outcome_of g)) (default_gives d)) s r t
MemoryIsNeverCaught (repeat f g) s r t =
    UnlessMemory (repeat_outcome f (WithoutMemory (outcome_of g))) s r t
MemoryIsNeverCaught (last g) s r t =
    UnlessMemory (LastOutcome (WithoutMemory (outcome_of g))) s r t
MemoryIsNeverCaught (choice g h) s r t = UnlessMemory
    (ChoiceOutcome (WithoutMemory (outcome_of g)) (WithoutMemory (outcome_of h))) s r t
MemoryIsNeverCaught (only g) s r t = MemoryIsNeverCaught g s r t
MemoryIsNeverCaught (command {T = T} adjacent called info help g) s r t =
    UnlessMemory (EitherCommandOutcome adjacent T (WithoutMemory (outcome_of g))
    (EndsRun (describes_of g) info) called (CommandPart called help (describes_of g))) s r t
MemoryIsNeverCaught (stretch {T = T} first g) s r t =
    UnlessMemory (GroupOutcome T (WithoutMemory (outcome_of g)) first) s r t
MemoryIsNeverCaught (product makes g) s r t = UnlessMemory (ProductOutcome (spared_of g) makes) s r
    t

-- a repeat has at most one value more than items were present, and each but the first took an item
abbrev pub is_bounded_by : {A B : Type 0} → Repeat A B → Outcome A → Outcome B
is_bounded_by (many catch) inner s r t = IfOk r (λ values. IsBounded inner s values.items)
is_bounded_by (some catch message) inner s r t =
    IfOk r (λ values. IsBounded inner s values.items)
is_bounded_by (collect catch fills) inner s r t = CollectIsBounded inner catch fills s r t
is_bounded_by count inner s r t = Unit {0}

-- repeats are so
abbrev pub RepeatIsBounded : {T : Type 0} → Grammar T → Outcome T
RepeatIsBounded (repeat f g) s r t = is_bounded_by f (outcome_of g) s r t
RepeatIsBounded _ s r t = Unit {0}

-- where a default stands in for a value, or None does, all is as before
abbrev pub DefaultsTakeNothing : {T : Type 0} → Grammar T → Outcome T
DefaultsTakeNothing (optional catch g) s r t = NoneTakesNothing s r t
DefaultsTakeNothing (fallback shown d g) s r t = DefaultTakesNothing (outcome_of g) s r t
DefaultsTakeNothing _ s r t = Unit {0}

-- of two values of a choice that of the leftmost item is the answer
abbrev pub LeftmostIsAnswered : {T : Type 0} → Grammar T → Outcome T
LeftmostIsAnswered (choice g h) s r t = LeftmostWins (outcome_of g) (outcome_of h) s r t
LeftmostIsAnswered (only g) s r t = LeftmostIsAnswered g s r t
LeftmostIsAnswered _ s r t = Unit {0}

-- the key of an argument counts before its variables
abbrev pub KeyIsFirst : {T : Type 0} → Grammar T → Outcome T
KeyIsFirst (argument means key) s r t = KeyBeforeEnvironment means key s r t
KeyIsFirst _ s r t = Unit {0}

-- a value of a command leaves nothing in its scope
abbrev pub CommandLeavesNothing : {T : Type 0} → Grammar T → Outcome T
CommandLeavesNothing (command false called info help g) s r t = IfOk r (λ v. LeavesNothing s t)
CommandLeavesNothing _ s r t = Unit {0}

-- a value of an adjacent command, or of an adjacent group, newly took one stretch of places
abbrev pub TakesOneStretch : {T : Type 0} → Grammar T → Outcome T
TakesOneStretch (command true called info help g) s r t = IfOk r (λ v. IsStretch (newly s t))
TakesOneStretch (stretch first g) s r t = IfOk r (λ v. IsStretch (newly s t))
TakesOneStretch _ s r t = Unit {0}

-- what a command hands on is a failure of its own run inside
abbrev pub CommandNamesItsOwn : {T : Type 0} → Grammar T → Outcome T
CommandNamesItsOwn (command adjacent called info help g) s r t =
    IfErr r (λ e. NamesInside adjacent called (outcome_of g) (describes_of g) info s e.0)
CommandNamesItsOwn _ s r t = Unit {0}
