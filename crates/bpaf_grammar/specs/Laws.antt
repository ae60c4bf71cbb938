-- Each parser that a grammar tells of keeps to the laws, and shows its short names.
use Rattle.bpaf_laws.proofs.ShownNames.{group_shows, argument_shows, both_show, choice_shows}
use Rattle.bpaf_laws.proofs.ShownNames.{command_shows, default_shows, flag_shows, last_shows}
use Rattle.bpaf_laws.proofs.ShownNames.{many_shows, one_shape, optional_shows, product_shows}
use Rattle.bpaf_laws.proofs.CombinatorLaws.{collect_lawful, count_lawful, fallback_lawful}
use Rattle.bpaf_laws.proofs.CombinatorLaws.{guard_lawful, hide_lawful, last_lawful, made_lawful}
use Rattle.bpaf_laws.proofs.CombinatorLaws.{many_lawful, map_lawful, names_answer, optional_lawful}
use Rattle.bpaf_grammar.specs.Grammar.{Default, FieldsGrammar, Grammar, GrammarOf, Look, Repeat}
use Rattle.bpaf_grammar.specs.Grammar.{Step, stretch, alone, answered, argument, both, choice}
use Rattle.bpaf_grammar.specs.Grammar.{cloned, closed, collect, command, count, default_gives}
use Rattle.bpaf_grammar.specs.Grammar.{describes_of, dressed, fallback, fast_outcome_of, flag}
use Rattle.bpaf_grammar.specs.Grammar.{guarded, hide, kept, last, look_describes, look_outcome}
use Rattle.bpaf_grammar.specs.Grammar.{look_shorts, made, many, mapped, only, optional, outcome_of}
use Rattle.bpaf_grammar.specs.Grammar.{own, parsed, product, reads_of, repeat, repeat_describes}
use Rattle.bpaf_grammar.specs.Grammar.{repeat_outcome, repeat_reads, section, shorts_of, some}
use Rattle.bpaf_laws.specs.Laws.{FieldsShowNames, Lawful, ShowsNames, Spares}
use Rattle.bpaf_laws.specs.{Combinators.MapReads, Combinators.NamesGiven, Command.CommandPart}
use Rattle.bpaf_laws.specs.Reading.{Outcome, Readings}
use Rattle.bpaf_laws.proofs.ProductLaws.{both_lawful, both_spares, fail_fast_lawful, product_lawful}
use Rattle.bpaf_laws.proofs.ShownNames.{section_shows, some_shows, titled_shows, usage_shows}
use Rattle.bpaf_laws.proofs.CombinatorLaws.{parse_lawful, some_lawful}
use Rattle.bpaf_laws.proofs.{LeafLaws.flag_lawful, LeafLaws.pure_lawful, AdjacentLaws.group_lawful}
use Rattle.bpaf_laws.proofs.{ArgumentLaws.argument_lawful, ChoiceLaws.choice_lawful}
use Rattle.bpaf_laws.proofs.Keeping.{names_want}
use Rattle.bpaf_grammar.specs.Grammar.{spared_of, step_outcome, step_reads, titled, usage, word}
use Rattle.bpaf_grammar.specs.Positional.{positional_lawful, positional_shows}
use Rattle.bpaf_grammar.specs.{AdjacentLaws.either_lawful, Ending.run_ending, Own.MadeOutcome}
use Rattle.std.specs.Prelude.{Bool, refl}
use Rattle.std.proofs.Common.{⊎_elim, inl, inr}
use Rattle.bpaf_doc.specs.Shape.{Shape}
use Rattle.bpaf_words.specs.Line.{ShortNames}

-- a closure round a lawful parser keeps to the laws
step_lawful : {A B : Type 0} (f : Step A B) {inner : Outcome A} {reads : Readings A}
    → Lawful A inner reads → Lawful B (step_outcome f inner) (step_reads f reads)
step_lawful (mapped answers) law = map_lawful law answers
step_lawful (parsed answers shown) law = parse_lawful law answers shown
step_lawful (guarded checks message) law = guard_lawful law checks message

-- of a repeat
repeat_lawful : {A B : Type 0} (f : Repeat A B) {inner : Outcome A} {reads : Readings A}
    → Lawful A inner reads → Lawful B (repeat_outcome f inner) (repeat_reads f reads)
repeat_lawful (many catch) law = many_lawful law catch
repeat_lawful (some catch message) law = some_lawful law catch message
repeat_lawful (collect catch fills) law = collect_lawful law catch fills
repeat_lawful count law = count_lawful law

-- of a value for which memory may be wanted
value_lawful : {A B : Type 0} {inner : Outcome A} {reads : Readings A} (makes : A → B → Type 0)
    → Lawful A inner reads → Lawful B (MadeOutcome inner makes) (MapReads A B reads makes)
value_lawful makes law = made_lawful law makes (λ s t v o. o) (λ s t e o.
    ⊎_elim inl (λ wanted. inr (wanted.0, wanted.1, names_want _ e.0 wanted.2)) o)

-- a default gives no answer of a run inside
default_names : {T : Type 0} (d : Default T) → NamesGiven (default_gives d)
default_names (cloned clones value) context e given = names_want context e.0 given
default_names (answered answers shown) context e given = names_answer answers shown context e given

-- another look changes no law
look_lawful : {T : Type 0} {inner : Outcome T} {reads : Readings T} (look : Look)
    → Lawful T inner reads → Lawful T (look_outcome look inner) reads
look_lawful hide law = hide_lawful law
look_lawful _ law = law

-- the laws of a parser, and of fields
pub lawful_of : {fields : Bool} {T : Type 0} (g : GrammarOf fields T)
    → Lawful T (outcome_of g) (reads_of g)
lawful_of (flag {T = T} clones key present absent) = flag_lawful T clones key present absent
lawful_of (argument {T = T} means key) = argument_lawful T means key
lawful_of (word {T = T} means position metavar help) = positional_lawful T means position metavar
lawful_of (kept clones value) = pure_lawful _ (λ context e. names_want context e.0)
lawful_of (own o) = o.lawful
lawful_of (closed f g) = step_lawful f (lawful_of g)
lawful_of (made makes g) = value_lawful makes (lawful_of g)
lawful_of (dressed look g) = look_lawful look (lawful_of g)
lawful_of (optional catch g) = optional_lawful (lawful_of g) catch
lawful_of (fallback shown d g) = fallback_lawful (lawful_of g) (default_gives d) (default_names d)
lawful_of (repeat f g) = repeat_lawful f (lawful_of g)
lawful_of (last g) = last_lawful (lawful_of g)
lawful_of (choice g h) = choice_lawful (lawful_of g) (lawful_of h)
lawful_of (only g) = lawful_of g
lawful_of (command adjacent called info help g) =
    either_lawful (lawful_of g) (run_ending (describes_of g) info) called
    (CommandPart called help (describes_of g)) adjacent
lawful_of (stretch first g) = group_lawful first (lawful_of g)
lawful_of (alone g) = lawful_of g
lawful_of (both g h) = both_lawful (lawful_of g) (lawful_of h)
lawful_of (product makes g) = product_lawful makes (lawful_of g)

-- the laws of fields of which a failing first one is the end
pub fast_lawful_of : {fields : Bool} {T : Type 0} (g : GrammarOf fields T)
    → Lawful T (fast_outcome_of g) (reads_of g)
fast_lawful_of (both g h) = fail_fast_lawful (lawful_of g) (lawful_of h)
fast_lawful_of g = lawful_of g

-- a repeat shows the names of what is repeated
repeat_shows : {A B : Type 0} {inner : Shape → Type 0} {names : ShortNames} (f : Repeat A B)
    → ShowsNames inner names → ShowsNames (repeat_describes f inner) names
repeat_shows (some catch message) shows = some_shows shows
repeat_shows _ shows = many_shows shows

-- with another look a parser shows the names of that look
look_shows : {inner : Shape → Type 0} {names : ShortNames} (look : Look) → ShowsNames inner names
    → ShowsNames (look_describes look inner) (look_shorts look names)
look_shows hide shows = one_shape refl
look_shows (usage text) shows = usage_shows shows text
look_shows (section title) shows = section_shows shows title
look_shows (titled answers) shows = titled_shows shows answers

mutual
  -- whichever shape a parser shows, these are its short names
  pub shows_of : {T : Type 0} (g : Grammar T) → ShowsNames (describes_of g) (shorts_of g)
  shows_of (flag clones key present absent) = flag_shows key absent
  shows_of (argument means key) = argument_shows key
  shows_of (word means position metavar help) = positional_shows position metavar help
  shows_of (kept clones value) = one_shape refl
  shows_of (own o) = o.shows
  shows_of (closed f g) = shows_of g
  shows_of (made makes g) = shows_of g
  shows_of (dressed look g) = look_shows look (shows_of g)
  shows_of (optional catch g) = optional_shows (shows_of g)
  shows_of (fallback shown d g) = default_shows (shows_of g) shown
  shows_of (repeat f g) = repeat_shows f (shows_of g)
  shows_of (last g) = some_shows (shows_of g)
  shows_of (choice g h) = choice_shows (shows_of g) (shows_of h)
  shows_of (only g) = shows_of g
  shows_of (command adjacent called info help g) = command_shows (shows_of g) called help
  shows_of (stretch first g) = group_shows (shows_of g)
  shows_of (product makes g) = product_shows (fields_show g)

  -- whichever shapes fields show, these are their short names
  pub fields_show : {V : Type 0} (g : FieldsGrammar V)
      → FieldsShowNames (describes_of g) (shorts_of g)
  fields_show (alone g) = last_shows (shows_of g)
  fields_show (both g h) = both_show (shows_of g) (fields_show h)

-- no field catches want of memory
pub spares_fields : {V : Type 0} (g : FieldsGrammar V) → Spares (outcome_of g) (spared_of g)
spares_fields (alone g) s t r o spared = (o, spared)
spares_fields (both g h) s t r o spared =
    both_spares (outcome_of g) (outcome_of h) (spared_of h) (spares_fields h) s t r o spared
