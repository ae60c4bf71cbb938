-- All values of a parser on the same words look alike, and its closures agree, where no part of it
-- can tell apart what looks alike.
use Rattle.bpaf_exact.proofs.OneView.{alone_view, argument_view, both_view, closed_view}
use Rattle.bpaf_exact.proofs.OneView.{command_view, con_view, fallback_view, field_view, flag_view}
use Rattle.bpaf_exact.proofs.OneView.{if_view, last_view, repeat_view, optional_field_view}
use Rattle.bpaf_exact.proofs.OneView.{view_agrees, word_view}
use Rattle.bpaf_exact.proofs.LastView.{program_either_view}
use Rattle.bpaf_exact.specs.Flat.{Variables, map_closure, Closure, Decides}
use Rattle.bpaf_exact.specs.ProgramForm.{AgreesRound, ProgramForm, choice_only}
use Rattle.bpaf_exact.specs.ProgramForm.{product as flat_product, part as part_alone}
use Rattle.bpaf_exact.specs.ProgramForm.{program_closed, program_repeat, program_dressed}
use Rattle.bpaf_exact.specs.ProgramForm.{program_field, program_optional}
use Rattle.bpaf_grammar.specs.Grammar.{Default, FieldsGrammar, Grammar, GrammarOf, Look, Repeat}
use Rattle.bpaf_grammar.specs.Grammar.{Step, alone, answered, argument, both, choice, cloned}
use Rattle.bpaf_grammar.specs.Grammar.{closed, collect, count, many, some, command, dressed}
use Rattle.bpaf_grammar.specs.Grammar.{fallback, flag, guarded, keys_of, kept, last, mapped, only}
use Rattle.bpaf_grammar.specs.Grammar.{optional, parsed, product, repeat, word}
use Rattle.bpaf_record.specs.Program.{agrees_of, are_unusual, catches, default_agrees}
use Rattle.bpaf_record.specs.Program.{default_closure, program_form, repeat_closure, step_agrees}
use Rattle.bpaf_record.specs.Program.{AgreesWith, part_form, step_closure, repeated_part}
use Rattle.bpaf_exact.proofs.PartView.{argument_part_view, both_part_view, choice_part_view}
use Rattle.bpaf_exact.proofs.PartView.{closed_part_view, default_part_view, flag_part_view}
use Rattle.bpaf_exact.proofs.PartView.{kept_part_view, last_part_view, optional_part_view}
use Rattle.bpaf_exact.proofs.PartView.{part_if_view, part_view_agrees, repeat_part_view}
use Rattle.std.proofs.Common.{Bool, List, Option, arith, map, not, true, false, ℕ, length, ◌≡◌}
use Rattle.std.specs.Prelude.{option_map}
use Rattle.bpaf_doc.specs.{declared.doc.Piece.Piece, Names.Names}
use Rattle.bpaf_keys.specs.Info.{RunInfo}
use Rattle.bpaf_laws.specs.{Reading.Outcome, Command.Called}
use Rattle.bpaf_text.specs.Named.{KeyWithValue, Named as Key}
use Rattle.bpaf_exact.proofs.{PartLast.argument_part_form_law, PartFlags.flag_part_form_law}
use Rattle.bpaf_exact.proofs.{PartView.some_part_view, OneView.or_part_view}
use Rattle.bpaf_exact.specs.Says.{Alike, HasOneView, Respects, pair_view, PartFormOneView}
use Rattle.bpaf_exact.specs.{Parts.PartForm, Parts.PartFormLaw, Flat.list_closure}
use Rattle.bpaf_grammar.specs.declared.position.Position.{Position}
use Rattle.bpaf_record.proofs.FormLaws.{fields_law, law_of, part_law_of}
use Rattle.bpaf.specs.Positional.{accepts}

-- of what is made so all values on the same words look alike
pub data SeenAs : (fields : Bool) → (T X : Type 0) → (T → X) → GrammarOf fields T → Type 1 where
  -- clones of one value look alike
  flag_seen : {T X : Type 0} {see : T → X} {clones : T → T → Type 0} {key : Key} {present : T}
      {absent : Option T} → ((value : T) → Alike see (clones value))
      → SeenAs false T X see (flag clones key present absent)
  -- the values that one text means look alike
  argument_seen : {T X : Type 0} {see : T → X} {means : List ℕ → T → Type 0} {key : KeyWithValue}
      → ((text : List ℕ) → Alike see (means text)) → SeenAs false T X see (argument means key)
  word_seen : {T X : Type 0} {see : T → X} {means : List ℕ → T → Type 0} {position : Position}
      {metavar : List ℕ} {help : Option (List Piece)}
      → ((text : List ℕ) → Alike see (means text))
      → SeenAs false T X see (word means position metavar help)
  kept_seen : {T X : Type 0} {see : T → X} {clones : T → T → Type 0} {value : T}
      → Alike see (clones value) → SeenAs false T X see (kept clones value)
  -- the closure can't tell apart what looks alike
  closed_seen : {A B X Y : Type 0} {see : A → X} {look : B → Y} {f : Step A B} {g : Grammar A}
      → Respects A B X Y see look (step_closure f) → SeenAs false A X see g
      → SeenAs false B Y look (closed f g)
  dressed_seen : {T X : Type 0} {see : T → X} {look : Look} {g : Grammar T}
      → SeenAs false T X see g → SeenAs false T X see (dressed look g)
  optional_seen : {T X : Type 0} {see : T → X} {catch : Bool} {g : Grammar T}
      → SeenAs false T X see g
      → SeenAs false (Option T) (Option X) (option_map see) (optional catch g)
  -- what stands in looks alike, and is always there or never
  fallback_seen : {T X : Type 0} {see : T → X} {shown : Option (List Piece)} {d : Default T}
      {g : Grammar T} → Alike see (λ v. (default_closure d).yes tt v) → default_agrees d (Unit {0})
      → SeenAs false T X see g → SeenAs false T X see (fallback shown d g)
  repeat_seen : {A B X Y : Type 0} {see : A → X} {look : B → Y} {f : Repeat A B} {g : Grammar A}
      → Respects (List A) B (List X) Y (map see) look (repeat_closure f) → SeenAs false A X see g
      → SeenAs false B Y look (repeat f g)
  last_seen : {T X : Type 0} {see : T → X} {g : Grammar T} → SeenAs false T X see g
      → SeenAs false T X see (last g)
  choice_seen : {T X : Type 0} {see : T → X} {g h : Grammar T} → SeenAs false T X see g
      → SeenAs false T X see h → SeenAs false T X see (choice g h)
  only_seen : {T X : Type 0} {see : T → X} {g : Grammar T} → SeenAs false T X see g
      → SeenAs false T X see (only g)
  command_seen : {T X : Type 0} {see : T → X} {adjacent : Bool} {called : Called} {info : RunInfo}
      {help : Option (List Piece)} {g : Grammar T} → SeenAs false T X see g
      → SeenAs false T X see (command adjacent called info help g)
  alone_seen : {T X : Type 0} {see : T → X} {g : Grammar T} → SeenAs false T X see g
      → SeenAs true T X see (alone g)
  both_seen : {A B X Y : Type 0} {see : A → X} {look : B → Y} {g : Grammar A} {h : FieldsGrammar B}
      → SeenAs false A X see g → SeenAs true B Y look h
      → SeenAs true (A × B) (X × Y) (pair_view see look) (both g h)
  product_seen : {A B X Y : Type 0} {see : A → X} {look : B → Y} {makes : A → B → Type 0}
      {g : FieldsGrammar A} → Respects A B X Y see look (map_closure makes) → SeenAs true A X see g
      → SeenAs false B Y look (product makes g)

-- a view of a parser's values by which those of one line look alike
abbrev pub IsSeen : {fields : Bool} {T X : Type 0} → (T → X) → GrammarOf fields T → Type 1
IsSeen {fields = fields} {T = T} {X = X} see g = SeenAs fields T X see g

-- A closure that doesn't refuse what it may accept, and has one answer to each value, makes one value
-- of one.
pub closed_once : {A B : Type 0} {f : Step A B} {g : Grammar A} → Decides (step_closure f)
    → ((x : A) (v w : B) → (step_closure f).yes x v → (step_closure f).yes x w → v ≡ w)
    → IsSeen (λ v. v) g → IsSeen (λ v. v) (closed f g)
closed_once {f} decides once is = closed_seen {f = f} (record {
  same = λ x y v w e a b. once x v w a (rw e b);
  apart = λ x y v e a n. decides x v a (rw e n);
}) is

-- a closure that can't tell apart what looks alike agrees
agrees_on : {A B X : Type 0} {see : A → X} {f : Closure A B}
    → ((x y : A) (v : B) → see x ≡ see y → f.yes x v → f.no y → ⊥) → (form : ProgramForm A)
    (part : PartForm A) → HasOneView see form → PartFormOneView see part → AgreesRound f form part
agrees_on apart (flat_product wide named q fields) part one parts =
    part_view_agrees apart part parts
agrees_on apart (part_alone p) part one parts = part_view_agrees apart part parts
agrees_on apart form part one parts = view_agrees apart form one

-- a closure round a parser agrees where it can't tell apart what looks alike
step_agrees_on : {A B X Y : Type 0} (f : Step A B) (g : Grammar A) {see : A → X} {look : B → Y}
    {premise : Type 0} → Respects A B X Y see look (step_closure f) → premise
    → ((variables : Variables) → HasOneView see (program_form g variables))
    → ((variables : Variables) → PartFormOneView see (part_form g variables))
    → step_agrees f g premise
step_agrees_on (mapped answers) g respects inner one parts = inner
step_agrees_on (parsed answers shown) g respects inner one parts = (
  inner,
  record {
    by = λ variables. agrees_on respects.apart _ _ (one variables)
        (parts variables);
  },
)
step_agrees_on (guarded checks message) g respects inner one parts = (
  inner,
  record {
    by = λ variables. agrees_on respects.apart _ _ (one variables)
        (parts variables);
  },
)

-- what is made of a list of entries
repeated_view : {env : Variables} {A B X Y : Type 0} (see : A → X) {look : B → Y} (f : Repeat A B)
    {inner : Outcome A} {names : List Names} {form : PartForm A}
    → Respects (List A) B (List X) Y (map see) look (repeat_closure f)
    → PartFormLaw env inner names form → PartFormOneView see form
    → PartFormOneView look (repeated_part f form)
repeated_view see {look = look} (many {T = T} catch) respects l u = part_if_view look (not catch) _
    (repeat_part_view see (list_closure T) respects l u)
repeated_view see {look = look} (some catch message) respects l u =
    part_if_view look (not catch) _ (some_part_view see respects l u)
repeated_view see {look = look} (collect catch fills) respects l u =
    part_if_view look (not catch) _ (repeat_part_view see (map_closure fills) respects l u)
repeated_view see count respects l u =
    repeat_part_view see (map_closure (λ values n. n ≡ length values)) respects l u

-- a closure that stands in for a value agrees
default_agrees_on : {T : Type 0} (d : Default T) {premise : Type 0} → premise
    → default_agrees d (Unit {0}) → default_agrees d premise
default_agrees_on (cloned clones value) inner agrees = inner
default_agrees_on (answered answers shown) inner agrees = (inner, agrees.1)

-- it doesn't refuse where it may give one
default_decides : {T : Type 0} (d : Default T) → default_agrees d (Unit {0})
    → Decides (default_closure d)
default_decides (cloned clones value) agrees u v y n = n
default_decides (answered answers shown) agrees u v y n = agrees.1 v n.0 y n.1

-- another look changes no value
dressed_view : {T X : Type 0} (see : T → X) (s : ProgramForm T) → HasOneView see s
    → HasOneView see (program_dressed s)
dressed_view see s one = grind arith

-- a choice of one changes no value
only_view : {T X : Type 0} (see : T → X) (s : ProgramForm T) → HasOneView see s
    → HasOneView see (choice_only s)
only_view see s one = grind arith

mutual
  -- its closures agree
  pub agrees_seen : {fields : Bool} {T X : Type 0} {see : T → X} {g : GrammarOf fields T}
      → SeenAs fields T X see g → agrees_of g
  agrees_seen (flag_seen one) = tt
  agrees_seen (argument_seen one) = tt
  agrees_seen (word_seen one) = tt
  agrees_seen (kept_seen one) = tt
  agrees_seen (closed_seen {f = f} {g = g} respects is) =
      step_agrees_on f g respects (agrees_seen is)
      (view_seen is)
      (part_seen is)
  agrees_seen (dressed_seen is) = agrees_seen is
  agrees_seen (optional_seen is) = agrees_seen is
  agrees_seen (fallback_seen {d = d} one agrees is) = default_agrees_on d (agrees_seen is) agrees
  agrees_seen (repeat_seen respects is) = agrees_seen is
  agrees_seen (last_seen is) = agrees_seen is
  agrees_seen (choice_seen is other) = (agrees_seen is, agrees_seen other)
  agrees_seen (only_seen is) = agrees_seen is
  agrees_seen (command_seen is) = agrees_seen is
  agrees_seen (alone_seen is) = agrees_seen is
  agrees_seen (both_seen is more) = (agrees_seen is, agrees_seen more)
  agrees_seen (product_seen respects is) = agrees_seen is

  -- the values of the part that it is look alike
  pub part_seen : {fields : Bool} {T X : Type 0} {see : T → X} {g : GrammarOf fields T}
      → SeenAs fields T X see g → (variables : Variables)
      → PartFormOneView see (part_form g variables)
  part_seen (flag_seen {see = see} {clones = clones} {key = key} {present = present}
      {absent = absent} one) variables = flag_part_view see clones one key present absent variables
      (flag_part_form_law clones key present absent variables)
  part_seen (argument_seen {T = T} {see = see} {means = means} {key = key} one) variables =
      argument_part_view see means one key variables (argument_part_form_law variables T means key)
  part_seen (word_seen one) variables = tt
  part_seen (kept_seen {see = see} {clones = clones} {value = value} one) variables =
      kept_part_view see (clones value) one
  part_seen (closed_seen {see = see} {f = f} {g = g} respects is) variables = closed_part_view see
      (step_closure f) respects (part_law_of g (agrees_seen is) variables) (part_seen is variables)
  part_seen (dressed_seen is) variables = part_seen is variables
  part_seen (optional_seen {see = see} {catch = catch} {g = g} is) variables =
      part_if_view (option_map see) (not catch) _
      (optional_part_view see (part_law_of g (agrees_seen is) variables) (part_seen is variables))
  part_seen (fallback_seen {see = see} {d = d} {g = g} one agrees is) variables = default_part_view
      see (default_closure d) (default_decides d agrees) one
      (part_law_of g (agrees_seen is) variables) (part_seen is variables)
  part_seen (repeat_seen {see = see} {f = f} {g = g} respects is) variables =
      repeated_view see f respects (part_law_of g (agrees_seen is) variables)
      (part_seen is variables)
  part_seen (last_seen {see = see} {g = g} is) variables =
      last_part_view see (part_law_of g (agrees_seen is) variables) (part_seen is variables)
  part_seen (choice_seen {see = see} {g = g} {h = h} is other) variables = choice_part_view see
      (part_law_of g (agrees_seen is) variables) (part_law_of h (agrees_seen other) variables)
      (part_seen is variables) (part_seen other variables)
  part_seen (only_seen is) variables = part_seen is variables
  part_seen (command_seen is) variables = tt
  part_seen (alone_seen is) variables = part_seen is variables
  part_seen (both_seen {see = see} {look = look} {g = g} {h = h} is more) variables =
      both_part_view see look (part_law_of g (agrees_seen is) variables)
      (part_law_of h (agrees_seen more) variables) (part_seen is variables)
      (part_seen more variables)
  part_seen (product_seen {see = see} {makes = makes} {g = g} respects is) variables =
      closed_part_view see (map_closure makes) respects
      (part_law_of g (agrees_seen is) variables) (part_seen is variables)

  -- its values look alike
  pub view_seen : {fields : Bool} {T X : Type 0} {see : T → X} {g : GrammarOf fields T}
      → SeenAs fields T X see g → (variables : Variables)
      → HasOneView see (program_form g variables)
  view_seen (flag_seen {T = T} {X = X} {see = see} {clones = clones} {key = key} {present = present}
      {absent = absent} one) variables = flag_view T X see clones one key present absent variables
  view_seen (argument_seen {T = T} {X = X} {see = see} {means = means} {key = key} one) variables =
      argument_view T X see means one key variables
  view_seen (word_seen {T = T} {X = X} {see = see} {means = means} {position = position} one)
      variables = word_view T X see (accepts position) means one
  view_seen (kept_seen one) variables = λ os. one
  view_seen (closed_seen {A = A} {B = B} {X = X} {Y = Y} {see = see} {look = look} {f = f} {g = g}
      respects is) variables = or_part_view look _ _
      (closed_view A B X Y see look (step_closure f) respects
      (program_form g variables) (view_seen is variables)) (closed_part_view see
      (step_closure f) respects (part_law_of g (agrees_seen is) variables) (part_seen is variables))
  view_seen (dressed_seen {see = see} {g = g} is) variables =
      dressed_view see (program_form g variables) (view_seen is variables)
  view_seen (optional_seen {see = see} {catch = catch} {g = g} is) variables =
      or_part_view (option_map see) _ _
      (if_view (option_map see) (program_optional (program_form g variables)) (not catch)
      (optional_field_view see (law_of g (agrees_seen is) variables) (view_seen is variables)))
      (part_if_view (option_map see) (not catch) _
      (optional_part_view see (part_law_of g (agrees_seen is) variables) (part_seen is variables)))
  view_seen (fallback_seen {see = see} {d = d} {g = g} one agrees is) variables =
      or_part_view see _ _ (fallback_view see (default_closure d) one
      (law_of g (agrees_seen is) variables) (view_seen is variables))
      (default_part_view see (default_closure d) (default_decides d agrees) one
      (part_law_of g (agrees_seen is) variables) (part_seen is variables))
  view_seen (repeat_seen {A = A} {B = B} {X = X} {Y = Y} {see = see} {look = look} {f = f} {g = g}
      respects is) variables =
      let lists = program_repeat (program_form g variables) in
      or_part_view look _ _
      (if_view look (program_closed (repeat_closure f) lists) (not (catches f))
      (closed_view (List A) B (List X) Y (map see) look (repeat_closure f) respects lists
      (repeat_view see (law_of g (agrees_seen is) variables) (view_seen is variables))))
      (repeated_view see f respects (part_law_of g (agrees_seen is) variables)
      (part_seen is variables))
  view_seen (last_seen {see = see} {g = g} is) variables =
      or_part_view see _ _ (last_view see (law_of g (agrees_seen is) variables)
      (view_seen is variables))
      (last_part_view see (part_law_of g (agrees_seen is) variables) (part_seen is variables))
  view_seen (choice_seen {see = see} {g = g} {h = h} is other) variables =
      or_part_view see _ _ (program_either_view see (part_form g variables)
      (part_form h variables) (program_form g variables) (program_form h variables)
      (law_of g (agrees_seen is) variables) (law_of h (agrees_seen other) variables)
      (part_law_of g (agrees_seen is) variables) (part_law_of h (agrees_seen other) variables)
      (part_seen is variables) (part_seen other variables) (view_seen is variables)
      (view_seen other variables)) (choice_part_view see
      (part_law_of g (agrees_seen is) variables) (part_law_of h (agrees_seen other) variables)
      (part_seen is variables) (part_seen other variables))
  view_seen (only_seen {see = see} {g = g} is) variables =
      or_part_view see _ _ (only_view see (program_form g variables) (view_seen is variables))
      (part_seen is variables)
  view_seen (command_seen {see = see} {adjacent = adjacent} {called = called} {info = info} {g = g}
      is) variables = command_view see adjacent (are_unusual (keys_of g false) info) called
      (program_form g variables) (law_of g (agrees_seen is) variables) (view_seen is variables)
  view_seen (alone_seen {see = see} {g = g} is) variables =
      alone_view see (program_field (program_form g variables))
      (field_view see (law_of g (agrees_seen is) variables) (view_seen is variables))
  view_seen (both_seen {A = A} {B = B} {X = X} {Y = Y} {see = see} {look = look} {g = g} {h = h} is
      more) variables = or_part_view (pair_view see look) _ _
      (both_view A B X Y see look (keys_of g true) (keys_of h true)
      (program_field (program_form g variables)) (program_form h variables)
      (fields_law h (law_of h (agrees_seen more) variables))
      (field_view see (law_of g (agrees_seen is) variables) (view_seen is variables))
      (view_seen more variables))
      (both_part_view see look (part_law_of g (agrees_seen is) variables)
      (part_law_of h (agrees_seen more) variables) (part_seen is variables)
      (part_seen more variables))
  view_seen (product_seen {A = A} {B = B} {X = X} {Y = Y} {see = see} {look = look} {makes = makes}
      {g = g} respects is) variables = or_part_view look _ _
      (con_view A B X Y see look (map_closure makes) respects
      (program_form g variables) (view_seen is variables))
      (closed_part_view see (map_closure makes) respects
      (part_law_of g (agrees_seen is) variables) (part_seen is variables))

-- A closure that doesn't refuse what it may accept agrees round a parser that has one value on each
-- line.
pub decides_once : {A B : Type 0} {f : Closure A B} {g : Grammar A} → Decides f
    → IsSeen (λ v. v) g → AgreesWith f g
decides_once decides is = record {
  by = λ variables. agrees_on (λ x y v e a n. decides x v a (rw e n)) _ _ (view_seen is variables)
      (part_seen is variables);
}
