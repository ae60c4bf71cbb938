-- What the combinators make of a part of a program, a choice of any number of parsers among them.
use Rattle.std.proofs.Common.{slice_index_or, if◌then◌else◌, append_assoc, append-nil, flat_map, []}
use Rattle.std.proofs.Common.{length, false, arith, Bool, true, ◌&&◌, List, ◌++◌, refl, zero, take}
use Rattle.std.proofs.Common.{◌≡◌, ◌||◌, not, ◌∷◌, sym, ◌∙◌, suc, ◌+◌, ◌<◌, ◌≤◌, ap, ℕ}
use Rattle.bpaf_exact.specs.Flat.{FallbackValue, FieldKind, repeated, Closure, Groups, Gap}
use Rattle.bpaf_exact.specs.Flat.{OptionalValue, Variables, map_closure, list_closure, some_closure}
use Rattle.bpaf_exact.specs.ProgramForm.{program_command, program_closed, program_either, completed}
use Rattle.bpaf_exact.specs.ProgramForm.{program_alone, program_field, program_both, choice_only}
use Rattle.bpaf_exact.specs.ProgramForm.{program_dressed, are_words_apart, program_con, ProgramForm}
use Rattle.bpaf_exact.specs.ProgramForm.{program_if, is_program, program_default, program_repeat}
use Rattle.bpaf_exact.specs.ProgramForm.{DefaultCommands, OptionalCommands, may_follow, is_record}
use Rattle.bpaf_exact.specs.ProgramForm.{are_plain, has_part, is_named, key_field, or_part}
use Rattle.bpaf_exact.specs.ProgramForm.{CellsValue, commands, alternative, no_program, as_last}
use Rattle.bpaf_exact.specs.ProgramForm.{both_last, is_commands, last_choice, or_form}
use Rattle.bpaf_exact.specs.ProgramForm.{program_choice}
use Rattle.bpaf_record.specs.Part.{dressed_part, command_part, closed_part, chosen_part, field_part}
use Rattle.bpaf_record.specs.Part.{before_part, only_part, last_part, made_part, may_stand, kind_of}
use Rattle.bpaf_record.specs.Part.{is_program_part, completed_part, is_record_part, form_part}
use Rattle.bpaf_record.specs.Part.{part_if, has_named_part}
use Rattle.bpaf_grammar.specs.Grammar.{command_words, choices_of, FieldsGrammar, Grammar, GrammarOf}
use Rattle.bpaf_grammar.specs.Grammar.{alone, argument, both, choice, closed, collect, command}
use Rattle.bpaf_grammar.specs.Grammar.{count, dressed, fallback, flag, keys_of, last, many, only}
use Rattle.bpaf_grammar.specs.Grammar.{optional, product, repeat, some, Repeat}
use Rattle.bpaf_record.specs.Program.{are_unusual, catches, default_closure, part_form}
use Rattle.bpaf_record.specs.Program.{program_form, repeat_closure, repeated_part, step_closure}
use Rattle.std.proofs.{lemmas.List.Folds.list_all-append, lemmas.List.take_more}
use Rattle.std.specs.List.{list_all}
use Rattle.bpaf_grammar.proofs.Choices.{nested_more}
use Rattle.bpaf_doc.specs.Names.{Names}
use Rattle.bpaf_laws.specs.{Command.opening_words, Command.Called, Choice.Nested}
use Rattle.bpaf_exact.specs.{Pieces.are_all_apart, Pieces.LinePiece, Flat.LastOf}
use Rattle.bpaf_record.specs.declared.part.ProgramPart.{ProgramPart as Told}
use Rattle.bpaf_exact.specs.Parts as parts
use Rattle.bpaf_exact.specs.Parts.{Part, PartForm, is_part, of_part, of_parts, part_choice}
use Rattle.bpaf_exact.specs.Parts.{part_closed, part_default, part_group, part_last, part_optional}
use Rattle.bpaf_exact.specs.Parts.{part_repeat, part_some, no_part, some_part}
use Rattle.bpaf_exact.specs.Pieces.{Roles}
use Rattle.bpaf_record.specs.declared.part.ProgramPart.TheVariants as ProgramPart
use Rattle.std.specs.Option.{is_none}
use Rattle.bpaf_laws.specs.Combinators.{is_nil}

-- where a test holds
if_is : {T : Type 0} (b : Bool) (s : ProgramForm T)
    → part_if b (form_part s) ≡ form_part (program_if b s)
if_is b s = grind arith

-- a repeated word is a word
repeated_is : (k : FieldKind) → kind_of k ≡ kind_of (repeated k)
repeated_is s = grind arith

-- a flat record
pub record_part_is : {T : Type 0} (s : ProgramForm T) → is_record_part (form_part s) ≡ is_record s
record_part_is s = grind arith

-- a program
pub program_part_is : {T : Type 0} (s : ProgramForm T) → is_program_part (form_part s)
    ≡ is_program s
program_part_is s = grind arith

-- A form is a named part just where the parser is one.

-- a form, and what may be a part
abbrev pub Fits : {T : Type 0} → ProgramForm T → PartForm T → Type 0
Fits s p = is_part p ≡ has_part s

-- that of the form
has_is : {T : Type 0} (s : ProgramForm T) → has_named_part (form_part s) ≡ has_part s
has_is s = grind arith

-- a key
key_fits : {T : Type 0} (wide may_choose : Bool) (q : Roles) (each : LinePiece → T → Type 0)
    (group : Groups T) (gap : Gap T)
    → true ≡ has_part (key_field wide may_choose q each group gap)
key_fits wide true q each group gap = refl
key_fits wide false q each group gap = refl

-- where a test holds
if_fits : {T : Type 0} (b : Bool) (s : ProgramForm T) (p : PartForm T) → Fits (or_part s p) p
    → Fits (or_part (program_if b s) (parts.part_if b p)) (parts.part_if b p)
if_fits true s p h = h
if_fits false s p h = refl

-- where a test holds
if_part_is : {T : Type 0} (b : Bool) {x : Told} (s : ProgramForm T) (p : PartForm T)
    → x ≡ form_part (or_part s p)
    → part_if b x ≡ form_part (or_part (program_if b s) (parts.part_if b p))
if_part_is true s p h = h
if_part_is false s p h = refl

module _ {A B : Type 0} (s : ProgramForm A) (p : PartForm A) (fits : Fits s p)
    (more : Part A → Part B) where
  -- a closure
  closed_fits : (f : Closure A B)
      → Fits (or_part (program_closed f s) (of_part more p)) (of_part more p)
  closed_fits f = grind arith

  -- a closure
  closed_is : (f : Closure A B)
      → closed_part (form_part s) ≡ form_part (or_part (program_closed f s) (of_part more p))
  closed_is f = grind arith

  -- a repeat or a default of a kind
  completed_fits : (kind : FieldKind → FieldKind)
      (value : Groups A → Gap A → List LinePiece → B → Type 0) (round : CellsValue A → CellsValue B)
      → ((k : FieldKind) → is_named k ≡ is_named (kind k))
      → Fits (or_part (completed kind value round s) (of_part more p)) (of_part more p)
  completed_fits kind value round same = grind arith

  -- a repeat or a default of a kind
  completed_is : (kind : FieldKind → FieldKind)
      (value : Groups A → Gap A → List LinePiece → B → Type 0) (round : CellsValue A → CellsValue B)
      → ((k : FieldKind) → kind_of k ≡ kind_of (kind k)) → completed_part (form_part s)
      ≡ form_part (or_part (completed kind value round s) (of_part more p))
  completed_is kind value round same = grind arith

  -- a constructor
  con_fits : (f : Closure A B) → Fits (or_part (program_con f s) (of_part more p)) (of_part more p)
  con_fits f = grind arith

  -- a constructor
  con_is : (f : Closure A B)
      → made_part (form_part s) ≡ form_part (or_part (program_con f s) (of_part more p))
  con_is f = grind arith

-- a closure on the list of a repeat
module _ {A B : Type 0} (s : ProgramForm A) (p : PartForm A) (fits : Fits s p)
    (more : Part A → Part B) (f : Closure (List A) B) where
  -- the list of a repeat with a closure
  listed_fits : Fits (or_part (program_closed f (program_repeat s))
      (of_part more p)) (of_part more p)
  listed_fits = grind arith

  -- the same
  listed_is : completed_part (form_part s)
      ≡ form_part (or_part (program_closed f (program_repeat s)) (of_part more p))
  listed_is = grind (arith, repeated_is)

module _ {T : Type 0} (s : ProgramForm T) (p : PartForm T) (fits : Fits s p) where
  -- one parser of a choice
  only_fits : Fits (or_part (choice_only s) p) p
  only_fits = grind arith

  -- one parser of a choice
  only_is : only_part (form_part s) ≡ form_part (or_part (choice_only s) p)
  only_is = grind arith

  -- another look
  dressed_fits : Fits (program_dressed s) p
  dressed_fits = grind arith

  -- the last field
  alone_fits : Fits (program_alone (program_field s)) p
  alone_fits = grind arith

-- it is nothing, or a choice of named parts and commands
abbrev is_chosen : {T : Type 0} → ProgramForm T → Bool
is_chosen no_program = true
is_chosen (last_choice p own value) = true
is_chosen _ = false

-- two such together are
both_chosen : {T : Type 0} (b : Bool) (s t : ProgramForm T)
    → is_chosen (program_if b (both_last s t)) ≡ true
both_chosen b s t = grind arith

-- which leaves a part what it is
or_fits : {T : Type 0} (s t : ProgramForm T) (p : PartForm T) → is_chosen t ≡ true
    → Fits (or_part s p) p → Fits (or_part (or_form s t) p) p
or_fits s t p chosen fits = grind arith

-- a choice of two
module _ {T : Type 0} (own others : List Names) (words more : List (List ℕ)) (s t : ProgramForm T)
    (p r : PartForm T) (fits : Fits s p) (fit : Fits t r) where
  -- a choice of two
  choice_fits : Fits (or_part (program_either own others words more p r s t)
      (parts.part_if (are_all_apart own others) (of_parts part_choice p r)))
      (parts.part_if (are_all_apart own others) (of_parts part_choice p r))
  choice_fits = or_fits (program_choice own others words more s t) _ _
      (both_chosen (are_words_apart words more
      && (are_all_apart own others || (is_commands s || is_commands t))) (as_last words p s)
      (as_last more r t)) (grind arith)

-- where the flat form is nothing
none_is : {A B C : Type 0} (b : Bool) (f : Part A → Part B → Part C) (p : PartForm A)
    (r : PartForm B) → part_if (b && (is_part p && is_part r)) ProgramPart.Part
    ≡ form_part (or_part no_program (parts.part_if b (of_parts f p r)))
none_is true f (some_part p) (some_part r) = refl
none_is true f (some_part p) no_part = refl
none_is true f no_part r = refl
none_is false f p r = refl

-- the same
choice_is : {T : Type 0} (own others : List Names) (words more : List (List ℕ))
    (s t : ProgramForm T) (p r : PartForm T) → Fits s p → Fits t r
    → chosen_part (are_all_apart own others) (are_words_apart words more) (form_part s)
    (form_part t) ≡ form_part (or_part (program_either own others words more p r s t)
    (parts.part_if (are_all_apart own others) (of_parts part_choice p r)))
choice_is own others words more (alternative wide q x) (alternative other r y) p u fits fit =
    grind (arith, are_all_apart own others, are_words_apart words more)
choice_is own others words more (commands false x) (commands false y) p r fits fit =
    grind (arith, are_all_apart own others, are_words_apart words more)
choice_is own others words more s t p r fits fit =
    grind (arith, are_all_apart own others, are_words_apart words more)

-- keys may stand after a field
stands : (k : FieldKind) (own others : List Names) → may_stand (kind_of k)
    (are_all_apart own others) (list_all (λ names. false) others) ≡ may_follow k own others
stands s own others = grind arith

-- a field before others
module _ {A B : Type 0} (own others : List Names) (s : ProgramForm A) (t : ProgramForm B)
    (p : PartForm A) (r : PartForm B) (fits : Fits s p) (fit : Fits t r) where
  -- a field before others
  both_fits : Fits (or_part (program_both own others (program_field s) t)
      (parts.part_if (are_all_apart own others) (of_parts part_group p r)))
      (parts.part_if (are_all_apart own others) (of_parts part_group p r))
  both_fits = grind arith

  -- the same
  both_is : before_part (field_part (form_part s)) (form_part t) (are_all_apart own others)
      (list_all (λ names. false) others)
      ≡ form_part (or_part (program_both own others (program_field s) t)
      (parts.part_if (are_all_apart own others) (of_parts part_group p r)))
  both_is = grind (arith, stands)

-- a repeat
repeat_fits : {A B : Type 0} (f : Repeat A B) (s : ProgramForm A) (p : PartForm A) → Fits s p
    → Fits (or_part (program_if (not (catches f))
    (program_closed (repeat_closure f) (program_repeat s))) (repeated_part f p))
    (repeated_part f p)
repeat_fits (many {T = T} catch) s p h = if_fits (not catch) _ _
    (listed_fits s p h (λ z. part_closed (part_repeat z) (list_closure T)) (list_closure T))
repeat_fits (some {T = T} catch message) s p h =
    if_fits (not catch) _ _ (listed_fits s p h part_some (some_closure T))
repeat_fits (collect catch fills) s p h = if_fits (not catch) _ _
    (listed_fits s p h (λ z. part_closed (part_repeat z) (map_closure fills)) (map_closure fills))
repeat_fits count s p h =
    listed_fits s p h
    (λ z. part_closed (part_repeat z) (map_closure (λ values n. n ≡ length values)))
    (map_closure (λ values n. n ≡ length values))

-- a parser, and fields, are a named part just where their form is one
pub parts_fit : {fields : Bool} {T : Type 0} (g : GrammarOf fields T) (variables : Variables)
    → Fits (program_form g variables) (part_form g variables)
parts_fit (flag clones key present absent) variables =
    key_fits (not (is_nil key.envs)) (is_nil key.envs && is_none absent) _ _ _ _
parts_fit (argument means key) variables =
    key_fits (key.adjacent || not (is_nil key.named.envs))
    (is_nil key.named.envs && not key.last) _ _ _ _
parts_fit (closed f g) variables = closed_fits (program_form g variables) (part_form g variables)
    (parts_fit g variables) _ (step_closure f)
parts_fit (dressed look g) variables =
    dressed_fits (program_form g variables) (part_form g variables) (parts_fit g variables)
parts_fit (optional {T = T} catch g) variables =
    if_fits (not catch) _ _ (completed_fits (program_form g variables) (part_form g variables)
    (parts_fit g variables) part_optional (λ k. k) (OptionalValue T) (OptionalCommands T)
    (λ k. refl))
parts_fit (fallback {T = T} shown d g) variables =
    completed_fits (program_form g variables) (part_form g variables) (parts_fit g variables)
    (λ p. part_default p (default_closure d)) (λ k. k)
    (λ group gap. FallbackValue T group gap (default_closure d))
    (DefaultCommands T ((default_closure d).yes tt)) (λ k. refl)
parts_fit (repeat f g) variables = repeat_fits f (program_form g variables) (part_form g variables)
    (parts_fit g variables)
parts_fit (last {T = T} g) variables =
    completed_fits (program_form g variables) (part_form g variables) (parts_fit g variables)
    part_last repeated (LastOf T) (λ value. value) (λ k. grind arith)
parts_fit (choice g h) variables = choice_fits (keys_of g true) (keys_of h true) (command_words g)
    (command_words h) (program_form g variables) (program_form h variables)
    (part_form g variables) (part_form h variables) (parts_fit g variables) (parts_fit h variables)
parts_fit (only g) variables = only_fits (program_form g variables) (part_form g variables)
    (parts_fit g variables)
parts_fit (command adjacent called info help g) variables = command_fits
    (((not adjacent && are_unusual (keys_of g false) info) && are_plain (opening_words called))
    && is_program (program_form g variables)) _
  where
    command_fits : {T : Type 0} (b : Bool) (value : CellsValue T)
        → false ≡ has_part (program_if b (commands false value))
    command_fits b value = grind arith
parts_fit (alone g) variables = alone_fits (program_form g variables) (part_form g variables)
    (parts_fit g variables)
parts_fit (both g h) variables =
    both_fits (keys_of g true) (keys_of h true) (program_form g variables)
    (program_form h variables) (part_form g variables) (part_form h variables)
    (parts_fit g variables) (parts_fit h variables)
parts_fit (product makes g) variables =
    con_fits (program_form g variables) (part_form g variables)
    (parts_fit g variables) _ (map_closure makes)
parts_fit _ variables = refl

-- What the code tells of each parser, by what it tells of those inside.
module _ {T : Type 0} (g : Grammar T) (variables : Variables) where
  -- a closure
  pub closed_part_is : {B : Type 0} (f : Closure T B) (more : Part T → Part B)
      → closed_part (form_part (program_form g variables)) ≡ form_part
      (or_part (program_closed f (program_form g variables)) (of_part more (part_form g variables)))
  closed_part_is f more = closed_is (program_form g variables) (part_form g variables)
      (parts_fit g variables) more f

  -- another look
  pub dressed_part_is : dressed_part (form_part (program_form g variables))
      ≡ form_part (program_dressed (program_form g variables))
  dressed_part_is = grind arith

  -- a repeat, which may catch
  pub repeat_part_is : {B : Type 0} (catch : Bool) (f : Closure (List T) B) (more : Part T → Part B)
      → part_if (not catch) (completed_part (form_part (program_form g variables)))
      ≡ form_part (or_part (program_if (not catch)
      (program_closed f (program_repeat (program_form g variables))))
      (parts.part_if (not catch) (of_part more (part_form g variables))))
  repeat_part_is catch f more =
      if_part_is (not catch) _ _ (listed_is (program_form g variables) (part_form g variables)
      (parts_fit g variables) more f)

  -- one that can't
  pub listed_part_is : {B : Type 0} (f : Closure (List T) B) (more : Part T → Part B)
      → completed_part (form_part (program_form g variables))
      ≡ form_part (or_part
      (program_closed f (program_repeat (program_form g variables)))
      (of_part more (part_form g variables)))
  listed_part_is f more = listed_is (program_form g variables) (part_form g variables)
      (parts_fit g variables) more f

  -- its last value
  pub last_part_is : completed_part (form_part (program_form g variables))
      ≡ form_part (program_form (last g) variables)
  last_part_is = completed_is (program_form g variables) (part_form g variables)
      (parts_fit g variables) part_last repeated (LastOf T) (λ value. value) repeated_is

  -- a default
  pub fallback_part_is : (f : Closure (Unit {0}) T) (more : Part T → Part T)
      → completed_part (form_part (program_form g variables))
      ≡ form_part (or_part (program_default f (program_form g variables))
      (of_part more (part_form g variables)))
  fallback_part_is f more = completed_is (program_form g variables) (part_form g variables)
      (parts_fit g variables) more (λ k. k)
      (λ group gap. FallbackValue T group gap f) (DefaultCommands T (f.yes tt)) (λ k. refl)

  -- what may be left out, and may catch
  pub optional_part_is : (catch : Bool)
      → part_if (not catch) (completed_part (form_part (program_form g variables)))
      ≡ form_part (program_form (optional catch g) variables)
  optional_part_is catch = if_part_is (not catch) _ _
      (completed_is (program_form g variables) (part_form g variables) (parts_fit g variables)
      part_optional (λ k. k) (OptionalValue T) (OptionalCommands T) (λ k. refl))

  -- one parser of a choice
  pub only_part_is : only_part (form_part (program_form g variables))
      ≡ form_part (program_form (only g) variables)
  only_part_is = only_is (program_form g variables) (part_form g variables)
      (parts_fit g variables)

  -- the last field
  pub alone_part_is : last_part (field_part (form_part (program_form g variables)))
      ≡ form_part (program_alone (program_field (program_form g variables)))
  alone_part_is = grind arith

-- a choice of two
pub choice_part_is : {T : Type 0} (g h : Grammar T) (variables : Variables)
    → chosen_part (are_all_apart (keys_of g true) (keys_of h true))
    (are_words_apart (command_words g) (command_words h)) (form_part (program_form g variables))
    (form_part (program_form h variables)) ≡ form_part (program_form (choice g h) variables)
choice_part_is g h variables = choice_is (keys_of g true) (keys_of h true) (command_words g)
    (command_words h) (program_form g variables) (program_form h variables)
    (part_form g variables) (part_form h variables) (parts_fit g variables) (parts_fit h variables)

-- a field before others
pub both_part_is : {A B : Type 0} (g : Grammar A) (h : FieldsGrammar B) (variables : Variables)
    → before_part (field_part (form_part (program_form g variables)))
    (form_part (program_form h variables)) (are_all_apart (keys_of g true) (keys_of h true))
    (list_all (λ names. false) (keys_of h true)) ≡ form_part (program_form (both g h) variables)
both_part_is g h variables = both_is (keys_of g true) (keys_of h true) (program_form g variables)
    (program_form h variables) (part_form g variables) (part_form h variables)
    (parts_fit g variables) (parts_fit h variables)

-- a constructor
pub con_part_is : {V T : Type 0} (makes : V → T → Type 0) (g : FieldsGrammar V)
    (variables : Variables) → made_part (form_part (program_form g variables))
    ≡ form_part (program_form (product makes g) variables)
con_part_is makes g variables =
    con_is (program_form g variables) (part_form g variables)
    (parts_fit g variables) (λ p. part_closed p (map_closure makes)) (map_closure makes)

-- a command
pub command_part_is : {T : Type 0} (adjacent apart : Bool) (called : Called) (s : ProgramForm T)
    → command_part ((not adjacent && apart) && are_plain (opening_words called)) (form_part s)
    ≡ form_part (program_command adjacent apart called s)
command_part_is adjacent apart called s = grind (arith, if_is, program_part_is)

-- one test alone
pub and_true : (b : Bool) → b ≡ (b && true)
and_true b = grind arith

-- a test of the keys of two
pub all_joined : {X : Type 0} (test : X → Bool) (xs ys : List X)
    → (list_all test xs && list_all test ys) ≡ list_all test (xs ++ ys)
all_joined test xs ys = sym (list_all-append test xs ys)

-- a test of the keys inside a command
pub keys_entered : (test : Names → Bool) (deep : Bool) (names : List Names) (b : Bool)
    → b ≡ list_all test names
    → (if deep then b else true) ≡ list_all test (if deep then names else [])
keys_entered test b names s e = grind arith

module _ {P T : Type 0} (of : P → Grammar T) where
  -- one parser more is chosen last, behind the first parsers of a list
  pub one_more : (ps : List P) (i : ℕ) (d : P) → 1 ≤ i → i < length ps
      → choices_of of (take (i + 1) ps) ≡ choice (choices_of of (take i ps))
      (of (slice_index_or ps i d))
  one_more ps zero d any l = absurd (omega arith)
  one_more [] (suc i) d any l = absurd (omega arith)
  one_more (p ∷ ps) (suc i) d any l = ap (choices_of of) (take_more (p ∷ ps) (suc i) d l)
      ∙ nested_more of (of p) (take i ps) (slice_index_or (p ∷ ps) (suc i) d)

  -- of the first parser of a list alone a choice is that one
  pub first_is : (ps : List P) (d : P) → 1 ≤ length ps
      → choices_of of (take 1 ps) ≡ of (slice_index_or ps 0 d)
  first_is xs d any = grind arith

  -- what is listed of it, as its keys are or its words, is that of all
  pub choices_listed : {X : Type 0} (list : Grammar T → List X) → list (choices_of of []) ≡ []
      → ((g h : Grammar T) → list (choice g h) ≡ list g ++ list h) → (ps : List P)
      → list (choices_of of ps) ≡ flat_map (λ p. list (of p)) ps
  choices_listed list none two [] = none
  choices_listed {X} list none two (p ∷ ps) = nested (of p) ps
    where
      nested : (g : Grammar T) (ps : List P)
          → list (Nested choice of g ps) ≡ list g ++ flat_map (λ p. list (of p)) ps
      nested g [] = sym (append-nil (list g))
      nested g (p ∷ ps) = nested (choice g (of p)) ps
          ∙ (ap (λ z. z ++ flat_map (λ p. list (of p)) ps) (two g (of p))
          ∙ append_assoc (list g) (list (of p)) (flat_map (λ p. list (of p)) ps))

  -- the keys of a choice are those of all its parsers
  pub choices_keys : (ps : List P) (deep : Bool)
      → keys_of (choices_of of ps) deep ≡ flat_map (λ p. keys_of (of p) deep) ps
  choices_keys ps deep = choices_listed (λ g. keys_of g deep) refl (λ g h. refl) ps

  -- the command words of a choice are those of all its parsers
  pub choices_words : (ps : List P)
      → command_words (choices_of of ps) ≡ flat_map (λ p. command_words (of p)) ps
  choices_words ps = choices_listed command_words refl (λ g h. refl) ps
