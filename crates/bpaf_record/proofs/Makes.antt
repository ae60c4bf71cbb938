-- What is told of a program by its pieces or cells is so where it is no named part alone.
use Rattle.bpaf_grammar.specs.Grammar.{GrammarOf, Repeat, alone, argument, both, choice, closed}
use Rattle.bpaf_grammar.specs.Grammar.{collect, command, command_words, count, dressed, fallback}
use Rattle.bpaf_grammar.specs.Grammar.{flag, kept, keys_of, last, many, only, optional, product}
use Rattle.bpaf_grammar.specs.Grammar.{repeat, some, word}
use Rattle.bpaf_exact.specs.Flat.{Closure, FallbackValue, FieldKind, Gap, Groups, LastOf, Variables}
use Rattle.bpaf_exact.specs.Flat.{list_closure, map_closure, repeated, some_closure, OptionalValue}
use Rattle.std.proofs.Common.{arith, false, true, Bool, List, not, refl, ◌≡◌, length, ◌&&◌, ◌||◌, ℕ}
use Rattle.std.specs.Option.{is_none}
use Rattle.bpaf_doc.specs.Names.{Names}
use Rattle.bpaf_laws.specs.{Command.opening_words, Combinators.is_nil}
use Rattle.bpaf_exact.specs.Pieces.{LinePiece, Roles, are_all_apart}
use Rattle.bpaf_exact.specs.Parts as parts
use Rattle.bpaf_exact.specs.Parts.{Part, PartForm, is_part, of_part, of_parts, part_choice}
use Rattle.bpaf_exact.specs.Parts.{part_closed, part_default, part_group, part_last, part_optional}
use Rattle.bpaf_exact.specs.Parts.{part_repeat, part_some}
use Rattle.bpaf_exact.specs.ProgramForm.{CellsValue, ProgramForm, after_parts, alternative}
use Rattle.bpaf_exact.specs.ProgramForm.{are_plain, before_commands, choice_only, commands}
use Rattle.bpaf_exact.specs.ProgramForm.{complete, completed, is_program, key_field, no_program}
use Rattle.bpaf_exact.specs.ProgramForm.{or_part, part, product_roles, program_alone, program_both}
use Rattle.bpaf_exact.specs.ProgramForm.{program_closed, program_con, program_dressed}
use Rattle.bpaf_exact.specs.ProgramForm.{program_field, program_if, single, whole_program}
use Rattle.bpaf_exact.specs.ProgramForm.{product as flat_product, program_repeat, DefaultCommands}
use Rattle.bpaf_exact.specs.ProgramForm.{OptionalCommands, program_either, last_choice}
use Rattle.bpaf_record.specs.Program.{AnyPart, FlatFields, Make, OneRead, OnlyCommands, WholeField}
use Rattle.bpaf_record.specs.Program.{alone_make, are_unusual, both_make, catches, choice_make}
use Rattle.bpaf_record.specs.Program.{closed_make, completed_make, con_make, default_closure}
use Rattle.bpaf_record.specs.Program.{is_flat, make_of, only_make, part_form, program_form}
use Rattle.bpaf_record.specs.Program.{repeat_closure, repeated_part, scope_by, step_closure}
use Rattle.bpaf_exact.specs.Says.{IsSaid, Said, scope_said, scope_told}
use Rattle.bpaf_record.proofs.Parts.{Fits, parts_fit}

-- a form is one that such a grammar has
abbrev is_made : {T : Type 0} → Make → ProgramForm T → Bool
is_made OneRead (alternative wide q value) = true
is_made OneRead (single wide k q group gap) = true
is_made OneRead _ = false
is_made WholeField no_program = true
is_made WholeField (alternative wide q value) = true
is_made WholeField (single wide k q group gap) = true
is_made WholeField (complete wide k q value) = true
is_made WholeField _ = false
is_made OnlyCommands no_program = true
is_made OnlyCommands (commands may value) = true
is_made OnlyCommands _ = false
is_made FlatFields no_program = true
is_made FlatFields (flat_product wide named q fields) = true
is_made FlatFields (before_commands value) = true
is_made FlatFields _ = false
is_made AnyPart s = true

-- a key
key_made : {T : Type 0} (wide may_choose : Bool) (q : Roles) (each : LinePiece → T → Type 0)
    (group : Groups T) (gap : Gap T)
    → is_made OneRead (key_field wide may_choose q each group gap) ≡ true
key_made wide true q each group gap = refl
key_made wide false q each group gap = refl

-- where a test holds
if_made : {T : Type 0} (b : Bool) (m : Make) (s : ProgramForm T) (p : PartForm T)
    → is_made (completed_make m) (or_part s p) ≡ true
    → is_made (completed_make m) (or_part (program_if b s) (parts.part_if b p)) ≡ true
if_made true m s p h = h
if_made false OneRead s p h = refl
if_made false WholeField s p h = refl
if_made false OnlyCommands s p h = refl
if_made false FlatFields s p h = refl
if_made false AnyPart s p h = refl

module _ {A B : Type 0} (m : Make) (s : ProgramForm A) (p : PartForm A) (fits : Fits s p)
    (made : is_made m s ≡ true) (more : Part A → Part B) where
  -- with a closure
  closed_made : (f : Closure A B)
      → is_made (closed_make m) (or_part (program_closed f s) (of_part more p)) ≡ true
  closed_made f = grind arith

  -- with a repeat or a default of a kind
  completed_made : (kind : FieldKind → FieldKind)
      (value : Groups A → Gap A → List LinePiece → B → Type 0) (round : CellsValue A → CellsValue B)
      → is_made (completed_make m) (or_part (completed kind value round s) (of_part more p)) ≡ true
  completed_made kind value round = grind arith

  -- with a closure on the list of a repeat
  listed_made : (f : Closure (List A) B) → is_made (completed_make m)
      (or_part (program_closed f (program_repeat s)) (of_part more p)) ≡ true
  listed_made f = grind arith

  -- a constructor
  con_made : (f : Closure A B)
      → is_made (con_make m) (or_part (program_con f s) (of_part more p)) ≡ true
  con_made f = grind arith

module _ {T : Type 0} (m : Make) (s : ProgramForm T) (p : PartForm T) (fits : Fits s p)
    (made : is_made m s ≡ true) where
  -- one parser of a choice
  only_made : is_made (only_make m) (or_part (choice_only s) p) ≡ true
  only_made = grind arith

  -- another look
  dressed_made : is_made m (program_dressed s) ≡ true
  dressed_made = grind arith

  -- the last field
  alone_made : is_made (alone_make m) (program_alone (program_field s)) ≡ true
  alone_made = grind arith

-- commands are no part
commands_apart : {T : Type 0} (s : ProgramForm T) (p : PartForm T) → Fits s p
    → is_made OnlyCommands s ≡ true → is_part p ≡ false
commands_apart s p fits made = grind arith

-- two of which one is no part are none
none_of_two : {A B C : Type 0} (b : Bool) (f : Part A → Part B → Part C) (p : PartForm A)
    (r : PartForm B) → is_part p ≡ false → is_part (parts.part_if b (of_parts f p r)) ≡ false
none_of_two b f p r none = grind arith

-- a choice of commands
commands_chosen : {T : Type 0} (own others : List Names) (words more : List (List ℕ))
    (s t : ProgramForm T) (p r q : PartForm T) → is_made OnlyCommands s ≡ true
    → is_made OnlyCommands t ≡ true → is_part p ≡ false → is_part r ≡ false → is_part q ≡ false
    → is_made OnlyCommands (or_part (program_either own others words more p r s t) q) ≡ true
commands_chosen own others words more no_program t p r q made ready none never nothing = grind arith
commands_chosen own others words more (commands false x) (commands false y) p r q made ready none
    never nothing = grind arith
commands_chosen own others words more (commands may x) no_program p r q made ready none never
    nothing = grind arith
commands_chosen own others words more (commands false x) (commands true y) p r q made ready none
    never nothing = grind arith
commands_chosen own others words more (commands true x) t p r q made ready none never nothing =
    grind arith
commands_chosen own others words more _ _ p r q made ready none never nothing = absurd cc

-- a choice of two
choice_made : {T : Type 0} (own others : List Names) (words more : List (List ℕ)) (m n : Make)
    (s t : ProgramForm T) (p r : PartForm T) → Fits s p → Fits t r → is_made m s ≡ true
    → is_made n t ≡ true → is_made (choice_make m n) (or_part
    (program_either own others words more p r s t)
    (parts.part_if (are_all_apart own others) (of_parts part_choice p r))) ≡ true
choice_made own others words more OnlyCommands OnlyCommands s t p r fits fit made ready =
    let none = commands_apart s p fits made in
    commands_chosen own others words more s t p r _ made ready none (commands_apart t r fit ready)
    (none_of_two (are_all_apart own others) part_choice p r none)
choice_made own others words more _ _ s t p r fits fit made ready = refl

-- a field before others
both_made : {A B : Type 0} (own others : List Names) (m n : Make) (s : ProgramForm A)
    (t : ProgramForm B) (p : PartForm A) (r : PartForm B) → Fits s p → Fits t r
    → is_made m s ≡ true → is_made n t ≡ true → is_made (both_make m n) (or_part
    (program_both own others (program_field s) t)
    (parts.part_if (are_all_apart own others) (of_parts part_group p r))) ≡ true
both_made own others AnyPart n s t p r fits fit made ready = refl
both_made own others m FlatFields s no_program p r fits fit made ready = grind arith
both_made own others m FlatFields s (flat_product wide named q fields) p r fits fit made ready =
    grind arith
both_made own others m FlatFields s (before_commands value) p r fits fit made ready = grind arith
both_made own others m FlatFields s _ p r fits fit made ready = absurd cc
both_made own others _ _ s t p r fits fit made ready = refl

-- a repeat
repeat_made : {A B : Type 0} (f : Repeat A B) (m : Make) (s : ProgramForm A) (p : PartForm A)
    → Fits s p → is_made m s ≡ true → is_made (completed_make m) (or_part
    (program_if (not (catches f))
    (program_closed (repeat_closure f) (program_repeat s))) (repeated_part f p))
    ≡ true
repeat_made (many {T = T} catch) m s p h made = if_made (not catch) m _ _
    (listed_made m s p h made (λ z. part_closed (part_repeat z) (list_closure T)) (list_closure T))
repeat_made (some {T = T} catch message) m s p h made =
    if_made (not catch) m _ _ (listed_made m s p h made part_some (some_closure T))
repeat_made (collect catch fills) m s p h made = if_made (not catch) m _ _
    (listed_made m s p h made (λ z. part_closed (part_repeat z) (map_closure fills))
    (map_closure fills))
repeat_made count m s p h made = listed_made m s p h made
    (λ z. part_closed (part_repeat z) (map_closure (λ values n. n ≡ length values)))
    (map_closure (λ values n. n ≡ length values))

-- the form of every grammar is one that such a grammar has
made_of : {fields : Bool} {T : Type 0} (g : GrammarOf fields T) (variables : Variables)
    → is_made (make_of g) (program_form g variables) ≡ true
made_of (flag clones key present absent) variables =
    key_made (not (is_nil key.envs)) (is_nil key.envs && is_none absent) _ _ _ _
made_of (argument means key) variables =
    key_made (key.adjacent || not (is_nil key.named.envs))
    (is_nil key.named.envs && not key.last) _ _ _ _
made_of (word means position metavar help) variables = refl
made_of (kept clones value) variables = refl
made_of (closed f g) variables = closed_made (make_of g) (program_form g variables)
    (part_form g variables) (parts_fit g variables) (made_of g variables)
    (λ p. part_closed p (step_closure f)) (step_closure f)
made_of (dressed look g) variables = dressed_made (make_of g) (program_form g variables)
    (part_form g variables) (parts_fit g variables) (made_of g variables)
made_of (optional {T = T} catch g) variables = if_made (not catch) (make_of g) _ _
    (completed_made (make_of g) (program_form g variables) (part_form g variables)
    (parts_fit g variables) (made_of g variables) part_optional (λ k. k) (OptionalValue T)
    (OptionalCommands T))
made_of (fallback {T = T} shown d g) variables = completed_made (make_of g)
    (program_form g variables) (part_form g variables) (parts_fit g variables)
    (made_of g variables) (λ p. part_default p (default_closure d)) (λ k. k)
    (λ group gap. FallbackValue T group gap (default_closure d))
    (DefaultCommands T ((default_closure d).yes tt))
made_of (repeat f g) variables = repeat_made f (make_of g) (program_form g variables)
    (part_form g variables) (parts_fit g variables) (made_of g variables)
made_of (last {T = T} g) variables = completed_made (make_of g) (program_form g variables)
    (part_form g variables) (parts_fit g variables) (made_of g variables) part_last repeated
    (LastOf T) (λ value. value)
made_of (choice g h) variables = choice_made (keys_of g true) (keys_of h true) (command_words g)
    (command_words h) (make_of g) (make_of h) (program_form g variables) (program_form h variables)
    (part_form g variables) (part_form h variables) (parts_fit g variables) (parts_fit h variables)
    (made_of g variables) (made_of h variables)
made_of (only g) variables = only_made (make_of g) (program_form g variables)
    (part_form g variables) (parts_fit g variables) (made_of g variables)
made_of (command {T = T} adjacent called info help g) variables = command_made
    (((not adjacent && are_unusual (keys_of g false) info) && are_plain (opening_words called))
    && is_program (program_form g variables)) _
  where
    command_made : {T : Type 0} (b : Bool) (value : CellsValue T)
        → is_made OnlyCommands (program_if b (commands false value)) ≡ true
    command_made b value = grind arith
made_of (alone g) variables = alone_made (make_of g) (program_form g variables)
    (part_form g variables) (parts_fit g variables) (made_of g variables)
made_of (both g h) variables = both_made (keys_of g true) (keys_of h true) (make_of g) (make_of h)
    (program_form g variables) (program_form h variables) (part_form g variables)
    (part_form h variables) (parts_fit g variables) (parts_fit h variables) (made_of g variables)
    (made_of h variables)
made_of (product makes g) variables = con_made (make_of g) (program_form g variables)
    (part_form g variables) (parts_fit g variables) (made_of g variables)
    (λ p. part_closed p (map_closure makes)) (map_closure makes)
made_of _ variables = refl

-- what is told of it is told of pieces or cells
flat_said : {T : Type 0} (m : Make) (s : ProgramForm T) → is_flat m ≡ true → is_made m s ≡ true
    → (c : Bool) (said : Said T) (cells : CellsValue T)
    → IsSaid (scope_told (whole_program s) c said cells)
    (scope_said c (product_roles (whole_program s)) said cells)
flat_said AnyPart s flat made c said cells = absurd cc
flat_said m (part p) flat made c said cells = absurd (never m flat made)
  where
    never : (m : Make) → is_flat m ≡ true → is_made m (part p) ≡ true → ⊥
    never m flat made = grind arith
flat_said m (after_parts value) flat made c said cells = absurd (never m flat made)
  where
    never : (m : Make) → is_flat m ≡ true → is_made m (after_parts value) ≡ true → ⊥
    never m flat made = grind arith
flat_said m (last_choice p own value) flat made c said cells = absurd (never m flat made)
  where
    never : (m : Make) → is_flat m ≡ true → is_made m (last_choice p own value) ≡ true → ⊥
    never m flat made = grind arith
flat_said m s flat made c said cells = λ cs v told. told

-- what is told by what a grammar is made of is told of pieces or cells
pub made_said : {fields : Bool} {T : Type 0} (g : GrammarOf fields T) (variables : Variables)
    (c : Bool)
    (said : Said T) (cells : CellsValue T)
    → IsSaid (scope_told (whole_program (program_form g variables)) c said cells)
    (scope_by (is_flat (make_of g))
    (scope_said c (product_roles (whole_program (program_form g variables))) said cells)
    (scope_told (whole_program (program_form g variables)) c said cells))
made_said g variables c said cells = by_flat (is_flat (make_of g)) refl
  where
    by_flat : (b : Bool) → is_flat (make_of g) ≡ b
        → IsSaid (scope_told (whole_program (program_form g variables)) c said cells)
        (scope_by b
        (scope_said c (product_roles (whole_program (program_form g variables))) said cells)
        (scope_told (whole_program (program_form g variables)) c said cells))
    by_flat true e =
        flat_said (make_of g) (program_form g variables) e (made_of g variables) c said cells
    by_flat false e = λ cs v told. told
