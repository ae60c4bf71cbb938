-- Of each combinator: the own keys of its form are those with its names, where the inner ones' are.
use Rattle.bpaf_exact.specs.Flat.{FieldKind, repeated, EachWord, OneWord, Closure, ByName, Groups}
use Rattle.bpaf_exact.specs.ProgramForm.{program_dressed, program_choice, product}
use Rattle.bpaf_exact.specs.ProgramForm.{program_closed, program_alone, program_field, program_both}
use Rattle.bpaf_exact.specs.ProgramForm.{whole_program, choice_only, program_con, alternative}
use Rattle.bpaf_exact.specs.ProgramForm.{ProgramForm, program_if, key_field, completed, complete}
use Rattle.std.proofs.Common.{append-nil, arith, false, subst, Bool, List, true, ◌++◌, [], ℕ}
use Rattle.bpaf_doc.specs.Names.{Names}
use Rattle.bpaf_exact.proofs.Names.{either_owns}
use Rattle.bpaf_exact.specs.Pieces.{LinePiece, no_roles, either, Roles, Owns}
use Rattle.bpaf_exact.specs.{ProgramForm.single, ProgramForm.or_part, Flat.keys, Flat.Gap}
use Rattle.bpaf_exact.specs.{Parts.PartForm, ProgramForm.CellsValue}
use Rattle.bpaf_exact.specs.ProgramForm.{as_last, both_last, or_form, program_either}

-- own items are those with one of these names
abbrev pub FormOwns : {T : Type 0} → List Names → ProgramForm T → Type 0
FormOwns names (alternative wide q value) = Owns q names
FormOwns names (single wide k q group gap) = Owns (keys k q) names
FormOwns names (complete wide k q value) = Owns (keys k q) names
FormOwns names (product wide named q fields) = Owns q names
FormOwns names _ = Unit {0}

-- a form's own items are those with one of these names
pub record OwnsKeys {T : Type 0} (names : List Names) (s : ProgramForm T) : Type 0 where
  pub by : FormOwns names s

-- of nothing
pub none_owned : (names : List Names) → Owns no_roles names
none_owned names = record { own = λ k e. absurd cc }

-- of a key
pub key_owns : {T : Type 0} {names : List Names} (wide may_choose : Bool) {q : Roles}
    (each : LinePiece → T → Type 0) (group : Groups T) (gap : Gap T) → Owns q names
    → OwnsKeys names (key_field wide may_choose q each group gap)
key_owns wide true each group gap owns = record { by = owns }
key_owns wide false each group gap owns = record { by = owns }

-- where a test holds
pub if_owns : {T : Type 0} {names : List Names} (b : Bool) {s : ProgramForm T} → OwnsKeys names s
    → OwnsKeys names (program_if b s)
if_owns true h = h
if_owns false h = record { by = tt }

-- with a closure
pub closed_owns : {A B : Type 0} {names : List Names} (f : Closure A B) (s : ProgramForm A)
    → OwnsKeys names s → OwnsKeys names (program_closed f s)
closed_owns f x h = grind arith

-- with another look
pub dressed_owns : {T : Type 0} {names : List Names} (s : ProgramForm T) → OwnsKeys names s
    → OwnsKeys names (program_dressed s)
dressed_owns x h = grind arith

-- of a repeat
repeated_owns : {names : List Names} (k : FieldKind) (q : Roles) → Owns (keys k q) names
    → Owns (keys (repeated k) q) names
repeated_owns ByName q h = h
repeated_owns (OneWord stops) q h = h
repeated_owns (EachWord stops) q h = h

module _ {T B : Type 0} {names : List Names} (s : ProgramForm T) (own : OwnsKeys names s)
    (value : Groups T → Gap T → List LinePiece → B → Type 0) (round : CellsValue T → CellsValue B)
  where
    -- a repeat
    pub repeat_owns : OwnsKeys names (completed repeated value round s)
    repeat_owns = grind (arith, repeated_owns)

    -- a default
    pub default_owns : OwnsKeys names (completed (λ k. k) value round s)
    default_owns = grind arith

-- a choice of two
choice_owns : {T : Type 0} {own others : List Names} (words more : List (List ℕ))
    (s t : ProgramForm T) → OwnsKeys own s → OwnsKeys others t
    → OwnsKeys (own ++ others) (program_choice own others words more s t)
choice_owns words more s t a b = grind (arith, if_owns, either_owns)

-- where a form is no program, another
or_form_owns : {T : Type 0} {names : List Names} (s t : ProgramForm T) → OwnsKeys names s
    → OwnsKeys names t → OwnsKeys names (or_form s t)
or_form_owns s t a b = grind arith

-- a choice of two, which may be named parts
pub program_either_owns : {T : Type 0} {own others : List Names} (words more : List (List ℕ))
    (p r : PartForm T) (s t : ProgramForm T) → OwnsKeys own s → OwnsKeys others t
    → OwnsKeys (own ++ others) (program_either own others words more p r s t)
program_either_owns words more p r s t a b = or_form_owns _ _ (choice_owns words more s t a b)
    (if_owns _ (of_both (as_last words p s) (as_last more r t)))
  where
    of_both : {T : Type 0} {names : List Names} (s t : ProgramForm T)
        → OwnsKeys names (both_last s t)
    of_both s t = grind arith

-- what may stand in a choice
pub only_owns : {T : Type 0} {names : List Names} (s : ProgramForm T) → OwnsKeys names s
    → OwnsKeys names (choice_only s)
only_owns s h = grind arith

-- a field of a product
pub field_owns : {T : Type 0} {names : List Names} (s : ProgramForm T) → OwnsKeys names s
    → OwnsKeys names (program_field s)
field_owns {T} s h = grind (arith, default_owns)

-- with nothing behind it
with_none : {q : Roles} {names : List Names} → Owns q names → Owns (either q no_roles) names
with_none {q} {names} h =
    subst (Owns (either q no_roles)) (append-nil names) (either_owns h (none_owned []))

-- the last field
pub alone_owns : {T : Type 0} {names : List Names} (s : ProgramForm T) → OwnsKeys names s
    → OwnsKeys names (program_alone s)
alone_owns s h = grind (arith, with_none)

-- a field before others
pub both_owns : {A B : Type 0} {own others : List Names} (s : ProgramForm A) (t : ProgramForm B)
    → OwnsKeys own s → OwnsKeys others t
    → OwnsKeys (own ++ others) (program_both own others s t)
both_owns s t a b = grind (arith, if_owns, either_owns)

-- the constructor of a product
pub con_owns : {A B : Type 0} {names : List Names} (f : Closure A B) (s : ProgramForm A)
    → OwnsKeys names s → OwnsKeys names (program_con f s)
con_owns f s h = grind arith

-- what may be a part
pub or_part_owns : {T : Type 0} {names : List Names} {s : ProgramForm T} (p : PartForm T)
    → OwnsKeys names s → OwnsKeys names (or_part s p)
or_part_owns p h = grind arith

-- a whole program
pub whole_owns : {T : Type 0} {names : List Names} (s : ProgramForm T) → OwnsKeys names s
    → OwnsKeys names (whole_program s)
whole_owns (product wide named q fields) h = h
whole_owns s h = alone_owns (program_field s) (field_owns s h)
