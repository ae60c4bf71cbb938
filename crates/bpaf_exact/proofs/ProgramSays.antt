-- Of each combinator: its values say what is told of them, where those of its inner parsers do.
use Rattle.std.proofs.Common.{append-nil, arith, false, subst, Bool, List, refl, true, ◌++◌, None}
use Rattle.bpaf_exact.proofs.Names.{apart_of_names, mine_of_others, others_unkeyed, second_within}
use Rattle.bpaf_exact.proofs.Names.{first_within, mine_within, none_behind, others_both, apart_none}
use Rattle.bpaf_exact.proofs.Names.{others_none, others_rest, mine_keyed, others_fit, mine_rest}
use Rattle.bpaf_exact.proofs.Names.{both_fits, taken_own, mine_none, all_front, all_mine, each_own}
use Rattle.bpaf_exact.specs.Flat.{FieldsReading, FallbackValue, OptionalValue, both_reading, ByName}
use Rattle.bpaf_exact.specs.Flat.{SingleValue, ClosedValue, FieldKind, OwnList, Closure}
use Rattle.bpaf_exact.specs.Pieces.{are_all_apart, LinePiece, no_roles, either, others, Roles, Owns}
use Rattle.bpaf_exact.specs.ProgramForm.{OptionalCommands, program_optional, before_commands}
use Rattle.bpaf_exact.specs.ProgramForm.{program_command, program_dressed, product_reading, single}
use Rattle.bpaf_exact.specs.ProgramForm.{program_choice, program_closed, product_roles, ProgramForm}
use Rattle.bpaf_exact.specs.ProgramForm.{program_alone, program_field, program_value, whole_program}
use Rattle.bpaf_exact.specs.ProgramForm.{last_reading, CommandValue, program_both, choice_only}
use Rattle.bpaf_exact.specs.ProgramForm.{ChoiceValue, program_con, whole_value, alternative}
use Rattle.bpaf_exact.specs.ProgramForm.{CellsValue, may_follow, no_program, program_if, completed}
use Rattle.bpaf_exact.specs.Says.{FieldThenSays, repeated_kind, FallbackSays, OptionalSays, BothSay}
use Rattle.bpaf_exact.specs.Says.{RepeatSays, EitherSays, FieldsSaid, RecordSays, keyed}
use Rattle.bpaf_exact.specs.Says.{AloneSays, FieldsSay, FrontSays, form_kind, FormSays, LastSays}
use Rattle.bpaf_exact.specs.Says.{MadeSays, SaidKind, of_kind, AllOwn, IsSaid, OwnBy, Said, Says}
use Rattle.std.proofs.Common.{not, sym, ◌∙◌, ◌∷◌, ◌≡◌, [], ap, ℕ}
use Rattle.bpaf_doc.specs.Names.{Names}
use Rattle.bpaf_laws.specs.Command.{opening_words, Called}
use Rattle.bpaf_exact.proofs.Says.{fallback_by, optional_by, front_says, whole_says, list_says}
use Rattle.bpaf_exact.proofs.Names.{rest_fit, own_fit, no_fits, cut_fit}
use Rattle.bpaf_exact.proofs.OwnedKeys.{whole_owns, OwnsKeys}
use Rattle.bpaf_exact.specs.ProgramForm.{DefaultCommands, RepeatCommands, program_default}
use Rattle.bpaf_exact.specs.ProgramForm.{program_last, program_repeat}
use Rattle.bpaf_exact.specs.ProgramForm.{commands, complete, product, part, after_parts, or_part}
use Rattle.bpaf_exact.specs.Flat.{Groups, gap_of, LastOf, front, back, keys, Gap}
use Rattle.bpaf_exact.specs.{Pieces.Cells, Pieces.Cut, Pieces.mine, Says.scope_told, Parts.PartForm}
use Rattle.bpaf_exact.specs.ProgramForm.{as_last, both_last, or_form, program_either, last_choice}

-- where a test holds
if_says : {T : Type 0} (b : Bool) {s : ProgramForm T} {kind : SaidKind} {names : List Names}
    {c : Bool} {said : Said T} {cells : CellsValue T} → Says names s kind c said cells
    → Says names (program_if b s) kind c said cells
if_says true h = h
if_says false h = record { by = tt }

-- what says so with a closure round it
closed_said : {A B : Type 0} {f : Closure A B} {value said : CellsValue A} → IsSaid value said
    → IsSaid (ClosedValue value f) (ClosedValue said f)
closed_said h cs v c = record { from = c.from; read = h cs c.from c.read; made = c.made }

-- with a closure round it
pub program_closed_says : {A B : Type 0} {s : ProgramForm A} {kind : SaidKind} {names : List Names}
    {c : Bool} {said : Said A} {cells : CellsValue A} (f : Closure A B)
    → Says names s kind c said cells
    → Says names (program_closed f s) kind c (MadeSays said f) (ClosedValue cells f)
program_closed_says f h = grind (arith, closed_said)

-- a repeat or default round a field or commands, of which each value says so
whole_form_says : {T B : Type 0} {kind : FieldKind → FieldKind} (lift : SaidKind → SaidKind)
    → ((k : FieldKind) → lift (of_kind k) ≡ of_kind (kind k))
    → (value : Groups T → Gap T → List LinePiece → B → Type 0)
    (round : CellsValue T → CellsValue B) {said : Said T} (whole : Said B)
    → ((group : Groups T) (gap : Gap T) → ((os rest : List LinePiece) (v : T) → group os v rest
    → FrontSays said os v rest) → ((v : T) → gap.absent v
    → said [] v) → (os : List LinePiece) (v : B) → value group gap os v → whole os v)
    → {names : List Names} {j : SaidKind} {c : Bool} {cells : CellsValue T}
    → ((v : CellsValue T) → IsSaid v cells → IsSaid (round v) (round cells))
    → {s : ProgramForm T} → Says names s j c said cells
    → Says names (completed kind value round s) (lift j) c whole (round cells)
whole_form_says lift lifts value round whole each more h = grind (arith, front_says)

module _ {T : Type 0} {s : ProgramForm T} {kind : SaidKind} {names : List Names} {c : Bool}
    {said : Said T} {cells : CellsValue T} (h : Says names s kind c said cells) where
  -- under `many`, `some`, `collect` or `count`
  pub program_repeat_says : {B : Type 0} (catch : Bool) (f : Closure (List T) B)
      → Says names (program_if (not catch) (program_closed f (program_repeat s)))
      (repeated_kind kind) c (MadeSays (RepeatSays said) f) (ClosedValue (RepeatCommands T cells) f)
  program_repeat_says catch f = if_says (not catch) (program_closed_says f
      (whole_form_says repeated_kind (λ k. refl) (OwnList T) (RepeatCommands T) (RepeatSays said)
      (list_says said) (λ v more cs vs m. grind arith) h))

  -- the last value of a repeat
  pub program_last_says : Says names (program_last s) (repeated_kind kind) c (LastSays said) cells
  program_last_says = whole_form_says repeated_kind (λ k. refl) (LastOf T) (λ value. value)
      (LastSays said) (λ group gap fronts absent os v m. record {
        values = m.0 ++ v ∷ [];
        told = list_says said group gap fronts absent os (m.0 ++ v ∷ []) m.1;
        is = record { before = m.0; is = refl };
      }) (λ v more. more) h

  -- under a fallback
  pub program_fallback_says : (f : Closure (Unit {0}) T)
      → Says names (program_default f s) kind c (FallbackSays said (f.yes tt))
      (DefaultCommands T (f.yes tt) cells)
  program_fallback_says f =
      whole_form_says (λ j. j) (λ k. refl) (λ group gap. FallbackValue T group gap f)
      (DefaultCommands T (f.yes tt)) (FallbackSays said (f.yes tt))
      (λ group gap fronts absent. fallback_by said group gap fronts absent f)
      (λ v more cs x m. grind arith) h

  -- under `optional`
  pub program_optional_says : (catch : Bool)
      → Says names (program_if (not catch) (program_optional s)) kind c (OptionalSays said)
      (OptionalCommands T cells)
  program_optional_says catch = if_says (not catch) (whole_form_says (λ j. j) (λ k. refl)
      (OptionalValue T) (OptionalCommands T) (OptionalSays said) (optional_by said)
      (λ v more cs x m. grind arith) h)

-- with another look
pub program_dressed_says : {T : Type 0} {s : ProgramForm T} {kind : SaidKind} {names : List Names}
    {c : Bool} {said : Said T} {cells : CellsValue T} → Says names s kind c said cells
    → Says names (program_dressed s) kind c said cells
program_dressed_says h = grind arith

-- as a field
pub field_says : {T : Type 0} {s : ProgramForm T} {kind : SaidKind} {names : List Names} {c : Bool}
    {said : Said T} {cells : CellsValue T} → OwnsKeys names s → Says names s kind c said cells
    → Says names (program_field s) kind c said cells
field_says {s = product wide true q fields} {names} own h = record {
  by = (
    h.by.0,
    h.by.1,
    λ os v all m. let fit = own_fit q names own.by os all in
        h.by.2 os os v fit fit m refl refl,
  );
}
field_says {s = product wide false q fields} own h = record { by = h.by }
field_says {s = complete wide k q value} own h = h
field_says {s = commands optional value} own h = h
field_says {s = before_commands value} own h = h
field_says {s = part p} own h = record { by = tt }
field_says {s = last_choice p c value} own h = record { by = tt }
field_says {s = after_parts value} own h = record { by = tt }
field_says {T} {said} own h =
    whole_form_says (λ j. j) (λ k. refl) (SingleValue T) (λ value. value) said (whole_says said)
    (λ v more. more) h

-- each value of a whole program of this form says so of all pieces of a line, or of the cells
abbrev WholeSays : {T : Type 0} → List Names → ProgramForm T → Bool → Said T → CellsValue T → Type 0
WholeSays {T} names (product wide named r fields) c said cells =
    (c ≡ false) × ((os : List LinePiece) (v : T) → OwnBy names r os → fields.value os v → said os v)
WholeSays names (before_commands value) c said cells = (c ≡ true) × IsSaid value cells
WholeSays names _ c said cells = Unit {0}

-- A value of a whole program says what its parser says.
record_says : {T : Type 0} (s : ProgramForm T) {kind : SaidKind} {names : List Names} {c : Bool}
    {said : Said T} {cells : CellsValue T} → Says names s kind c said cells
    → WholeSays names (whole_program s) c said cells
record_says {T} s {kind} {names} {c} {said} {cells} h = by_form s h.by
  where
    all_own : (k : FieldKind) (q : Roles) (value : List LinePiece → T → Type 0)
        → ((os : List LinePiece) (v : T) → AllOwn k q os → value os v → said os v)
        → {os : List LinePiece} {v : T} → (last_reading k q value).value os v → said os v
    all_own ByName q value each {os} {v} m =
        rw (← all_mine q os m.1) (each (mine q os) v (each_own q os) m.0)
    all_own k q value each {os} {v} m =
        subst (λ z. said z v) (all_front k m.1) (each (front k os) v tt m.0)

    by_form : (s : ProgramForm T) → FormSays names s kind c said cells
        → WholeSays names (whole_program s) c said cells
    by_form (alternative wide q value) h = (
      h.0,
      λ os v fits m. all_own ByName q _ (λ os v all. whole_says said _ (gap_of value None)
          (front_says value h.2) (λ v none. absurd none) os v) m,
    )
    by_form (single wide k q group gap) h = (
      h.0,
      λ os v fits m. all_own k q _ (λ os v all. whole_says said group gap h.2 h.3 os v) m,
    )
    by_form (complete wide k q value) h = (h.0, λ os v fits m. all_own k q value h.2 m)
    by_form (product wide named q fields) h = grind arith
    by_form (commands optional value) h = h
    by_form (before_commands value) h = h
    by_form (part p) h = tt
    by_form (last_choice p own value) h = tt
    by_form (after_parts value) h = tt
    by_form no_program h = tt

-- of a flat record it says so of the pieces that it is read off
pub cut_says : {T : Type 0} (s : ProgramForm T) {kind : SaidKind} {names : List Names} {c : Bool}
    {said : Said T} {cells : CellsValue T} → OwnsKeys names s → Says names s kind c said cells
    → {cs : Cells} {os : List LinePiece} {v : T} → Cut (product_roles (whole_program s)) cs os
    → (product_reading (whole_program s)).value os v → said os v
cut_says {T} s {names} {c} {said} {cells} own h =
    by_whole (whole_program s) (whole_owns s own) (record_says s h)
  where
    by_whole : (w : ProgramForm T) → OwnsKeys names w → WholeSays names w c said cells
        → {cs : Cells} {os : List LinePiece} {v : T} → Cut (product_roles w) cs os
        → (product_reading w).value os v → said os v
    by_whole (product wide named q fields) own says {os = os} {v} cut m =
        says.1 os v (cut_fit q names own.by cut) m
    by_whole _ own says cut m = absurd m

-- a value of a whole program says so of the cells of its scope
pub program_says : {T : Type 0} (s : ProgramForm T) {kind : SaidKind} {names : List Names}
    {c : Bool} {said : Said T} {cells : CellsValue T} → OwnsKeys names s
    → Says names s kind c said cells
    → IsSaid (program_value s) (scope_told (whole_program s) c said cells)
program_says {T} s {names} {c} {said} {cells} own h =
    by_whole (whole_program s) (whole_owns s own) c (record_says s h)
  where
    by_whole : (w : ProgramForm T) → OwnsKeys names w → (c : Bool) → WholeSays names w c said cells
        → IsSaid (whole_value w) (scope_told w c said cells)
    by_whole (product wide named q fields) own c says = rw says.0 (λ cs v read. record {
      cut_into = read.cut_into;
      cut = read.cut;
      told = says.1 read.cut_into v (cut_fit q names own.by read.cut) read.read;
    })
    by_whole (before_commands value) own c says = rw says.0 says.1
    by_whole (part p) own c says = λ cs v m. m
    by_whole (after_parts value) own c says = λ cs v m. m
    by_whole _ own c says = λ cs v m. absurd m

-- a command
pub program_command_says : {T : Type 0} {s : ProgramForm T} {kind : SaidKind} {names : List Names}
    {c : Bool} {said : Said T} {cells : CellsValue T} (adjacent apart : Bool) (called : Called)
    → OwnsKeys names s → Says names s kind c said cells
    → Says names (program_command adjacent apart called s) (of_kind ByName) true (λ os v. ⊥)
    (CommandValue T (opening_words called)
    (scope_told (whole_program s) c said cells))
program_command_says adjacent apart called own h = grind (arith, if_says, program_says)

-- Choices.

-- what may stand in one
pub only_says : {T : Type 0} {s : ProgramForm T} {kind : SaidKind} {names : List Names} {c : Bool}
    {said : Said T} {cells : CellsValue T} → Says names s kind c said cells
    → Says names (choice_only s) (of_kind ByName) c said cells
only_says h = grind arith

-- of two
program_choice_says : {T : Type 0} {s t : ProgramForm T} {j k : SaidKind} {a b : Said T}
    {x y : CellsValue T} {c d : Bool} (own others : List Names) (words more : List (List ℕ))
    → Says own s j c a x → Says others t k d b y
    → Says (own ++ others) (program_choice own others words more s t) (of_kind ByName) c
    (EitherSays a b) (ChoiceValue T x y)
program_choice_says own others words more h g = grind (arith, if_says)

-- where a form is no program, another
or_form_says : {T : Type 0} {s t : ProgramForm T} {kind : SaidKind} {names : List Names} {c : Bool}
    {said : Said T} {cells : CellsValue T} → Says names s kind c said cells
    → Says names t kind c said cells → Says names (or_form s t) kind c said cells
or_form_says h g = grind arith

-- a choice of two, which may be named parts
pub program_either_says : {T : Type 0} {s t : ProgramForm T} {j k : SaidKind} {a b : Said T}
    {x y : CellsValue T} {c d : Bool} (own others : List Names) (words more : List (List ℕ))
    (p r : PartForm T) → Says own s j c a x → Says others t k d b y
    → Says (own ++ others) (program_either own others words more p r s t) (of_kind ByName) c
    (EitherSays a b) (ChoiceValue T x y)
program_either_says {s} {t} own others words more p r h g =
    or_form_says (program_choice_says own others words more h g)
    (if_says _ (of_both (as_last words p s) (as_last more r t)))
  where
    of_both : {T : Type 0} {names : List Names} {kind : SaidKind} {c : Bool} {said : Said T}
        {cells : CellsValue T} (s t : ProgramForm T) → Says names (both_last s t) kind c said cells
    of_both s t = grind arith

-- what may be a part
pub or_part_says : {T : Type 0} {s : ProgramForm T} {kind : SaidKind} {names : List Names}
    {c : Bool} {said : Said T} {cells : CellsValue T} (p : PartForm T)
    → Says names s kind c said cells → Says names (or_part s p) kind c said cells
or_part_says p h = grind arith

-- Products.

-- the last field
pub alone_says : {T : Type 0} {names : List Names} {s : ProgramForm T} {kind : SaidKind} {c : Bool}
    {said : Said T} {cells : CellsValue T} → OwnsKeys names s → Says names s kind c said cells
    → FieldsSay names (program_alone s) c (AloneSays kind names said) cells
alone_says {names} {s = product wide false q fields} own_keys h = record {
  by = (
    h.by.0,
    λ whole os v fits fit m same. rw h.by.1 (h.by.2 (keyed names whole ++ others q os) os v
        (rest_fit q names whole os fits fit) fit m (mine_rest q names whole os fits ∙ same)
        (others_rest q names whole os fits)),
  );
}
alone_says {T} {names} {s = complete wide k q value} {said} own_keys h = record {
  by = (
    h.by.0,
    λ whole os v fits fit m same. rw h.by.1 (own k q value own_keys.by h.by.2 whole os v
        fits m same),
  );
}
  where
    own : (k : FieldKind) (q : Roles) (value : List LinePiece → T → Type 0) → Owns (keys k q) names
        → ((os : List LinePiece) (v : T) → AllOwn k q os → value os v → said os v)
        → (whole os : List LinePiece) (v : T)
        → OwnBy names (either (keys k q) no_roles) whole → (last_reading k q value).value os v
        → mine (either (keys k q) no_roles) whole ≡ mine (either (keys k q) no_roles) os
        → AloneSays (of_kind k) names said whole (others (either (keys k q) no_roles) os) v
    own ByName q value owned each whole os v fits m same =
        subst (λ z. said z v) (sym (mine_within q (either q no_roles) (first_within q no_roles) os)
        ∙ (ap (mine q) (sym same)
        ∙ (mine_within q (either q no_roles) (first_within q no_roles) whole
        ∙ mine_keyed q names whole
        (both_fits owned (record { own = λ k e. absurd cc }) (apart_none names)
        whole (subst (λ own. OwnBy own (either q no_roles) whole) (sym (append-nil names))
        fits)).0)))
        (each (mine q os) v (each_own q os) m.0)
    own k q value owned each whole os v fits m same = grind (arith, others_none)
alone_says {s = commands optional value} own_keys h = record { by = h.by }
alone_says {s = before_commands value} own_keys h = record { by = h.by }
alone_says own_keys h = record { by = tt }

-- a field before others, by its kind
module _ {A B : Type 0} (own : List Names) {behind : List Names} (said : Said A)
    (rest_said : FieldsSaid B) (q : Roles) {r : Roles} (first : List LinePiece → A → Type 0)
    (fields : FieldsReading B) (owned_behind : Owns r behind)
    (rest_each : (whole os : List LinePiece) (v : B) → OwnBy behind r whole → OwnBy behind r os
    → fields.value os v → mine r whole ≡ mine r os → rest_said whole (others r os) v) where
  -- what it and those behind it say
  kind_says : (k : FieldKind)
      → ((os : List LinePiece) (v : A) → AllOwn k q os → first os v → said os v)
      → Owns (keys k q) own → may_follow k own behind ≡ true → (whole os : List LinePiece)
      (v : A × B) → OwnBy (own ++ behind) (either (keys k q) r) whole
      → OwnBy (own ++ behind) (either (keys k q) r) os → (both_reading k q first fields).value os v
      → mine (either (keys k q) r) whole ≡ mine (either (keys k q) r) os
      → BothSay (of_kind k) own said rest_said whole (others (either (keys k q) r) os) v
  kind_says ByName each owned may whole os v fits fit m same =
      let apart = apart_of_names owned owned_behind may in
      let both = either q r in (
        subst (λ z. said z v.0) (sym (mine_within q both (first_within q r) os)
            ∙ (ap (mine q) (sym same) ∙ (mine_within q both (first_within q r) whole
            ∙ mine_keyed q own whole (both_fits owned owned_behind may whole fits).0)))
            (each (mine q os) v.0 (each_own q os) m.0),
        subst (λ z. rest_said whole z v.1) (others_both q r os) (rest_each whole (others q os) v.1
            (both_fits owned owned_behind may whole fits).1
            (others_fit q r behind os (both_fits owned owned_behind may os fit).1) m.1
            (sym (mine_within r both (second_within q r) whole) ∙ (ap (mine r) same
            ∙ (mine_within r both (second_within q r) os
            ∙ sym (mine_of_others q r (λ k e. apart.right k e) os))))),
      )
  kind_says k each owned may whole os v fits fit m same =
      let none = none_behind own behind owned_behind may in
      let left_to = others_none r none os in (
        rw left_to (each (front k os) v.0 tt m.0),
        rw (← others_none r none (back k os) ∙ ap (back k) (sym left_to))
            (rest_each whole (back k os) v.1 (no_fits r own behind may none whole)
            (no_fits r own behind may none (back k os)) m.1
            (mine_none r none whole ∙ sym (mine_none r none (back k os)))),
      )

-- fields where a test holds
fields_if : {V : Type 0} (b : Bool) (s : ProgramForm V) {names : List Names} {c : Bool}
    {said : FieldsSaid V} {cells : CellsValue V} → (b ≡ true → FieldsSay names s c said cells)
    → FieldsSay names (program_if b s) c said cells
fields_if true s h = h refl
fields_if false s h = record { by = tt }

-- a field before others
pub both_say : {A B : Type 0} {own behind : List Names} {a : ProgramForm A} {s : ProgramForm B}
    {kind : SaidKind} {c d : Bool} {said : Said A} {more : FieldsSaid B} {cells : CellsValue A}
    {rest : CellsValue B} → OwnsKeys own a → OwnsKeys behind s → Says own a kind c said cells
    → FieldsSay behind s d more rest
    → FieldsSay (own ++ behind) (program_both own behind a s) d (BothSay kind own said more)
    (FieldThenSays own said rest)
both_say {own} {behind} {a = complete wide k q first} {s = product other named r fields} {said}
    {more} own_keys behind_keys h g = fields_if (may_follow k own behind) _ (λ may. record {
      by = (
        g.by.0,
        λ whole os v fits fit m same. rw h.by.1 (kind_says own said more q first fields
            behind_keys.by g.by.1 k h.by.2 own_keys.by may whole os v fits fit m same),
      );
    })
both_say {own} {behind} {a = complete wide ByName q first} {s = before_commands value} own_keys
    behind_keys h g = fields_if (are_all_apart own behind) _ (λ on. record {
      by = (
        g.by.0,
        λ cs v read. record {
          roles = q;
          owns = own_keys.by;
          told = record {
            own_pieces = read.own_pieces;
            left_cells = read.left_cells;
            taken = read.taken;
            own = h.by.2 read.own_pieces v.0 (taken_own read.taken) read.own;
            left = g.by.1 read.left_cells v.1 read.left;
          };
        },
      );
    })
both_say {own} {behind} {a = complete wide ByName q first} {s = part p} own_keys behind_keys h g =
    fields_if (are_all_apart own behind) _ (λ on. record { by = tt })
both_say {own} {behind} {a = complete wide ByName q first} {s = after_parts value} own_keys
    behind_keys h g = fields_if (are_all_apart own behind) _ (λ on. record { by = tt })
both_say {own} {behind} {a = part p} {s = product wide named q fields} own_keys behind_keys h g =
    fields_if (are_all_apart own behind) _ (λ on. record { by = tt })
both_say {own} {behind} {a = part p} {s = before_commands value} own_keys behind_keys h g =
    fields_if (are_all_apart own behind) _ (λ on. record { by = tt })
both_say {own} {behind} {a = part p} {s = after_parts value} own_keys behind_keys h g =
    fields_if (are_all_apart own behind) _ (λ on. record { by = tt })
both_say own_keys behind_keys h g = record { by = tt }

-- which may be parts together
pub or_part_say : {V : Type 0} {s : ProgramForm V} {names : List Names} {c : Bool}
    {said : FieldsSaid V} {cells : CellsValue V} (p : PartForm V)
    → FieldsSay names s c said cells → FieldsSay names (or_part s p) c said cells
or_part_say p h = grind arith

-- what a constructor makes of the values of fields
pub program_con_says : {A B : Type 0} {names : List Names} {s : ProgramForm A} {c : Bool}
    {said : FieldsSaid A} {cells : CellsValue A} (f : Closure A B) → FieldsSay names s c said cells
    → Says names (program_con f s) (form_kind s) c (RecordSays said names f) (ClosedValue cells f)
program_con_says f g = grind (arith, others_unkeyed, closed_said)
