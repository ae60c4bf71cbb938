-- What combinators make of a part is read as what they make of its flat form is.
use Rattle.std.proofs.Common.{◌&&◌, ◌||◌, arith, false, subst, Option, List, Bool, true, ℕ, ap}
use Rattle.std.proofs.Common.{refl, sym, append-nil, inl, inr, None, Some, ◌∙◌, ◌∷◌, ◌≡◌, ◌++◌, []}
use Rattle.std.proofs.Common.{⊎_elim, ◌⊎◌, ap₂}
use Rattle.std.proofs.lemmas.Bool.{false_from_ne_true}
use Rattle.bpaf_base.specs.declared.arg.Arg.{Arg}
use Rattle.bpaf_doc.specs.Names.{Names}
use Rattle.bpaf_exact.specs.Flat.{Closure, FallbackValue, Gap, Groups, LastOf, OptionalValue, Own}
use Rattle.bpaf_exact.specs.Flat.{OwnList, SingleValue, gap_of, own_more, own_none, listed}
use Rattle.bpaf_exact.specs.Flat.{listed_and_absent, only_absent, repeated, some_closure}
use Rattle.bpaf_exact.specs.Flat.{TakesFirst, first_later, first_one, first_two, ClosedValue}
use Rattle.bpaf_exact.specs.Flat.{ByName, FieldKind, closed_gap, either_value}
use Rattle.bpaf_exact.specs.Parts.{Entries, KeyFirst, NoOwn, Part, PartForm, entry, no_entry}
use Rattle.bpaf_exact.specs.Parts.{no_value, of_first, of_part, of_parts, of_second, one_value}
use Rattle.bpaf_exact.specs.Parts.{part_choice, part_closed, part_default, part_if, part_last}
use Rattle.bpaf_exact.specs.Parts.{part_optional, part_repeat, part_some, some_part, ChoiceFirst}
use Rattle.bpaf_exact.specs.Parts.{IsFine, OptionalAbsent, RepeatAbsent, Leads, PartValue, Turn}
use Rattle.bpaf_exact.specs.Parts.{absent, part_wrapped, present}
use Rattle.bpaf_exact.specs.Pieces.{Apart, Cells, LinePiece, Roles, either, are_all_apart, is_own}
use Rattle.bpaf_exact.specs.Pieces.{pieces, One, WithNext, is_own_role}
use Rattle.bpaf_exact.specs.ProgramForm.{are_words_apart, as_last, both_last, is_commands}
use Rattle.bpaf_exact.specs.ProgramForm.{CellsValue, DefaultCommands, OptionalCommands, commands}
use Rattle.bpaf_exact.specs.ProgramForm.{RepeatCommands, program_default, program_last, or_form}
use Rattle.bpaf_exact.specs.ProgramForm.{program_either, program_repeat, ProgramForm, alternative}
use Rattle.bpaf_exact.specs.ProgramForm.{complete, completed, program_choice, program_closed}
use Rattle.bpaf_exact.specs.ProgramForm.{program_if, program_alone, program_both, program_con}
use Rattle.bpaf_exact.specs.ProgramForm.{program_field, is_named, program_optional, single}
use Rattle.bpaf_exact.proofs.Cuts.{Union, either_union, first_pieces, swap_union, union_named}
use Rattle.bpaf_exact.proofs.Names.{apart_of_names, either_owns, foreign_of}
use Rattle.bpaf_exact.proofs.{PartHeads.first_leads, PartHeads.first_own}
use Rattle.bpaf_exact.proofs.{PartHeads.not_left_own}
use Rattle.bpaf_exact.proofs.PartForms.{last_absent, some_absent}
use Rattle.bpaf_exact.proofs.{Cuts.union_named, Names.either_owns, Names.foreign_of}
use Rattle.bpaf_exact.proofs.PartHeads.{first_leads, first_own, not_left_own}
use Rattle.bpaf_exact.proofs.PartReads.{ReadsBy, ReadsChoice, ReadsGap, ReadsGroups, ReadsKeys}
use Rattle.bpaf_exact.proofs.PartReads.{ReadsPieces, FormReads, groups_pieces, keys_groups}
use Rattle.bpaf_exact.proofs.PartReads.{end_none, by_more}

-- its values are made of those of the part, or are there where it is absent
wrapped_reads : {A B : Type 0} {value : List LinePiece → A → Type 0} {p : Part A}
    {made : List LinePiece → B → Type 0} {makes : A → B → Type 0} {gone : B → Type 0}
    {lost : Type 0} → ReadsPieces value p
    → ((os : List LinePiece) (x : A) (v : B) → value os x → makes x v → made os v)
    → ((v : B) → gone v → made [] v)
    → ((os : List LinePiece) (v : B) → made os v
    → ((x : A) × value os x × makes x v × (p.absent x → gone v)) ⊎ ((os ≡ []) × gone v))
    → ReadsPieces made (part_wrapped p makes gone lost)
wrapped_reads {A} {B} {value} {p} {made} {makes} {gone} {lost} r entries absence back = record {
  entries = λ {cs} {ds} {v} g.
      let e = r.entries g.1 in (e.0, e.1, entries e.0 g.0 v e.2 g.2);
  gone = λ {v} a. absence v a;
  back = λ {cs} {v} h. ⊎_elim (λ x. let b = r.back x.1 in
      (b.0, record { turn = by_turn x.2 x.3 b.1.turn; none = b.1.none }))
      (λ a. (cs, record { turn = absent a.0 a.1 refl; none = a.0 })) (back (pieces p.roles cs) v h);
}
  where
    by_turn : {cs ds : Cells} {x : A} {v : B} → makes x v → (p.absent x → gone v)
        → Turn p cs x ds → Turn (part_wrapped p makes gone lost) cs v ds
    by_turn y z x = grind arith

module _ {A B : Type 0} (f : Closure A B) where
  -- a closure round what is read by a group
  closed_groups : {group : Groups A} {gap : Gap A} {p : Part A}
      → ReadsGroups group gap p
      → ReadsGroups (λ os v rest. ClosedValue (λ x a. group x a rest) f os v) (closed_gap gap f)
      (part_closed p f)
  closed_groups r = grind arith

  -- round a key
  closed_keys : {names : List Names} {each : LinePiece → A → Type 0} {p : Part A}
      → ReadsChoice names each p → ReadsChoice names (ClosedValue each f) (part_closed p f)
  closed_keys r = grind arith

  -- round what has the values of pieces
  closed_pieces : {value : List LinePiece → A → Type 0} {p : Part A}
      → ReadsPieces value p → ReadsPieces (ClosedValue value f) (part_closed p f)
  closed_pieces r = grind (arith, wrapped_reads)

  -- round a parser
  pub closed_reads : {names : List Names} {s : ProgramForm A} {p : PartForm A}
      → FormReads names s p
      → FormReads names (program_closed f s) (of_part (λ z. part_closed z f) p)
  closed_reads l = grind (arith, closed_keys, closed_groups, closed_pieces)

-- What may be left out, defaults and repeats.

-- a field with values of its pieces, of a kind that is named
pieces_reads : {T : Type 0} {names : List Names} {wide : Bool} (k : FieldKind) {q : Roles}
    {value : List LinePiece → T → Type 0} {p : PartForm T}
    → (is_named k ≡ true → ReadsBy q (ReadsPieces value) p)
    → FormReads names (complete wide k q value) p
pieces_reads k r = grind arith

-- a field of such a kind is read by its group
groups_of : {T : Type 0} {names : List Names} {wide : Bool} (k : FieldKind) {q : Roles}
    {group : Groups T} {gap : Gap T} {p : PartForm T} → is_named k ≡ true
    → FormReads names (single wide k q group gap) p → ReadsBy q (ReadsGroups group gap) p
groups_of ByName e r = r.by
groups_of _ e r = absurd cc

-- a repeated field is named where the field is
repeated_named : (k : FieldKind) → is_named k ≡ is_named (repeated k)
repeated_named k = grind arith

module _ {T : Type 0} {group : Groups T} {gap : Gap T} {p : Part T}
    (r : ReadsGroups group gap p) where
  -- the list of a repeat
  own_list : {cs ds : Cells} {vs : List T} → Entries p cs vs ds → Own T group (pieces p.roles cs) vs
  own_list (no_entry e) = rw e own_none
  own_list (entry g more) = own_more (r.entries g).read (own_list more)

  -- its entries
  own_entries : {os : List LinePiece} {vs : List T} → Own T group os vs → (cs : Cells)
      → pieces p.roles cs ≡ os → (ds : Cells) × Entries p cs vs ds
  own_entries own_none cs e = (cs, no_entry e)
  own_entries (own_more g o) cs e =
      let b = r.back (rw e g) in
      let i = own_entries o b.0 b.2 in
      (i.0, entry b.1 i.1)

  -- a list that isn't empty
  some_list : {cs : Cells} {v : T} {vs : List T} → IsFine p
      → Own T group (pieces p.roles cs) (v ∷ vs)
      → (ds : Cells) × PartValue (part_repeat p) cs (v ∷ vs) ds
  some_list {cs} {v} {vs} fine o =
      let i = own_entries o cs refl in (
        i.0,
        record {
          turn = present (record { entries = i.1; some = λ e. never i.1 e; fine = fine });
          none = end_none i.1;
        },
      )
    where
      never : {ds : Cells} → Entries p cs (v ∷ vs) ds → NoOwn p cs → ⊥
      never (entry {ds = es} {v = u} g more) e =
          r.starts u (pieces p.roles es) (rw (← e) (r.entries g).read)

  -- a repeat
  listed_reads : ReadsPieces (OwnList T group gap) (part_repeat p)
  listed_reads = record {
    entries = λ {cs} {v = vs} g. (
      pieces p.roles cs,
      sym (append-nil (pieces p.roles cs))
          ∙ ap (λ z. pieces p.roles cs ++ z) (sym (end_none g.entries)),
      by_fine vs g.entries g.some g.fine,
    );
    gone = λ a. by_absent a;
    back = λ {cs} h. by_list cs refl h;
  }
    where
      by_fine : {cs ds : Cells} (vs : List T) → Entries p cs vs ds → (NoOwn p cs → ⊥) → IsFine p
          → OwnList T group gap (pieces p.roles cs) vs
      by_fine vs es some (inl m) = listed (r.absence.lost m) (own_list es)
      by_fine [] (no_entry e) some fine = absurd (some e)
      by_fine (v ∷ vs) es some (inr a) =
          let e = r.absence.gone a.1 in listed_and_absent e.0 e.1 (own_list es)

      by_absent : {vs : List T} → RepeatAbsent p vs → OwnList T group gap [] vs
      by_absent (no_value m e) = rw e (listed (r.absence.lost m) own_none)
      by_absent (one_value a e) = let b = r.absence.gone a in rw e (only_absent b.0 b.1)

      by_list : {os : List LinePiece} {vs : List T} (cs : Cells) → pieces p.roles cs ≡ os
          → OwnList T group gap os vs → (ds : Cells) × PartValue (part_repeat p) cs vs ds
      by_list cs e (listed h own_none) = (
        cs,
        record {
          turn = absent e (no_value (r.absence.lacks h) refl) refl;
          none = e;
        },
      )
      by_list cs e (listed h (own_more g o)) =
          some_list (inl (r.absence.lacks h)) (rw e (own_more g o))
      by_list cs e (listed_and_absent {a} h ab o) =
          some_list (inr (a, r.absence.given ab)) (rw e o)
      by_list cs e (only_absent h ab) = (
        cs,
        record {
          turn = absent e (one_value (r.absence.given ab) refl) refl;
          none = e;
        },
      )

module _ {T : Type 0} {names : List Names} where
  -- what is made of a field with a group
  completed_reads : {B : Type 0} {s : ProgramForm T} {p : PartForm T}
      (kind : FieldKind → FieldKind)
      → ((k : FieldKind) → is_named k ≡ is_named (kind k))
      → (value : Groups T → Gap T → List LinePiece → B → Type 0)
      (round : CellsValue T → CellsValue B) (more : Part T → Part B)
      → ((p : Part T) → (more p).roles ≡ p.roles)
      → ((group : Groups T) (gap : Gap T) (p : Part T) → ReadsGroups group gap p
      → ReadsPieces (value group gap) (more p)) → FormReads names s p
      → FormReads names (completed kind value round s) (of_part more p)
  completed_reads {s = alternative wide q each} kind same value round more roles made l =
      pieces_reads (kind ByName) (λ e. by_more more roles
      (λ p r. made _ _ p (keys_groups r.keys r.absence)) l.by)
  completed_reads {s = single wide k q group gap} kind same value round more roles made l =
      pieces_reads (kind k) (λ e. by_more more roles (made group gap) (groups_of k (same k ∙ e) l))
  completed_reads {s = commands false v} kind same value round more roles made l =
      record { by = tt }
  completed_reads {s = _} kind same value round more roles made l = record { by = tt }

  -- what may be left out
  pub optional_reads : {s : ProgramForm T} {p : PartForm T} → FormReads names s p
      → FormReads names (program_optional s) (of_part part_optional p)
  optional_reads l = completed_reads (λ k. k) (λ k. refl) (OptionalValue T) (OptionalCommands T)
      part_optional (λ p. refl) (λ group gap p r. made r) l
    where
      made : {group : Groups T} {gap : Gap T} {p : Part T} → ReadsGroups group gap p
          → ReadsPieces (OptionalValue T group gap) (part_optional p)
      made {group} {gap} {p} r =
          wrapped_reads (groups_pieces r) (λ os x v h e. rw e h) by_absence by_value
        where
          by_absence : (v : Option T) → OptionalAbsent p v → OptionalValue T group gap [] v
          by_absence v a = grind arith

          by_value : (os : List LinePiece) (v : Option T) → OptionalValue T group gap os v
              → ((x : T) × SingleValue T group gap os x × (v ≡ Some x)
              × (p.absent x → OptionalAbsent p v)) ⊎ ((os ≡ []) × OptionalAbsent p v)
          by_value os v h = grind arith

  -- a default
  pub default_reads : {s : ProgramForm T} {p : PartForm T} (f : Closure (Unit {0}) T)
      → FormReads names s p
      → FormReads names (program_default f s) (of_part (λ z. part_default z f) p)
  default_reads f l = completed_reads (λ k. k) (λ k. refl)
      (λ group gap. FallbackValue T group gap f) (DefaultCommands T (f.yes tt))
      (λ z. part_default z f) (λ p. refl) (λ group gap p r.
      wrapped_reads (groups_pieces r) (λ os x v h e. rw e (inl h))
      (λ v a. ⊎_elim (λ x. inl (inr (refl, (r.absence.gone x).1)))
      (λ m. inr (refl, r.absence.lost m.0, m.1)) a)
      (λ os v h. ⊎_elim (λ own. inl (v, own, refl, λ a. inl a))
      (λ g. inr (g.0, inr (r.absence.lacks g.1, g.2))) h)) l

  -- a closure on what a repeat or default makes
  closed_completed : {B C : Type 0} (kind : FieldKind → FieldKind)
      (value : Groups T → Gap T → List LinePiece → B → Type 0) (round : CellsValue T → CellsValue B)
      (s : ProgramForm T) {p : PartForm C} (f : Closure B C)
      → FormReads names (completed kind (λ group gap. ClosedValue (value group gap) f)
      (λ inner. ClosedValue (round inner) f) s) p
      → FormReads names (program_closed f (completed kind value round s)) p
  closed_completed kind value round s f l = grind arith

  module _ {s : ProgramForm T} {p : PartForm T} (reads : FormReads names s p) where
    -- a closure on that list
    pub repeat_reads : {B : Type 0} (f : Closure (List T) B)
        → FormReads names (program_closed f (program_repeat s))
        (of_part (λ z. part_closed (part_repeat z) f) p)
    repeat_reads f = closed_completed repeated (OwnList T) (RepeatCommands T) s f
        (completed_reads repeated repeated_named
        (λ group gap. ClosedValue (OwnList T group gap) f)
        (λ inner. ClosedValue (RepeatCommands T inner) f) (λ z. part_closed (part_repeat z) f)
        (λ p. refl) (λ group gap p r. closed_pieces f (listed_reads r)) reads)

    -- that of one with a value at least
    pub some_reads : FormReads names
        (program_closed (some_closure T) (program_repeat s)) (of_part part_some p)
    some_reads = closed_completed repeated (OwnList T) (RepeatCommands T) s (some_closure T)
        (completed_reads repeated repeated_named
        (λ group gap. ClosedValue (OwnList T group gap) (some_closure T))
        (λ inner. ClosedValue (RepeatCommands T inner) (some_closure T)) part_some
        (λ p. refl) (λ group gap p r. wrapped_reads (listed_reads r)
        (λ os x v h y. record { from = x; read = h; made = y })
        (λ v a. let b = r.absence.gone a.1 in record {
          from = a.0 ∷ [];
          read = only_absent b.0 b.1;
          made = (a.2, λ e. absurd cc);
        })
        (λ os v c. inl (c.from, c.read, c.made, λ a. some_absent v c.made.0 c.made.1 a))) reads)

    -- its last value
    pub last_value_reads : FormReads names (program_last s) (of_part part_last p)
    last_value_reads = completed_reads repeated repeated_named (LastOf T) (λ value. value) part_last
        (λ p. refl) (λ group gap p r. wrapped_reads (listed_reads r)
        (λ os xs v h y. (y.before, subst (λ z. OwnList T group gap os z) y.is h))
        (λ v a. let b = r.absence.gone a in ([], only_absent b.0 b.1))
        (λ os v h. inl (
          h.0 ++ v ∷ [],
          h.1,
          record { before = h.0; is = refl },
          λ a. last_absent h.0 refl a,
        ))) reads

-- Choices.

-- the first piece of two is that of the one whose own it is
first_of : {qa qb r : Roles} {cs ds : Cells} {o : LinePiece} → Union qa qb r → is_own qa o ≡ true
    → TakesFirst r cs o ds → TakesFirst qa cs o ds
first_of u h (first_one {k} e) = first_one (sym (u.left k h) ∙ e)
first_of u h (first_two {k} e v) = first_two (sym (u.left k h) ∙ e) v
first_of u h (first_later {c = None} n t) = first_later tt (first_of u h t)
first_of {qa} u h (first_later {c = Some k} n t) =
    first_later (foreign_of (qa k) (false_from_ne_true (is_own_role (qa k))
    (λ e. let f = u.left k e in cc))) (first_of u h t)

-- a piece of both that isn't the first one's own is the second one's
other_own : (qa qb : Roles) (o : LinePiece) → is_own (either qa qb) o ≡ true → is_own qa o ≡ false
    → is_own qb o ≡ true
other_own qa qb o h e = grind arith

-- of a piece of one of two keys that one's value counts
module _ {T : Type 0} {a b : LinePiece → T → Type 0} {x y : Part T}
    (apart : Apart x.roles y.roles) (first : ReadsKeys a x)
    (second : ReadsKeys b y) where
  -- the items of both
  u : Union x.roles y.roles (either x.roles y.roles)
  u = either_union first.named second.named apart

  -- an entry of a choice is one of a key
  choice_entries : {cs ds : Cells} {v : T} → ChoiceFirst x y cs v ds
      → KeyFirst (either x.roles y.roles) (either_value x.roles a b) cs v ds
  choice_entries (of_first g l) =
      let k = first.entries g in
      let o = first_own k.takes in
      let m = k.means in record {
        piece = k.piece;
        takes = first_leads u l.first l.own k.takes;
        means = grind arith;
      }
  choice_entries (of_second g l) =
      let k = second.entries g in
      let o = not_left_own k.piece u (first_own k.takes) in
      let m = k.means in record {
        piece = k.piece;
        takes = first_leads (swap_union u) l.first l.own k.takes;
        means = grind arith;
      }

  -- and the other way
  choice_back : {cs ds : Cells} {v : T}
      → KeyFirst (either x.roles y.roles) (either_value x.roles a b) cs v ds
      → ChoiceFirst x y cs v ds
  choice_back {cs} {ds} {v} g = by_own (is_own x.roles g.piece) refl
    where
      lead : (p : Roles) → is_own p g.piece ≡ true → Leads p (either x.roles y.roles) cs
      lead p h = record {
        piece = g.piece;
        behind = _;
        first = first_pieces (either x.roles y.roles) (union_named u) g.takes;
        own = h;
      }

      by_own : (own : Bool) → is_own x.roles g.piece ≡ own → ChoiceFirst x y cs v ds
      by_own true h = of_first (first.back (record {
        piece = g.piece;
        takes = first_of u h g.takes;
        means = let m = g.means in grind arith;
      })) (lead x.roles h)
      by_own false h =
          let own = other_own x.roles y.roles g.piece (first_own g.takes) h in
          of_second (second.back (record {
            piece = g.piece;
            takes = first_of (swap_union u) own g.takes;
            means = let m = g.means in grind arith;
          })) (lead y.roles own)

  -- one without its value means nothing
  choice_whole : (k : Arg) (v : T) → either x.roles y.roles k ≡ WithNext
      → either_value x.roles a b (One k) v → ⊥
  choice_whole k v e m = let f = first.whole k v in let g = second.whole k v in grind arith

  -- a choice of keys reads as one key
  choice_keys : ReadsKeys (either_value x.roles a b) (part_choice x y)
  choice_keys = record {
    named = union_named u;
    whole = choice_whole;
    entries = choice_entries;
    back = choice_back;
  }

-- neither is ever absent with a value
choice_gap : {T : Type 0} (a b c : LinePiece → T → Type 0) {x y : Part T}
    → ReadsGap (gap_of a None) x → ReadsGap (gap_of b None) y
    → ReadsGap (gap_of c None) (part_choice x y)
choice_gap a b c {x} {y} first second = grind arith

-- a choice of two
pub choice_reads : {T : Type 0} {own others : List Names} (words more : List (List ℕ))
    {s t : ProgramForm T} {p r : PartForm T} → FormReads own s p → FormReads others t r
    → FormReads (own ++ others) (program_choice own others words more s t)
    (part_if (are_all_apart own others) (of_parts part_choice p r))
choice_reads {T} {own} {others} words more {s = alternative wide q a} {t = alternative other z b}
    {p = some_part x} {r = some_part y} ra rb = by_test (are_all_apart own others) refl
  where
    by_test : (test : Bool) → are_all_apart own others ≡ test → FormReads (own ++ others)
        (program_if test (alternative (wide || other) (either q z) (either_value q a b)))
        (part_if test (some_part (part_choice x y)))
    by_test false e = record { by = tt }
    by_test true e =
        let x_reads = ra.by.part in
        let y_reads = rb.by.part in
        let apart = apart_of_names x_reads.1.owns y_reads.1.owns e in
        record {
          by = record {
            part = (
              ap₂ either x_reads.0 y_reads.0,
              record {
                keys = subst (λ k. ReadsKeys (either_value k a b) (part_choice x y)) x_reads.0
                    (choice_keys apart x_reads.1.keys y_reads.1.keys);
                owns = either_owns x_reads.1.owns y_reads.1.owns;
                absence = choice_gap a b (either_value q a b) x_reads.1.absence y_reads.1.absence;
              },
            );
          };
        }
choice_reads words more ra rb = grind arith

-- a choice of two, which may be named parts
pub either_reads : {T : Type 0} {names : List Names} (own others : List Names)
    (words more : List (List ℕ)) (p r : PartForm T) (s t : ProgramForm T) (q : PartForm T)
    → FormReads names (program_choice own others words more s t) q
    → FormReads names (program_either own others words more p r s t) q
either_reads {names} own others words more p r s t q l =
    of_form (program_choice own others words more s t)
    (program_if (are_words_apart words more
    && (are_all_apart own others || (is_commands s || is_commands t)))
    (both_last (as_last words p s) (as_last more r t))) l
    (of_both _ (as_last words p s) (as_last more r t))
  where
    of_form : {T : Type 0} {q : PartForm T} (s t : ProgramForm T) → FormReads names s q
        → FormReads names t q → FormReads names (or_form s t) q
    of_form s t l m = grind arith

    of_both : {T : Type 0} {q : PartForm T} (b : Bool) (s t : ProgramForm T)
        → FormReads names (program_if b (both_last s t)) q
    of_both b s t = grind arith

-- What is no such form.

-- the last field
pub alone_reads : {T : Type 0} {names : List Names} (s : ProgramForm T) (p : PartForm T)
    → FormReads names (program_alone (program_field s)) p
alone_reads s p = grind arith

-- a field before others
pub both_reads : {A B : Type 0} {names : List Names} (own others : List Names)
    (s : ProgramForm A) (t : ProgramForm B) {p : PartForm (A × B)}
    → FormReads names (program_both own others s t) p
both_reads own others s t = grind arith

-- a constructor
pub con_reads : {A B : Type 0} {names : List Names} (f : Closure A B) (s : ProgramForm A)
    {p : PartForm B} → FormReads names (program_con f s) p
con_reads f s = grind arith
