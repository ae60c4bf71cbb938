-- The entries of a part are what the flat form of the same parser reads of its pieces: what agrees
-- on that form agrees on the part, and the form of a named field keeps to the law of its part.
use Rattle.std.proofs.Common.{arith, false, subst, Option, List, Bool, true, not, ℕ, ap, refl, sym}
use Rattle.std.proofs.Common.{map, length, length-append, append-nil, inl, inr, None, Some, ◌∙◌}
use Rattle.std.proofs.Common.{◌∷◌, ◌≡◌, ◌++◌, ◌&&◌, ◌||◌, [], ⊎_elim, if◌then◌else◌, ◌⊎◌}
use Rattle.std.proofs.{lemmas.List.map-append, lemmas.Bool.and_parts}
use Rattle.std.specs.Option.{is_none}
use Rattle.bpaf_base.specs.{declared.arg.Arg.Arg, Items.is_key_of}
use Rattle.bpaf_doc.specs.Names.{Names}
use Rattle.bpaf_text.specs.Named.{KeyWithValue, Named as Key}
use Rattle.bpaf_laws.specs.Reading.{first_set, Outcome}
use Rattle.bpaf_laws.specs.{Leaves.value_without_key, Combinators.is_nil}
use Rattle.bpaf_exact.specs.Flat.{Closure, FrontOf, Gap, Groups, SingleValue, Variables, gap_of}
use Rattle.bpaf_exact.specs.Flat.{TakesFirst, first_later, first_one, first_two, ByName, ErrorClass}
use Rattle.bpaf_exact.specs.Flat.{FieldLaw, KeyLaw}
use Rattle.bpaf_exact.specs.Parts.{Entries, KeyFirst, NoOwn, Part, PartForm, PartFormAgrees}
use Rattle.bpaf_exact.specs.Parts.{PartFormLaw, entry, kept_part, key_part, last_key_part, no_entry}
use Rattle.bpaf_exact.specs.Parts.{no_part, of_part, part_if, some_part, texts_part, is_part}
use Rattle.bpaf_exact.specs.Parts.{HasEntries, IsSpoiled, PartLaw, PartValue, Turn, WhyNone, absent}
use Rattle.bpaf_exact.specs.Parts.{present}
use Rattle.bpaf_exact.specs.Pieces.{Alone, Cells, IsNamed, LinePiece, Roles, Two, pieces, One, Owns}
use Rattle.bpaf_exact.specs.Pieces.{WithNext, is_value, with_next, Foreign, Role}
use Rattle.bpaf_exact.specs.ProgramForm.{AgreesRound, ArgumentValue, LastGroup, ProgramForm}
use Rattle.bpaf_exact.specs.ProgramForm.{alternative, argument_field, argument_group, argument_part}
use Rattle.bpaf_exact.specs.ProgramForm.{argument_part_form, argument_roles, choice_only, complete}
use Rattle.bpaf_exact.specs.ProgramForm.{flag_field, flag_part_form, has_part, key_field, or_part}
use Rattle.bpaf_exact.specs.ProgramForm.{part, product, program_dressed, program_if, FlagValue}
use Rattle.bpaf_exact.specs.ProgramForm.{pure_field, single}
use Rattle.bpaf_exact.proofs.Parts.{lacks_turn, one_turn, turn_entries}
use Rattle.bpaf_exact.proofs.{Cuts.begin_at}
use Rattle.bpaf_exact.proofs.{Names.never_nil, Product.none_of_nobody, Leaves.owns, Places.test_owns}
use Rattle.std.proofs.{Common.◌⊎◌}
use Rattle.bpaf_exact.proofs.Cuts.{first_pieces}
use Rattle.bpaf_exact.proofs.{PartKeys.one_first}
use Rattle.bpaf_exact.proofs.{Leaves.named, Places.test_named}
use Rattle.bpaf_exact.proofs.{Cuts.first_pieces, Cuts.begin_at, PartKeys.one_first, Leaves.named}
use Rattle.bpaf_exact.proofs.{Leaves.owns, Places.test_named, Places.test_owns, Names.never_nil}
use Rattle.bpaf_exact.proofs.{Product.none_of_nobody}

-- An entry's pieces stand in front of its own, and a group reads them, before those that are left
-- and alone.
pub record ReadsFront {T : Type 0} (q : Roles) (group : Groups T) (cs : Cells) (v : T) (ds : Cells)
    : Type 0 where
  pub read : group (pieces q cs) v (pieces q ds)
  pub front : List LinePiece
  pub is : pieces q cs ≡ front ++ pieces q ds
  pub alone : group front v []

-- the entries of a part are those of a key, of which one without its value means nothing
pub record ReadsKeys {T : Type 0} (each : LinePiece → T → Type 0) (p : Part T) : Type 0 where
  pub named : IsNamed p.roles
  pub whole : (k : Arg) (v : T) → p.roles k ≡ WithNext → each (One k) v → ⊥
  pub entries : {cs ds : Cells} {v : T} → p.first cs v ds → KeyFirst p.roles each cs v ds
  pub back : {cs ds : Cells} {v : T} → KeyFirst p.roles each cs v ds → p.first cs v ds

-- it is absent where there is a value for no piece, with that
pub record ReadsGap {T : Type 0} (gap : Gap T) (p : Part T) : Type 0 where
  pub gone : {v : T} → p.absent v → (gap.has ≡ true) × gap.absent v
  pub given : {v : T} → gap.absent v → p.absent v
  pub lost : p.missing → gap.has ≡ false
  pub lacks : gap.has ≡ false → p.missing

-- a key without a value for no piece
pub record ReadsChoice {T : Type 0} (names : List Names) (each : LinePiece → T → Type 0)
    (p : Part T) : Type 0 where
  pub keys : ReadsKeys each p
  pub owns : Owns p.roles names
  pub absence : ReadsGap (gap_of each None) p

-- its entries are read by a group
pub record ReadsGroups {T : Type 0} (group : Groups T) (gap : Gap T) (p : Part T) : Type 0 where
  pub starts : (v : T) (rest : List LinePiece) → group [] v rest → ⊥
  pub entries : {cs ds : Cells} {v : T} → p.first cs v ds → ReadsFront p.roles group cs v ds
  pub back : {cs : Cells} {v : T} {rest : List LinePiece} → group (pieces p.roles cs) v rest
      → (ds : Cells) × p.first cs v ds × (pieces p.roles ds ≡ rest)
  pub absence : ReadsGap gap p

-- they have the values of some pieces, those in front, and it is absent with a value of no piece;
-- and what is a value of all its pieces is one of the part
pub record ReadsPieces {T : Type 0} (value : List LinePiece → T → Type 0) (p : Part T) : Type 0
  where
    pub entries : {cs ds : Cells} {v : T} → p.first cs v ds → (front : List LinePiece)
        × (pieces p.roles cs ≡ front ++ pieces p.roles ds) × value front v
    pub gone : {v : T} → p.absent v → value [] v
    pub back : {cs : Cells} {v : T} → value (pieces p.roles cs) v
        → (ds : Cells) × PartValue p cs v ds

-- there is a part with these items, and it reads so
abbrev pub OfPart : {T : Type 0} → Roles → (Part T → Type 0) → PartForm T → Type 0
OfPart q reads no_part = ⊥
OfPart q reads (some_part p) = (p.roles ≡ q) × reads p

-- the same, as a record
pub record ReadsBy {T : Type 0} (q : Roles) (reads : Part T → Type 0) (p : PartForm T) : Type 0
  where
    pub part : OfPart q reads p

-- what may be a part reads as a flat form does, with keys of these names
abbrev pub Reads : {T : Type 0} → List Names → ProgramForm T → PartForm T → Type 0
Reads names (alternative wide q each) p = ReadsBy q (ReadsChoice names each) p
Reads names (single wide ByName q group gap) p = ReadsBy q (ReadsGroups group gap) p
Reads names (complete wide ByName q value) p = ReadsBy q (ReadsPieces value) p
Reads names _ p = Unit {0}

-- the same of any form
pub record FormReads {T : Type 0} (names : List Names) (s : ProgramForm T) (p : PartForm T) : Type 0
  where
    pub by : Reads names s p

-- with what is made of a part
pub by_more : {A B : Type 0} {q : Roles} {reads : Part A → Type 0} {read : Part B → Type 0}
    (more : Part A → Part B) → ((p : Part A) → (more p).roles ≡ p.roles)
    → ((p : Part A) → reads p → read (more p)) → {p : PartForm A} → ReadsBy q reads p
    → ReadsBy q read (of_part more p)
by_more more same made r = grind arith

-- what stands in front of the same is the same
same_front : {X : Type 0} (xs ys zs : List X) → xs ++ zs ≡ ys ++ zs → xs ≡ ys
same_front [] [] zs e = refl
same_front [] (y ∷ ys) zs e =
    let l = ap length e in absurd (omega (arith, l, length-append ys zs))
same_front (x ∷ xs) [] zs e =
    let l = ap length e in absurd (omega (arith, l, length-append xs zs))
same_front (x ∷ xs) (y ∷ ys) zs e =
    let tail : xs ++ zs ≡ ys ++ zs = cc in
    let i = same_front xs ys zs tail in cc

-- A closure that agrees on the form agrees on the part.
pub reads_agree : {env : Variables} {A B : Type 0} {inner : Outcome A} {names : List Names}
    {s : ProgramForm A} {p : PartForm A} (f : Closure A B) → is_part p ≡ has_part s
    → PartFormLaw env inner names p → FormReads names s p → AgreesRound f s p → PartFormAgrees f p
reads_agree {p = no_part} f fits law reads a = tt
reads_agree {s = alternative wide q each} {p = some_part p} f fits law reads a = (
  λ cs x y c m k yes no.
      let g = reads.by.part.1.keys.entries m.1 in
      let h = reads.by.part.1.keys.entries k.1 in
      a g.piece x y c g.means (subst (λ o. each o y)
      (sym (one_first reads.by.part.1.keys.named g.takes h.takes).0) h.means) yes no,
  λ x y c m k yes no. let e = (reads.by.part.1.absence.gone m).0 in cc,
)
reads_agree {s = single wide ByName q group gap} {p = some_part p} f fits law reads a = (
  λ cs x y c m k yes no.
      let same : m.0 ≡ k.0 = law.by.0.is.one m.1 k.1 in
      a.0 (pieces p.roles cs) (pieces p.roles m.0) x y c (reads.by.part.1.entries m.1).read
      (subst (λ z. group (pieces p.roles cs) y (pieces p.roles z)) (sym same)
      (reads.by.part.1.entries k.1).read) yes no,
  λ x y c m k yes no.
      a.1 x y c (reads.by.part.1.absence.gone m).1 (reads.by.part.1.absence.gone k).1 yes no,
)
reads_agree {s = complete wide ByName q value} {p = some_part p} f fits law reads a = (
  λ cs x y c m k yes no.
      let g = reads.by.part.1.entries m.1 in
      let h = reads.by.part.1.entries k.1 in
      let same : m.0 ≡ k.0 = law.by.0.is.one m.1 k.1 in
      let front = same_front g.0 h.0 (pieces p.roles m.0) (sym g.1 ∙ (h.1
      ∙ ap (λ z. h.0 ++ pieces p.roles z) (sym same))) in
      a g.0 x y c g.2 (subst (λ z. value z y) (sym front) h.2) yes no,
  λ x y c m k yes no. a [] x y c (reads.by.part.1.gone m) (reads.by.part.1.gone k) yes no,
)
reads_agree {s = product wide named q fields} {p = some_part p} f fits law reads a = a
reads_agree {s = part z} {p = some_part p} f fits law reads a = a
reads_agree {s = _} {p = some_part p} f fits law reads a = absurd cc

-- The law of a form.

-- what has the values of pieces keeps to the law of a field where it keeps to that of a part
pub field_law_of : {env : Variables} {T : Type 0} {outcome : Outcome T}
    {value : List LinePiece → T → Type 0} {p : Part T} → PartLaw env T outcome p
    → ReadsPieces value p → FieldLaw env T outcome ByName p.roles value
field_law_of {T} {value} {p} l r = record {
  own = l.is.named;
  keeps = record {
    ok = λ s t v w o. let i = l.ok s t v w o in record {
      steady = i.steady;
      takes = i.takes;
      read = by_read i.gave;
      rest = λ none. none;
      all = λ u h. by_all (r.back h).1 i.gave;
    };
    err = λ s t e w o u h. ⊎_elim (λ c. c) (λ i. absurd (by_why (r.back h).1 i.why))
        (l.err s t e w o);
  };
}
  where
    has_entries : {cs ds : Cells} {v : T} → PartValue p cs v ds → HasEntries p cs
    has_entries i = turn_entries l.is i.turn ([], _, no_entry i.none)

    by_read : {cs ds : Cells} {v : T} → Turn p cs v ds ⊎ (IsSpoiled p cs × IsSpoiled p ds)
        → NoOwn p ds → value (pieces p.roles cs) v
    by_read {v = v} (inl (present g)) none =
        let e = r.entries g in
        subst (λ z. value z v) (sym (e.1 ∙ (ap (λ z. e.0 ++ z) none ∙ append-nil e.0))) e.2
    by_read {v = v} (inl (absent f a same)) none = subst (λ z. value z v) (sym f) (r.gone a)
    by_read {ds = ds} (inr n) none = absurd (n.1 ([], ds, no_entry none))

    by_all : {cs ds es : Cells} {v w : T} → PartValue p cs w es
        → Turn p cs v ds ⊎ (IsSpoiled p cs × IsSpoiled p ds) → NoOwn p ds
    by_all i (inl turn) = subst (NoOwn p) (one_turn l.is i.turn turn) i.none
    by_all i (inr n) = absurd (n.0 (has_entries i))

    by_why : {cs ds : Cells} {c : ErrorClass} {v : T} → PartValue p cs v ds → WhyNone p cs c → ⊥
    by_why i (inl f) = lacks_turn l.is f.0 f.1 i.turn
    by_why i (inr n) = n (has_entries i)

-- what is read by groups has the values of one
pub groups_pieces : {T : Type 0} {group : Groups T} {gap : Gap T} {p : Part T}
    → ReadsGroups group gap p → ReadsPieces (SingleValue T group gap) p
groups_pieces r = grind arith

-- what is read by groups keeps to the laws of a key where it keeps to that of a part
pub key_law_of : {env : Variables} {T : Type 0} {outcome : Outcome T} {group : Groups T}
    {gap : Gap T} {p : Part T} → PartLaw env T outcome p → ReadsGroups group gap p
    → KeyLaw env T outcome p.roles group gap
key_law_of l r = grind (arith, field_law_of, groups_pieces)

-- where the flat form is nothing it is a part
pub or_reads : {T : Type 0} {names : List Names} {s : ProgramForm T} {p : PartForm T}
    → FormReads names s p → FormReads names (or_part s p) p
or_reads l = grind arith

-- where a test holds
pub if_reads : {T : Type 0} {names : List Names} (b : Bool) {s : ProgramForm T} {p : PartForm T}
    → FormReads names s p → FormReads names (program_if b s) (part_if b p)
if_reads true l = l
if_reads false l = record { by = tt }

-- another look
pub dressed_reads : {T : Type 0} {names : List Names} {s : ProgramForm T} {p : PartForm T}
    → FormReads names s p → FormReads names (program_dressed s) p
dressed_reads l = grind arith

-- one parser of a choice
pub only_reads : {T : Type 0} {names : List Names} {s : ProgramForm T} {p : PartForm T}
    → FormReads names s p → FormReads names (choice_only s) p
only_reads l = grind arith

-- Keys.

-- the first piece is taken, but for a key without its value
take_front : {q : Roles} (cs : Cells) {o : LinePiece} {os : List LinePiece}
    → ((k : Arg) → q k ≡ WithNext → One k ≡ o → ⊥) → pieces q cs ≡ o ∷ os
    → (ds : Cells) × TakesFirst q cs o ds
take_front [] whole e = absurd cc
take_front (None ∷ cs) whole e = let t = take_front cs whole e in (None ∷ t.0, first_later tt t.1)
take_front {q} (Some k ∷ cs) {o} {os} whole e = by_role (q k) refl (λ f. take_front cs whole f)
  where
    by_value : (b : Bool) (w : Arg) (ds : Cells) → q k ≡ WithNext → is_value w ≡ b
        → (if b then Two k w else One k) ≡ o
        → (es : Cells) × TakesFirst q (Some k ∷ (Some w ∷ ds)) o es
    by_value true w ds h v d = (
      None ∷ (None ∷ ds),
      subst
          (λ z. TakesFirst q (Some k ∷ (Some w ∷ ds)) z (None ∷ (None ∷ ds))) d (first_two h v),
    )
    by_value false w ds h v d = absurd (whole k h d)

    by_next : (ds : Cells) → q k ≡ WithNext → with_next k ds ≡ o
        → (es : Cells) × TakesFirst q (Some k ∷ ds) o es
    by_next [] h d = absurd (whole k h d)
    by_next (None ∷ ds) h d = absurd (whole k h d)
    by_next (Some w ∷ ds) h d = by_value (is_value w) w ds h refl d

    by_role : (x : Role) → q k ≡ x
        → (pieces q cs ≡ o ∷ os → (ds : Cells) × TakesFirst q cs o ds)
        → (ds : Cells) × TakesFirst q (Some k ∷ cs) o ds
    by_role Foreign h on =
        let t = on (sym (begin_at k cs (pieces q cs) h) ∙ e) in (Some k ∷ t.0, first_later h t.1)
    by_role Alone h on =
        let a = begin_at k cs (pieces q cs) h in
        let d : One k ≡ o = cc in
        (None ∷ cs, subst (λ z. TakesFirst q (Some k ∷ cs) z (None ∷ cs)) d (first_one h))
    by_role WithNext h on =
        let a = begin_at k cs (pieces q cs) h in
        let d : with_next k cs ≡ o = cc in
        by_next cs h d

-- of a key the first piece is a group
pub keys_groups : {T : Type 0} {each : LinePiece → T → Type 0} {gap : Gap T} {p : Part T}
    → ReadsKeys each p → ReadsGap gap p → ReadsGroups (FrontOf T each) gap p
keys_groups {each} {p} r gap = record {
  starts = λ v rest g. let e = g.1 in cc;
  entries = λ g.
      let k = r.entries g in
      let e = first_pieces p.roles r.named k.takes in
      record {
        read = (k.piece, e, k.means);
        front = k.piece ∷ [];
        is = e;
        alone = (k.piece, refl, k.means);
      };
  back = λ {cs} {v} g.
      let t = take_front cs
      (λ k h e. r.whole k v h (subst (λ o. each o v) (sym e) g.2)) g.1 in
      let f = first_pieces p.roles r.named t.1 in
      (t.0, r.back (record { piece = g.0; takes = t.1; means = g.2 }), cc);
  absence = gap;
}

-- a key itself
key_reads : {T : Type 0} {q : Roles} {value : LinePiece → T → Type 0} {gap : Gap T} → IsNamed q
    → ((k : Arg) (v : T) → q k ≡ WithNext → value (One k) v → ⊥)
    → ReadsKeys value (key_part q value gap)
key_reads n whole = record { named = n; whole = whole; entries = λ g. g; back = λ g. g }

-- one of which the first piece is read
front_reads : {T : Type 0} {names : List Names} (wide may_choose : Bool) {q : Roles}
    (value : LinePiece → T → Type 0) (gap : Gap T) → IsNamed q → Owns q names
    → ((k : Arg) (v : T) → q k ≡ WithNext → value (One k) v → ⊥)
    → ((v : T) → gap.absent v → gap.has ≡ true) → (may_choose ≡ true → gap.has ≡ false)
    → Reads names (key_field wide may_choose q value (FrontOf T value) gap)
    (some_part (key_part q value gap))
front_reads wide true value gap n owns whole has none = grind (arith, key_reads)
front_reads wide false value gap n owns whole has none = record {
  part = (
    refl,
    keys_groups (key_reads n whole)
        (record { gone = λ {v} a. (has v a, a); given = λ a. a; lost = λ e. e; lacks = λ e. e }),
  );
}

-- keys with their texts
texts_told : {q : Roles} {cs ds : Cells} {pairs : List (Arg × Arg)} → IsNamed q
    → Entries (texts_part q) cs pairs ds → pieces q cs ≡ map (λ pair. Two pair.0 pair.1) pairs
texts_told n (no_entry e) = e
texts_told {q} n (entry g more) =
    let e = first_pieces q n g.takes in
    let i = texts_told n more in
    let m = g.means in cc

-- pieces that are such keys with texts are entries
texts_back : {q : Roles} (cs : Cells) (pairs : List (Arg × Arg)) → IsNamed q
    → pieces q cs ≡ map (λ pair. Two pair.0 pair.1) pairs
    → (ds : Cells) × Entries (texts_part q) cs pairs ds
texts_back cs [] n e = (cs, no_entry e)
texts_back {q} cs (pair ∷ pairs) n e =
    let t = take_front cs never e in
    let f = first_pieces q n t.1 in
    let i = texts_back t.0 pairs n cc in
    (i.0, entry (record { piece = Two pair.0 pair.1; takes = t.1; means = refl }) i.1)
  where
    never : (k : Arg) → q k ≡ WithNext → One k ≡ Two pair.0 pair.1 → ⊥
    never k h d = absurd cc

-- behind all entries there is no own piece
pub end_none : {T : Type 0} {p : Part T} {cs ds : Cells} {vs : List T} → Entries p cs vs ds
    → NoOwn p ds
end_none (no_entry e) = e
end_none (entry g more) = end_none more

-- one of which the last text is read
last_reads : {T : Type 0} (means : List ℕ → T → Type 0) {q : Roles} (gap : Gap T) → IsNamed q
    → ((v : T) → gap.absent v → gap.has ≡ true)
    → ReadsGroups (LastGroup T means) gap (last_key_part means q gap)
last_reads {T} means {q} gap n has = record {
  starts = λ v rest g. never_nil (map pair_piece g.0) (Two g.1.0 g.1.1) [] (sym g.2);
  entries = λ {cs} {ds} {v} g.
      let none : pieces q ds ≡ [] = end_none g.1.entries in
      let group : LastGroup T means (pieces q cs) v [] = (
        g.2.before,
        g.2.last,
        texts_told n g.1.entries
            ∙ (ap (map pair_piece) g.2.is ∙ map-append pair_piece g.2.before (g.2.last ∷ [])),
        g.2.meant,
        refl,
      ) in
      record {
        read = rw none group;
        front = pieces q cs;
        is = sym (append-nil (pieces q cs)) ∙ ap (λ z. pieces q cs ++ z) (sym none);
        alone = group;
      };
  back = λ {cs} {v} g.
      let t = texts_back cs (g.0 ++ g.1 ∷ []) n
      (g.2 ∙ sym (map-append pair_piece g.0 (g.1 ∷ []))) in (
        t.0,
        (
          g.0 ++ g.1 ∷ [],
          record {
            entries = t.1;
            some = λ e. never_nil (map pair_piece g.0) (Two g.1.0 g.1.1) [] (sym g.2 ∙ e);
            fine = inl refl;
          },
          record { before = g.0; last = g.1; is = refl; meant = g.3 },
        ),
        end_none t.1 ∙ sym g.4,
      );
  absence = record { gone = λ {v} a. (has v a, a); given = λ a. a; lost = λ e. e; lacks = λ e. e };
}
  where
    pair_piece : Arg × Arg → LinePiece
    pair_piece pair = Two pair.0 pair.1

-- a flag
pub flag_reads : {T : Type 0} (clones : T → T → Type 0) (key : Key) (present : T)
    (absent : Option T) (variables : Variables)
    → FormReads (key.names ∷ []) (flag_field clones key present absent variables)
    (flag_part_form clones key present absent variables)
flag_reads clones key here none variables = record {
  by = front_reads (not (is_nil key.envs)) (is_nil key.envs && is_none none)
      (FlagValue (clones here))
      (gap_of clones (value_without_key here none (first_set variables key.envs)))
      (test_named (is_key_of key.names) key.names Alone (λ k e. e)) (test_owns Alone (λ k e. e))
      (λ k v e m. grind arith) (λ v m. grind arith) (λ e. grind arith);
}

-- an argument
pub argument_reads : {T : Type 0} (means : List ℕ → T → Type 0) (argument : KeyWithValue)
    (variables : Variables)
    → FormReads (argument.named.names ∷ []) (argument_field means argument variables)
    (argument_part_form means argument variables)
argument_reads {T} means argument variables =
    record { by = by_last argument.last (is_nil argument.named.envs && not argument.last) refl }
  where
    wide : Bool
    wide = argument.adjacent || not (is_nil argument.named.envs)

    gap : Gap T
    gap = gap_of means (first_set variables argument.named.envs)

    has : (v : T) → gap.absent v → gap.has ≡ true
    has v m = grind arith

    by_last : (last may : Bool) → may ≡ (is_nil argument.named.envs && not last)
        → Reads (argument.named.names ∷ []) (key_field wide may
        (argument_roles argument.adjacent argument.named.names)
        (ArgumentValue means) (argument_group means last) gap) (some_part (argument_part last means
        (argument_roles argument.adjacent argument.named.names) gap))
    by_last false may e = front_reads wide may (ArgumentValue means) gap (named argument)
        (owns argument) (λ k v f m. m) has (λ h. grind arith)
    by_last true true e =
        let no = (and_parts (is_nil argument.named.envs) false (sym e)).1 in absurd cc
    by_last true false e = record { part = (refl, last_reads means gap (named argument) has) }

-- a kept value
pub kept_reads : {T : Type 0} (given : T → Type 0)
    → FormReads [] (pure_field given) (some_part (kept_part given))
kept_reads given = record {
  by = record {
    part = (
      refl,
      record {
        entries = λ g. absurd g;
        gone = λ a. a;
        back = λ {cs} h. (
          cs,
          record { turn = absent (none_of_nobody cs) h refl; none = none_of_nobody cs },
        );
      },
    );
  };
}
