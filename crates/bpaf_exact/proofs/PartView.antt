-- Where the values of what a part is made of look alike, its own do.
use Rattle.std.proofs.Common.{Option, arith, subst, Bool, List, refl, map, ◌∷◌, ◌≡◌, sym, ◌∙◌, true}
use Rattle.bpaf_exact.specs.Parts.{Entries, IsPart, OptionalAbsent, Part, PartForm, PartFormAgrees}
use Rattle.bpaf_exact.specs.Parts.{PartFormLaw, RepeatAbsent, Turn, absent, absent_first}
use Rattle.bpaf_exact.specs.Parts.{absent_second, entry, ChoiceAbsent, ChoiceFirst, key_part}
use Rattle.bpaf_exact.specs.Parts.{no_entry, no_part, no_value, of_first, of_part, of_parts}
use Rattle.bpaf_exact.specs.Parts.{of_second, one_value, part_choice, part_closed, part_default}
use Rattle.bpaf_exact.specs.Parts.{part_group, part_if, part_last, part_optional, part_repeat}
use Rattle.bpaf_exact.specs.Parts.{last_key_part, part_some, part_wrapped, present, some_part}
use Rattle.bpaf_exact.specs.ProgramForm.{argument_part, argument_part_form, argument_roles}
use Rattle.std.proofs.Common.{[], ap, ℕ, false, inl, inr, None, Some, ◌++◌, ◌⊎◌}
use Rattle.std.proofs.lemmas.List.{map-append}
use Rattle.bpaf_exact.specs.Flat.{Closure, Decides, Gap, Variables, gap_of, some_closure}
use Rattle.bpaf_exact.specs.Says.{Alike, PartFormOneView, PartOneView, Respects, pair_view}
use Rattle.bpaf_exact.specs.Pieces.{Apart, Cells, LinePiece, Roles, are_all_apart}
use Rattle.bpaf_exact.specs.{ProgramForm.flag_part_form, ProgramForm.FlagValue, Parts.kept_part}
use Rattle.std.specs.{Prelude.option_map, Global.Vec}
use Rattle.bpaf_doc.specs.Names.{Names}
use Rattle.bpaf_text.specs.Named.{KeyWithValue, Named as Key}
use Rattle.bpaf_laws.specs.{Reading.Outcome, Reading.first_set, Leaves.value_without_key}
use Rattle.bpaf_exact.proofs.{PartChoice.choice_is, PartChoice.leads_once, PartWrapped.wrapped_is}
use Rattle.bpaf_exact.proofs.{OneView.argument_piece, OneView.meant_view, PartRepeat.repeat_is}
use Rattle.bpaf_exact.proofs.{PartGroup.group_is, PartGroup.parted, Names.apart_of_names}
use Rattle.bpaf_exact.proofs.{PartLast.same_texts, PartKeys.one_first, Cuts.either_union}
use Rattle.bpaf_exact.proofs.{Leaves.last_same, Parts.no_first}
use Rattle.bpaf_base.specs.Items.{item_text}

-- what follows of first entries and of absent values
by_turns : {T X : Type 0} {see : T → X} {p : Part T} → IsPart p
    → ((cs ds es : Cells) (v w : T) → p.first cs v ds → p.first cs w es → see v ≡ see w)
    → Alike see p.absent → PartOneView see p
by_turns l firsts absents cs ds es v w (present g) (present h) =
    (firsts cs ds es v w g h, l.one g h)
by_turns l firsts absents cs ds es v w (present g) (absent e a same) = absurd (no_first l e g)
by_turns l firsts absents cs ds es v w (absent e a same) (present g) = absurd (no_first l e g)
by_turns l firsts absents cs ds es v w (absent e a same) (absent f b other) =
    (absents v w a b, same ∙ sym other)

module _ {T X : Type 0} {see : T → X} {p : Part T} (u : PartOneView see p) where
  -- its first entries look alike
  firsts_of : {cs ds es : Cells} {v w : T} → p.first cs v ds → p.first cs w es → see v ≡ see w
  firsts_of {cs} {ds} {es} {v} {w} g h = (u cs ds es v w (present g) (present h)).0

  -- its absent values look alike
  absents_of : Alike see p.absent
  absents_of v w a b = (u [] [] [] v w (absent refl a refl) (absent refl b refl)).0

-- a closure that can't tell apart what looks alike agrees
pub part_view_agrees : {A B X : Type 0} {see : A → X} {f : Closure A B}
    → ((x y : A) (v : B) → see x ≡ see y → f.yes x v → f.no y → ⊥) → (form : PartForm A)
    → PartFormOneView see form → PartFormAgrees f form
part_view_agrees apart no_part u = tt
part_view_agrees apart (some_part p) u = (
  λ cs x y v g h made refused. apart x y v (firsts_of u g.1 h.1) made refused,
  λ x y v a b made refused. apart x y v (absents_of u x y a b) made refused,
)

-- where a test holds
pub part_if_view : {T X : Type 0} (see : T → X) (b : Bool) (form : PartForm T)
    → PartFormOneView see form → PartFormOneView see (part_if b form)
part_if_view see true form u = u
part_if_view see false form u = tt

-- What is made of a part.
wrapped_view : {A B X Y : Type 0} {see : A → X} {look : B → Y} {p : Part A}
    {makes : A → B → Type 0} {gone : B → Type 0} {lost : Type 0} → IsPart p
    → ((v : B) → lost → gone v → ⊥)
    → ((x y : A) (v w : B) → see x ≡ see y → makes x v → makes y w → look v ≡ look w)
    → Alike look gone → PartOneView see p → PartOneView look (part_wrapped p makes gone lost)
wrapped_view l both same gones u = by_turns (wrapped_is l both)
    (λ cs ds es v w g h. same g.0 h.0 v w (firsts_of u g.1 h.1) g.2 h.2) gones

-- a list of entries
list_view : {T X : Type 0} {see : T → X} {p : Part T} → IsPart p → PartOneView see p
    → PartOneView (map see) (part_repeat p)
list_view {T} {see} {p} l u =
    by_turns (repeat_is l) (λ cs ds es vs ws g h. lists g.entries h.entries) alone
  where
    lists : {cs ds es : Cells} {vs ws : List T} → Entries p cs vs ds → Entries p cs ws es
        → map see vs ≡ map see ws
    lists (no_entry e) (no_entry f) = refl
    lists (no_entry e) (entry g more) = absurd (no_first l e g)
    lists (entry g more) (no_entry e) = absurd (no_first l e g)
    lists {cs} {es} (entry {ds = ms} {v} g more) (entry {ds = ns} {v = w} {vs = ws} h other) =
        let i = u cs ms ns v w (present g) (present h) in
        let j = lists more (subst (λ z. Entries p z ws es) (sym i.1) other) in
        let k = i.0 in
        cc

    alone : Alike (map see) (RepeatAbsent p)
    alone vs ws (no_value m e) (no_value n f) = ap (map see) (e ∙ sym f)
    alone vs ws (no_value m e) (one_value a f) = absurd (l.not_both m a)
    alone vs ws (one_value a f) (no_value m e) = absurd (l.not_both m a)
    alone vs ws (one_value {v} a e) (one_value {v = w} b f) =
        ap (map see) e ∙ (ap (λ z. z ∷ []) (absents_of u v w a b) ∙ sym (ap (map see) f))

module _ {env : Variables} {A X : Type 0} {inner : Outcome A} {names : List Names} (see : A → X)
  where
    -- a closure
    pub closed_part_view : {B Y : Type 0} {look : B → Y} (f : Closure A B)
        → Respects A B X Y see look f → {form : PartForm A} → PartFormLaw env inner names form
        → PartFormOneView see form → PartFormOneView look (of_part (λ p. part_closed p f) form)
    closed_part_view f respects {form = no_part} l u = tt
    closed_part_view f respects {form = some_part p} l u = wrapped_view l.by.0.is
        (λ v m a. l.by.0.is.not_both m a.1) respects.same
        (λ v w a b. respects.same a.0 b.0 v w (absents_of u a.0 b.0 a.1 b.1) a.2 b.2) u

    -- what may be left out
    pub optional_part_view : {form : PartForm A} → PartFormLaw env inner names form
        → PartFormOneView see form → PartFormOneView (option_map see) (of_part part_optional form)
    optional_part_view {form = no_part} l u = tt
    optional_part_view {form = some_part p} l u = wrapped_view l.by.0.is (λ v m a. m)
        (λ x y v w e f g. grind arith) gones u
      where
        gones : Alike (option_map see) (OptionalAbsent p)
        gones (Some v) (Some w) a b = ap Some (absents_of u v w a b)
        gones (Some v) None a m = absurd (l.by.0.is.not_both m a)
        gones None (Some w) m a = absurd (l.by.0.is.not_both m a)
        gones None None a b = refl

    -- a default
    pub default_part_view : (f : Closure (Unit {0}) A) → Decides f → Alike see (λ v. f.yes tt v)
        → {form : PartForm A} → PartFormLaw env inner names form
        → PartFormOneView see form → PartFormOneView see (of_part (λ p. part_default p f) form)
    default_part_view f decides given {form = no_part} l u = tt
    default_part_view f decides given {form = some_part p} l u = wrapped_view is
        (λ v m a. by_none m a) (λ x y v w e g h. grind arith) gones u
      where
        is : IsPart p
        is = l.by.0.is

        by_none : {v : A} → (p.missing × f.no tt) → (p.absent v ⊎ (p.missing × f.yes tt v)) → ⊥
        by_none m (inl a) = is.not_both m.0 a
        by_none {v} m (inr a) = decides tt v a.1 m.1

        gones : Alike see (λ v. p.absent v ⊎ (p.missing × f.yes tt v))
        gones v w (inl a) (inl b) = absents_of u v w a b
        gones v w (inl a) (inr b) = absurd (is.not_both b.0 a)
        gones v w (inr a) (inl b) = absurd (is.not_both a.0 b)
        gones v w (inr a) (inr b) = given v w a.1 b.1

    -- a closure on the list of a repeat
    pub repeat_part_view : {B Y : Type 0} {look : B → Y} (f : Closure (List A) B)
        → Respects (List A) B (List X) Y (map see) look f → {form : PartForm A}
        → PartFormLaw env inner names form → PartFormOneView see form
        → PartFormOneView look (of_part (λ p. part_closed (part_repeat p) f) form)
    repeat_part_view f respects {form = no_part} l u = tt
    repeat_part_view f respects {form = some_part p} l u =
        let lists = list_view l.by.0.is u in
        wrapped_view (repeat_is l.by.0.is) (λ v m a. m) respects.same
        (λ v w a b. respects.same a.0 b.0 v w (absents_of lists a.0 b.0 a.1 b.1) a.2 b.2) lists

    -- some
    pub some_part_view : {Y : Type 0} {look : Vec A → Y}
        → Respects (List A) (Vec A) (List X) Y (map see) look (some_closure A) → {form : PartForm A}
        → PartFormLaw env inner names form → PartFormOneView see form
        → PartFormOneView look (of_part part_some form)
    some_part_view respects {form = no_part} l u = tt
    some_part_view respects {form = some_part p} l u = wrapped_view (repeat_is l.by.0.is)
        (λ v m a. l.by.0.is.not_both m a.1) respects.same (λ v w a b. respects.same (a.0 ∷ [])
        (b.0 ∷ []) v w (ap (λ z. z ∷ []) (absents_of u a.0 b.0 a.1 b.1)) (a.2, λ e. absurd cc)
        (b.2, λ e. absurd cc)) (list_view l.by.0.is u)

    -- last
    pub last_part_view : {form : PartForm A} → PartFormLaw env inner names form
        → PartFormOneView see form → PartFormOneView see (of_part part_last form)
    last_part_view {form = no_part} l u = tt
    last_part_view {form = some_part p} l u = wrapped_view (repeat_is l.by.0.is)
        (λ v m a. l.by.0.is.not_both m a)
        (λ xs ys v w same a b. last_seen a.before b.before (sym (ap (map see) a.is)
        ∙ (same ∙ ap (map see) b.is))) (absents_of u) (list_view l.by.0.is u)
      where
        last_seen : {v w : A} (vs ws : List A) → map see (vs ++ v ∷ []) ≡ map see (ws ++ w ∷ [])
            → see v ≡ see w
        last_seen {v} {w} vs ws same = last_same (map see vs) (map see ws)
            (sym (map-append see vs (v ∷ [])) ∙ (same ∙ map-append see ws (w ∷ [])))

-- a choice of two
pub choice_of_view : {T X : Type 0} {see : T → X} {a b : Part T} → IsPart a → IsPart b
    → Apart a.roles b.roles → PartOneView see a → PartOneView see b
    → PartOneView see (part_choice a b)
choice_of_view {T} {see} {a} {b} la lb apart u w = by_turns (choice_is la lb apart) firsts absents
  where
    firsts : (cs ds es : Cells) (x y : T) → ChoiceFirst a b cs x ds → ChoiceFirst a b cs y es
        → see x ≡ see y
    firsts cs ds es x y (of_first g l) (of_first h m) = firsts_of u g h
    firsts cs ds es x y (of_first g l) (of_second h m) =
        absurd (leads_once (either_union la.named lb.named apart) l m)
    firsts cs ds es x y (of_second g l) (of_first h m) =
        absurd (leads_once (either_union la.named lb.named apart) m l)
    firsts cs ds es x y (of_second g l) (of_second h m) = firsts_of w g h

    absents : Alike see (ChoiceAbsent a b)
    absents x y (absent_first z) (absent_first c) = absents_of u x y z c
    absents x y (absent_first z) (absent_second none c) = absurd (none x z)
    absents x y (absent_second none c) (absent_first z) = absurd (none y z)
    absents x y (absent_second none z) (absent_second never c) = absents_of w x y z c

-- a group of two
group_of_view : {A B X Y : Type 0} {see : A → X} {look : B → Y} {a : Part A} {b : Part B}
    → IsPart a → IsPart b → Apart a.roles b.roles → PartOneView see a → PartOneView look b
    → PartOneView (pair_view see look) (part_group a b)
group_of_view {A} {B} {see} {look} {a} {b} la lb apart u w =
    by_turns (group_is la lb apart) firsts absents
  where
    firsts : (cs ds es : Cells) (x y : A × B) → (part_group a b).first cs x ds
        → (part_group a b).first cs y es → pair_view see look x ≡ pair_view see look y
    firsts cs ds es x y g h =
        let i = parted la lb apart g in
        let j = parted la lb apart h in
        let k = u cs i.0 j.0 x.0 y.0 i.1 j.1 in
        let m = w i.0 ds es x.1 y.1 i.2 (subst (λ z. Turn b z y.1 es) (sym k.1) j.2) in
        let first = k.0 in
        let second = m.0 in
        cc

    absents : Alike (pair_view see look) (λ v. a.absent v.0 × b.absent v.1)
    absents x y c d =
        let first = absents_of u x.0 y.0 c.0 d.0 in
        let second = absents_of w x.1 y.1 c.1 d.1 in
        cc

-- what may be a choice of parts
pub choice_part_view : {env : Variables} {T X : Type 0} (see : T → X) {first second : Outcome T}
    {own others : List Names} {s t : PartForm T} → PartFormLaw env first own s
    → PartFormLaw env second others t → PartFormOneView see s → PartFormOneView see t
    → PartFormOneView see (part_if (are_all_apart own others) (of_parts part_choice s t))
choice_part_view see {own = own} {others = others} {s = some_part p} {t = some_part r} la lb u w =
    by_test (are_all_apart own others) refl
  where
    by_test : (b : Bool) → are_all_apart own others ≡ b
        → PartFormOneView see (part_if b (some_part (part_choice p r)))
    by_test false e = tt
    by_test true e =
        choice_of_view la.by.0.is lb.by.0.is (apart_of_names la.by.1 lb.by.1 e) u w
choice_part_view see la lb u w = grind arith

-- a group
pub both_part_view : {env : Variables} {A B X Y : Type 0} (see : A → X) (look : B → Y)
    {first : Outcome A} {rest : Outcome B} {own others : List Names} {s : PartForm A}
    {t : PartForm B} → PartFormLaw env first own s → PartFormLaw env rest others t
    → PartFormOneView see s → PartFormOneView look t → PartFormOneView (pair_view see look)
    (part_if (are_all_apart own others) (of_parts part_group s t))
both_part_view see look {own = own} {others = others} {s = some_part p} {t = some_part r} la lb u
    w = by_test (are_all_apart own others) refl
  where
    by_test : (b : Bool) → are_all_apart own others ≡ b
        → PartFormOneView (pair_view see look) (part_if b (some_part (part_group p r)))
    by_test false e = tt
    by_test true e =
        group_of_view la.by.0.is lb.by.0.is (apart_of_names la.by.1 lb.by.1 e) u w
both_part_view see look la lb u w = grind arith

-- Leaves.

-- a key
key_of_view : {T X : Type 0} {see : T → X} {q : Roles} {value : LinePiece → T → Type 0}
    {gap : Gap T} → IsPart (key_part q value gap) → ((o : LinePiece) → Alike see (value o))
    → Alike see gap.absent → PartOneView see (key_part q value gap)
key_of_view {value} l pieces none = by_turns l (λ cs ds es v w g h. pieces g.piece v w g.means
    (subst (λ o. value o w) (sym (one_first l.named g.takes h.takes).0) h.means)) none

-- a flag
pub flag_part_view : {env : Variables} {T X : Type 0} (see : T → X) (clones : T → T → Type 0)
    → ((kept : T) → Alike see (clones kept)) → (key : Key) (present : T) (absent : Option T)
    (variables : Variables) {inner : Outcome T} {names : List Names}
    → PartFormLaw env inner names (flag_part_form clones key present absent variables)
    → PartFormOneView see (flag_part_form clones key present absent variables)
flag_part_view see clones u key given none variables l = key_of_view l.by.0.is pieces
    (meant_view u (value_without_key given none (first_set variables key.envs)))
  where
    pieces : (o : LinePiece) → Alike see (FlagValue (clones given) o)
    pieces o v w a b = grind arith

-- an argument
pub argument_part_view : {env : Variables} {T X : Type 0} (see : T → X)
    (means : List ℕ → T → Type 0) → ((text : List ℕ) → Alike see (means text))
    → (argument : KeyWithValue) (variables : Variables) {inner : Outcome T} {names : List Names}
    → PartFormLaw env inner names (argument_part_form means argument variables)
    → PartFormOneView see (argument_part_form means argument variables)
argument_part_view {T} see means u argument variables l = by_last argument.last l.by.0.is
  where
    last_view : {q : Roles} {gap : Gap T} → IsPart (last_key_part means q gap)
        → Alike see gap.absent → PartOneView see (last_key_part means q gap)
    last_view l none = by_turns l (λ cs ds es v w g h.
        let last = last_same g.2.before h.2.before (sym g.2.is
        ∙ (same_texts l.named g.1.entries h.1.entries ∙ h.2.is)) in
        u (item_text g.2.last.1) v w g.2.meant
        (subst (λ z. means (item_text z.1) w) (sym last) h.2.meant)) none

    by_last : (last : Bool) → IsPart (argument_part last means
        (argument_roles argument.adjacent argument.named.names)
        (gap_of means (first_set variables argument.named.envs)))
        → PartOneView see (argument_part last means
        (argument_roles argument.adjacent argument.named.names)
        (gap_of means (first_set variables argument.named.envs)))
    by_last true l = last_view l (meant_view u (first_set variables argument.named.envs))
    by_last false l = key_of_view l (argument_piece u)
        (meant_view u (first_set variables argument.named.envs))

-- a kept value
pub kept_part_view : {T X : Type 0} (see : T → X) (given : T → Type 0) → Alike see given
    → PartFormOneView see (some_part (kept_part given))
kept_part_view see given u cs ds es v w (absent e a same) (absent f b other) =
    (u v w a b, same ∙ sym other)
kept_part_view see given u cs ds es v w (present g) t = absurd g
kept_part_view see given u cs ds es v w (absent e a same) (present g) = absurd g
