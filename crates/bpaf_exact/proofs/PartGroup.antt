-- A group of named parts is one.
use Rattle.std.proofs.Common.{false, subst, Result, List, refl, inl, inr, true, ◌∙◌, ◌≡◌, ◌⊎◌, []}
use Rattle.bpaf_exact.proofs.Cuts.{Union, some_trans, either_union, swap_union, union_named}
use Rattle.bpaf_exact.proofs.Product.{steady_trans, none_outside_after, mine_of_both}
use Rattle.bpaf_exact.specs.Flat.{TakesAny, ErrorClass, Variables, IsWholeIn, class, cells}
use Rattle.bpaf_exact.specs.Pieces.{TakesPieces, Cells, Roles, pieces, Apart, IsNamed, either, mine}
use Rattle.bpaf_exact.specs.Parts.{TakenHead, Part, NoOwn, Entries, HasEntries, IsSpoiled, Turn}
use Rattle.bpaf_exact.specs.Parts.{IsPart, Lacks, no_entry, entry, present, absent, lacks_missing}
use Rattle.bpaf_exact.specs.Parts.{lacks_refused, PartLaw, PartOk, PartErr, WhyNone, GroupFirst}
use Rattle.bpaf_exact.proofs.Parts.{any_some, apart_left, takes_some, one_turn, none_to_take}
use Rattle.bpaf_exact.proofs.Parts.{any_more, takes_any, no_first, turn_takes, lacks_turn}
use Rattle.bpaf_exact.proofs.Parts.{idle_turn, some_or_none, turn_entries, none_back, turn_back}
use Rattle.std.proofs.Common.{sym, ap, Err, Ok, ⊎_elim}
use Rattle.bpaf_line.specs.{declared.error.Error.Error, Situation.Situation, Messages.is_memory}
use Rattle.bpaf_laws.specs.Product.{BothOutcome, BothEval, both_answers}
use Rattle.bpaf_laws.specs.{Laws.IsNotMemory, Reading.Outcome}
use Rattle.std.specs.Prelude.{if◌then◌else◌, Bool}
use Rattle.bpaf_exact.proofs.PartHeads.{head_both, head_more, head_back, head_alone}
use Rattle.bpaf_exact.proofs.{Classes.memory_class, Classes.not_memory, Product.others_of_both}
use Rattle.bpaf_exact.proofs.{Parts.entries_back, Parts.stays_spoiled, Cuts.both_nil}
use Rattle.bpaf_exact.specs.{Parts.part_group, Parts.left_first, Parts.right_first, Pieces.others}
use Rattle.bpaf_exact.specs.Flat.{OfMemory, Steady}

module _ {A B : Type 0} {a : Part A} {b : Part B} (la : IsPart a) (lb : IsPart b)
    (apart : Apart a.roles b.roles) where
  -- the items of both
  u : Union a.roles b.roles (either a.roles b.roles)
  u = either_union la.named lb.named apart

  -- the items in the other order
  w : Union b.roles a.roles (either a.roles b.roles)
  w = swap_union u

  -- neither has a piece where both have none
  none_left : (cs : Cells) → NoOwn (part_group a b) cs → NoOwn a cs
  none_left cs e = sym (mine_of_both u cs) ∙ ap (mine a.roles) e

  -- where the group has no own piece, the second has none
  none_right : (cs : Cells) → NoOwn (part_group a b) cs → NoOwn b cs
  none_right cs e = sym (others_of_both u cs) ∙ ap (others a.roles) e

  -- a turn of each, one after the other
  abbrev Turns : Cells → A × B → Cells → Type 0
  Turns cs v es = (ds : Cells) × Turn a cs v.0 ds × Turn b ds v.1 es

  -- make the first entry, or what is absent
  joined : {cs es : Cells} {v : A × B} → Turns cs v es → Turn (part_group a b) cs v es
  joined (ds, present g, t) = present (left_first g t)
  joined {es} {v} (ds, absent e x same, present h) =
      present (right_first e x (subst (λ z. b.first z v.1 es) same h))
  joined {cs} (ds, absent e x same, absent f y again) =
      absent (both_nil cs u e (subst (NoOwn b) same f)) (x, y) (again ∙ same)

  -- a first entry of a group is two turns
  pub parted : {cs es : Cells} {v : A × B} → GroupFirst a b cs v es → Turns cs v es
  parted (left_first {ds} g t) = (ds, present g, t)
  parted {cs} (right_first e x h) = (cs, absent e x refl, present h)

  -- it takes pieces of both
  first_takes : {cs ds : Cells} {v : A × B} → GroupFirst a b cs v ds
      → TakesAny (either a.roles b.roles) cs ds
  first_takes (left_first g t) =
      any_more (takes_any u (la.takes g)) (takes_some w (turn_takes lb t))
  first_takes (right_first e x h) = takes_any w (lb.takes h)

  -- which pieces are taken doesn't depend on the value
  one_both : {cs es fs : Cells} {x y : A × B} → Turns cs x es → Turns cs y fs → es ≡ fs
  one_both {fs} {y} (ds, s, t) (ms, i, j) =
      one_turn lb t (subst (λ z. Turn b z y.1 fs) (sym (one_turn la s i)) j)

  -- pieces of others given back don't matter
  group_back : {q : Roles} {cs ds es : Cells} {v : A × B} → IsNamed q
      → Apart q (either a.roles b.roles) → TakesPieces q cs ds → GroupFirst a b ds v es
      → (fs : Cells) × GroupFirst a b cs v fs × TakesPieces q fs es
  group_back n p t (left_first g i) =
      let x = la.back n (apart_left u p) t g in
      let y = turn_back lb n (apart_left w p) x.2 i in
      (y.0, left_first x.1 y.1, y.2)
  group_back n p t (right_first e x h) =
      let y = lb.back n (apart_left w p) t h in
      (y.0, right_first (none_back la n (apart_left u p) t e) x y.1, y.2)

  -- the first own piece is taken
  group_heads : {cs es : Cells} {v : A × B} → GroupFirst a b cs v es
      → TakenHead (either a.roles b.roles) cs es
  group_heads (left_first g (present h)) = head_both u
      (head_more (la.heads g) (any_some (lb.takes h)))
      (head_back la.named lb.named apart (any_some (la.takes g)) (lb.heads h))
  group_heads (left_first g (absent e x same)) = head_alone u
      (head_more (la.heads g) (turn_takes lb (absent e x same)))
      (none_back lb la.named apart (any_some (la.takes g)) e)
  group_heads (right_first e x h) = head_alone w (lb.heads h) e

  -- a group of named parts is one
  pub group_is : IsPart (part_group a b)
  group_is = record {
    named = union_named u;
    takes = first_takes;
    one = λ g h. one_both (parted g) (parted h);
    back = group_back;
    heads = group_heads;
    not_both = λ m v. ⊎_elim (λ n. la.not_both n v.0) (λ n. lb.not_both n.2 v.1) m;
  }

  -- entries of both are entries of each
  entries_left : {cs es : Cells} {vs : List (A × B)} → Entries (part_group a b) cs vs es
      → HasEntries a cs
  entries_left {cs} (no_entry e) = ([], cs, no_entry (none_left cs e))
  entries_left (entry g more) =
      let t = parted g in
      turn_entries la t.1 (entries_back la lb.named (w.apart) (turn_takes lb t.2)
      (entries_left more).2)

  -- and of the second
  entries_right : {cs es : Cells} {vs : List (A × B)} → Entries (part_group a b) cs vs es
      → HasEntries b cs
  entries_right {cs} (no_entry e) = ([], cs, no_entry (none_right cs e))
  entries_right (entry g more) =
      let t = parted g in
      entries_back lb la.named apart (turn_takes la t.1)
      (turn_entries lb t.2 (entries_right more)).2

  -- where the first's own are spoiled, so are those of both
  spoiled_left : {cs : Cells} → IsSpoiled a cs → IsSpoiled (part_group a b) cs
  spoiled_left n h = n (entries_left h.2)

  -- what spoils the second spoils both
  spoiled_right : {cs : Cells} → IsSpoiled b cs → IsSpoiled (part_group a b) cs
  spoiled_right n h = n (entries_right h.2)

  -- behind a turn of the first the second has entries, if both have
  behind : {cs ds es : Cells} {x : A} {vs : List (A × B)} → Turn a cs x ds
      → Entries (part_group a b) cs vs es → HasEntries b ds
  behind {cs} s (no_entry e) =
      ([], _, no_entry (subst (NoOwn b) (sym (idle_turn la (none_left cs e) s)) (none_right cs e)))
  behind s (entry g more) =
      let t = parted g in
      subst (HasEntries b) (one_turn la t.1 s) (turn_entries lb t.2 (entries_right more))

  -- What an answer of each makes.
  module _ {s m t : Situation} where
    given : {x : A} {y : B} → PartOk a s x m → PartOk b m y t → PartOk (part_group a b) s (x, y) t
    given {x} {y} i j = record {
      steady = steady_trans i.steady j.steady;
      takes = some_trans (takes_some u i.takes) (takes_some w j.takes);
      gave = both i.gave j.gave;
    }
      where
        both : Turn a (cells s) x (cells m) ⊎ (IsSpoiled a (cells s) × IsSpoiled a (cells m))
            → Turn b (cells m) y (cells t) ⊎ (IsSpoiled b (cells m) × IsSpoiled b (cells t))
            → Turn (part_group a b) (cells s) (x, y) (cells t)
            ⊎ (IsSpoiled (part_group a b) (cells s) × IsSpoiled (part_group a b) (cells t))
        both (inl g) (inl h) = inl (joined (cells m, g, h))
        both (inl g) (inr n) = inr (λ h. n.0 (behind g h.2), spoiled_right n.1)
        both (inr n) h = inr (
          spoiled_left n.0,
          spoiled_left
              (stays_spoiled la lb.named w.apart j.takes n.1),
        )

    -- the second one's refusal
    refused_right : {x : A} {e : Error} → PartOk a s x m → PartErr b m e t
        → PartErr (part_group a b) s e t
    refused_right {x} {e} i j = record {
      steady = steady_trans i.steady j.steady;
      takes = some_trans (takes_some u i.takes) (takes_some w j.takes);
      why = by_why i.gave j.why;
      calm = λ n. j.calm (rw (none_to_take (none_left (cells s) n) i.takes)
          (none_right (cells s) n));
    }
      where
        by_lack : {c : ErrorClass} → Turn a (cells s) x (cells m) → NoOwn b (cells m) → Lacks b c
            → WhyNone (part_group a b) (cells s) c
        by_lack {c} (present g) f n = inr (λ h. no_turns h.2)
          where
            no_turns : {vs : List (A × B)} {es : Cells} → Entries (part_group a b) (cells s) vs es
                → ⊥
            no_turns (no_entry e) = no_first la (none_left (cells s) e) g
            no_turns (entry {ds} {v} h more) =
                let z = parted h in
                lacks_turn lb f n (subst (λ y. Turn b y v.1 ds) (one_turn la z.1 (present g)) z.2)
        by_lack {c} (absent e y same) f n =
            inl (both_nil (cells s) u e (subst (NoOwn b) same f), second_lacks y n)
          where
            second_lacks : a.absent x → Lacks b c → Lacks (part_group a b) c
            second_lacks y (lacks_missing h z) = lacks_missing h (inr (x, y, z))
            second_lacks y (lacks_refused h none must) = lacks_refused h (λ v p. none v.1 p.1)
                (⊎_elim (λ z. la.not_both z y) (λ z. must z.2))

        by_why : Turn a (cells s) x (cells m) ⊎ (IsSpoiled a (cells s) × IsSpoiled a (cells m))
            → WhyNone b (cells m) (class e) → WhyNone (part_group a b) (cells s) (class e)
        by_why (inl g) (inl f) = by_lack g f.0 f.1
        by_why (inl g) (inr n) = inr (λ h. n (behind g h.2))
        by_why (inr n) f = inr (spoiled_left n.0)

    -- the first one's
    refused_left : {e : Error} → PartErr a s e m → Steady m t
        → TakesPieces b.roles (cells m) (cells t) → PartErr (part_group a b) s e t
    refused_left {e} i st more = record {
      steady = steady_trans i.steady st;
      takes = some_trans (takes_some u i.takes) (takes_some w more);
      why = by_why (some_or_none (pieces (either a.roles b.roles) (cells s))) i.why;
      calm = λ n. i.calm (none_left (cells s) n);
    }
      where
        first_lacks : {c : ErrorClass} → Lacks a c → Lacks (part_group a b) c
        first_lacks (lacks_missing h z) = lacks_missing h (inl z)
        first_lacks (lacks_refused h none must) =
            lacks_refused h (λ v p. none v.0 p.0) (⊎_elim must (λ z. none z.0 z.1))

        no_turns : {vs : List (A × B)} {es : Cells} → (NoOwn (part_group a b) (cells s) → ⊥)
            → NoOwn a (cells s) → Lacks a (class e) → Entries (part_group a b) (cells s) vs es → ⊥
        no_turns some none n (no_entry f) = some f
        no_turns some none n (entry h more) = lacks_turn la none n (parted h).1

        by_why : NoOwn (part_group a b) (cells s) ⊎ (NoOwn (part_group a b) (cells s) → ⊥)
            → WhyNone a (cells s) (class e) → WhyNone (part_group a b) (cells s) (class e)
        by_why (inl none) (inl f) = inl (none, first_lacks f.1)
        by_why (inr some) (inl f) = inr (λ h. no_turns some f.0 f.1 h.2)
        by_why any (inr n) = inr (spoiled_left n)

-- what follows of an answer
abbrev follows : {T : Type 0} → Part T → Situation → Result T Error → Situation → Type 0
follows part s (Ok v) t = PartOk part s v t
follows part s (Err e) t = (class e ≡ OfMemory) ⊎ PartErr part s e t

module _ {env : Variables} {A B : Type 0} {first : Outcome A} {rest : Outcome B} {a : Part A}
    {b : Part B} (la : PartLaw env A first a) (lb : PartLaw env B rest b)
    (apart : Apart a.roles b.roles) where
  -- an answer of both
  of_joined : {s m t : Situation} (x : Result A Error) (y : Result B Error) → IsWholeIn env s
      → first s x m → IsNotMemory x → rest m y t → follows (part_group a b) s (both_answers x y) t
  of_joined {s} {m} {t} (Ok x) (Ok y) w f n g =
      let i = la.ok s m x w f in
      given la.is lb.is apart i (lb.ok m t y (none_outside_after w i.steady) g)
  of_joined {s} {m} {t} (Ok x) (Err e) w f n g =
      let i = la.ok s m x w f in
      ⊎_elim (λ c. inl c) (λ j. inr (refused_right la.is lb.is apart i j))
      (lb.err m t e (none_outside_after w i.steady) g)
  of_joined {s} {m} {t} (Err d) (Ok y) w f n g =
      ⊎_elim (λ c. inl c) (λ i.
      let j = lb.ok m t y (none_outside_after w i.steady) g in
      inr (refused_left la.is lb.is apart i j.steady j.takes)) (la.err s m d w f)
  of_joined {s} {m} {t} (Err d) (Err e) w f n g = by_want (is_memory e.0) refl
    where
      by_want : (z : Bool) → is_memory e.0 ≡ z
          → follows (part_group a b) s (if z then Err e else Err d) t
      by_want true h = inl (memory_class e.0 h)
      by_want false h = ⊎_elim (λ c. inl c) (λ i.
          ⊎_elim (λ c. absurd (not_memory e.0 h c))
          (λ j. inr (refused_left la.is lb.is apart i j.steady j.takes))
          (lb.err m t e (none_outside_after w i.steady) g)) (la.err s m d w f)

  -- each answer
  of_both : {s t : Situation} (r : Result (A × B) Error) → IsWholeIn env s
      → BothEval A B first rest s r t → follows (part_group a b) s r t
  of_both {s} {t} r w o = subst (λ z. follows (part_group a b) s z t) (sym o.answer)
      (of_joined o.a o.b w o.first_ran o.spared o.rest_ran)

  -- a group keeps to the law
  pub group_law : PartLaw env (A × B) (BothOutcome first rest) (part_group a b)
  group_law = record {
    is = group_is la.is lb.is apart;
    ok = λ s t v w o. of_both (Ok v) w o;
    err = λ s t e w o. ⊎_elim (λ x. of_both (Err e) w x) (λ x. inl (memory_class e.0 x.1)) o;
  }
