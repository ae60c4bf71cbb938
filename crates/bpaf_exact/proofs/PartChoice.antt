-- A choice of named parts whose names are apart is one.
use Rattle.std.proofs.Common.{arith, false, subst, Option, Result, List, None, Some, refl, inl, inr}
use Rattle.std.proofs.Common.{true, ◌∙◌, ◌∷◌, ◌≡◌, ◌⊎◌, [], sym, ap, Err, Ok, ⊎_elim, Bool, ℕ}
use Rattle.bpaf_laws.specs.Choice.{ChoiceOutcome, BranchesEval, EqualDepths, branch_of, Winner}
use Rattle.bpaf_exact.proofs.Cuts.{keeps_other_some, Union, either_union, swap_union, owner}
use Rattle.bpaf_exact.proofs.Product.{steady_trans, none_outside_after, mine_of_both}
use Rattle.bpaf_exact.specs.Flat.{error_class, present_count, first_cells, TakesAny}
use Rattle.bpaf_exact.specs.Flat.{Variables, IsWholeIn, class, cells, OfMemory, Refused, Caught}
use Rattle.bpaf_exact.proofs.Places.{open_present, takes_fewer, takes_some_fewer, closed_item}
use Rattle.bpaf_exact.specs.Pieces.{TakesPieces, takes_more, takes_none, Cells, Roles, pieces}
use Rattle.bpaf_exact.specs.Pieces.{Apart, IsNamed, either, is_own, LinePiece, One, Two, mine}
use Rattle.bpaf_exact.proofs.Parts.{none_to_take, any_there, any_some, apart_left, takes_some}
use Rattle.bpaf_exact.specs.Parts.{Part, NoOwn, Entries, HasEntries, IsSpoiled, Turn, IsPart, Lacks}
use Rattle.bpaf_exact.specs.Parts.{no_entry, entry, present, absent, lacks_missing, lacks_refused}
use Rattle.bpaf_exact.specs.Parts.{PartLaw, PartOk, PartErr, WhyNone, Leads, ChoiceFirst, of_first}
use Rattle.bpaf_exact.specs.Parts.{of_second, TakenHead, ChoiceAbsent, absent_first, absent_second}
use Rattle.std.proofs.lemmas.Bool.{and_parts, not-false, eqb-true, not-true}
use Rattle.std.proofs.Common.{true≢false}
use Rattle.std.specs.Prelude.{◌<◌, zero, suc, length}
use Rattle.bpaf_line.specs.Situation.{Situation, is_taken, open_count}
use Rattle.bpaf_line.specs.{Messages.is_wrong_input, Messages.Combines, declared.error.Error.Error}
use Rattle.bpaf_line.specs.{Taking.IsWinner, Taking.open_item, declared.error.Message.Message}
use Rattle.bpaf_laws.proofs.ChoiceLaws.{chosen_at_equal, not_winner}
use Rattle.bpaf_laws.specs.{Combinators.is_untouched, Laws.IsNotMemory, Reading.Outcome}
use Rattle.bpaf_laws.specs.Choice.{depth}
use Rattle.bpaf_exact.proofs.PartHeads.{head_leads, not_left, never_alike, left_alike, thins}
use Rattle.bpaf_exact.proofs.Commands.{cells_same, saved_steady, same_scope, has_item}
use Rattle.bpaf_exact.proofs.Commands.{steady_both, steady_item}
use Rattle.bpaf_exact.proofs.Cuts.{union_named, both_nil, HeadOf, TookLeft, left_here, left_later}
use Rattle.bpaf_exact.proofs.Classes.{memory_class, not_memory, combined_refused, combined_calm}
use Rattle.bpaf_exact.proofs.Parts.{takes_any, lacks_none, entries_back, stays_spoiled}
use Rattle.bpaf_exact.proofs.{Product.others_of_both, Product.steady_refl}
use Rattle.bpaf_exact.specs.Flat.{Steady, CanCatch, catch_missing, catch_other}
use Rattle.bpaf_exact.specs.{Parts.part_choice, Pieces.others}
use Rattle.bpaf_base.specs.declared.arg.Arg.{Arg}
use Rattle.bpaf_line.proofs.Places.{present_in_line}

-- no piece is both's
piece_once : {qa qb r : Roles} (o : LinePiece) → Union qa qb r → is_own qa o ≡ true
    → is_own qb o ≡ true → ⊥
piece_once (One k) u e f = let z = u.apart.left k e in cc
piece_once (Two k w) u e f = let z = u.apart.left k e in cc

-- only one leads
pub leads_once : {qa qb r : Roles} {cs : Cells} → Union qa qb r → Leads qa r cs → Leads qb r cs → ⊥
leads_once {qb} u a b =
    let e = sym a.first ∙ b.first in
    let same : b.piece ≡ a.piece = cc in
    piece_once a.piece u a.own (subst (λ o. is_own qb o ≡ true) same b.own)

-- one that leads has a piece
leads_some : {qa qb r : Roles} {cs : Cells} → Union qa qb r → Leads qa r cs → pieces qa cs ≡ [] → ⊥
leads_some {qa} {qb} {cs = cs} u a none = by_owner (owner cs u a.first)
  where
    by_owner : HeadOf qa cs a.piece ⊎ HeadOf qb cs a.piece → ⊥
    by_owner (inl h) = let e = h.1 in cc
    by_owner (inr h) = piece_once a.piece u a.own h.2

-- where one has a piece, one of both leads
one_leads : {qa qb r : Roles} {cs : Cells} → Union qa qb r → (pieces r cs ≡ [] → ⊥)
    → Leads qa r cs ⊎ Leads qb r cs
one_leads {qa} {qb} {r} {cs} u some = by_list (pieces r cs) refl
  where
    by_list : (os : List LinePiece) → pieces r cs ≡ os → Leads qa r cs ⊎ Leads qb r cs
    by_list [] e = absurd (some e)
    by_list (o ∷ os) e = ⊎_elim
        (λ h. inl (record { piece = o; behind = os; first = e; own = h.2 }))
        (λ h. inr (record { piece = o; behind = os; first = e; own = h.2 })) (owner cs u e)

module _ {T : Type 0} {a b : Part T} (la : IsPart a) (lb : IsPart b)
    (apart : Apart a.roles b.roles) where
  -- the items of both
  u : Union a.roles b.roles (either a.roles b.roles)
  u = either_union la.named lb.named apart

  -- in the other order
  w : Union b.roles a.roles (either a.roles b.roles)
  w = swap_union u

  -- an entry takes own pieces
  choice_takes : {cs ds : Cells} {v : T} → ChoiceFirst a b cs v ds
      → TakesAny (either a.roles b.roles) cs ds
  choice_takes (of_first g l) = takes_any u (la.takes g)
  choice_takes (of_second g l) = takes_any w (lb.takes g)

  -- which, whatever the value
  one_choice : {cs ds es : Cells} {x y : T} → ChoiceFirst a b cs x ds → ChoiceFirst a b cs y es
      → ds ≡ es
  one_choice (of_first g l) (of_first h m) = la.one g h
  one_choice (of_first g l) (of_second h m) = absurd (leads_once u l m)
  one_choice (of_second g l) (of_first h m) = absurd (leads_once u m l)
  one_choice (of_second g l) (of_second h m) = lb.one g h

  -- the first piece stays first
  leads_back : {p q : Roles} {cs ds : Cells} → IsNamed p → Apart p (either a.roles b.roles)
      → TakesPieces p cs ds → Leads q (either a.roles b.roles) ds
      → Leads q (either a.roles b.roles) cs
  leads_back n p t l = record {
    piece = l.piece;
    behind = l.behind;
    first = sym (keeps_other_some n (union_named u) p t) ∙ l.first;
    own = l.own;
  }

  -- pieces of others given back don't matter
  choice_back : {q : Roles} {cs ds es : Cells} {v : T} → IsNamed q
      → Apart q (either a.roles b.roles) → TakesPieces q cs ds → ChoiceFirst a b ds v es
      → (fs : Cells) × ChoiceFirst a b cs v fs × TakesPieces q fs es
  choice_back n p t (of_first g l) =
      let x = la.back n (apart_left u p) t g in
      (x.0, of_first x.1 (leads_back n p t l), x.2)
  choice_back n p t (of_second g l) =
      let x = lb.back n (apart_left w p) t g in
      (x.0, of_second x.1 (leads_back n p t l), x.2)

  -- the first own piece is taken
  choice_heads : {cs ds : Cells} {v : T} → ChoiceFirst a b cs v ds
      → TakenHead (either a.roles b.roles) cs ds
  choice_heads (of_first g l) = head_leads u l.first l.own (la.heads g)
  choice_heads (of_second g l) = head_leads w l.first l.own (lb.heads g)

  -- what is missing has no absent value
  never_absent : {v : T} → (a.missing × b.missing) → ChoiceAbsent a b v → ⊥
  never_absent m (absent_first x) = la.not_both m.0 x
  never_absent m (absent_second none y) = lb.not_both m.1 y

  -- a choice is a part
  pub choice_is : IsPart (part_choice a b)
  choice_is = record {
    named = union_named u;
    takes = choice_takes;
    one = one_choice;
    back = choice_back;
    heads = choice_heads;
    not_both = never_absent;
  }

  -- entries of both are entries of each
  entries_left : {cs es : Cells} {vs : List T} → Entries (part_choice a b) cs vs es
      → HasEntries a cs
  entries_left {cs} (no_entry e) =
      ([], cs, no_entry (sym (mine_of_both u cs) ∙ ap (mine a.roles) e))
  entries_left (entry (of_first g l) more) =
      let i = entries_left more in (_, i.1, entry g i.2)
  entries_left (entry (of_second g l) more) =
      entries_back la lb.named w.apart (any_some (lb.takes g)) (entries_left more).2

  -- and of the second
  entries_right : {cs es : Cells} {vs : List T} → Entries (part_choice a b) cs vs es
      → HasEntries b cs
  entries_right {cs} (no_entry e) =
      ([], cs, no_entry (sym (others_of_both u cs) ∙ ap (others a.roles) e))
  entries_right (entry (of_first g l) more) =
      entries_back lb la.named apart (any_some (la.takes g)) (entries_right more).2
  entries_right (entry (of_second g l) more) =
      let i = entries_right more in (_, i.1, entry g i.2)

  -- what spoils the first spoils both
  spoiled_left : {cs : Cells} → IsSpoiled a cs → IsSpoiled (part_choice a b) cs
  spoiled_left n h = n (entries_left h.2)

  -- so does what spoils the second
  spoiled_right : {cs : Cells} → IsSpoiled b cs → IsSpoiled (part_choice a b) cs
  spoiled_right n h = n (entries_right h.2)

-- what the other branch has beside the one that is taken
data Beside {T : Type 0} (p q : Part T) (r : Roles) (fits : Type 0) (cs : Cells) : Type 0 where
  beside_none : NoOwn q cs → fits → Beside p q r fits cs
  beside_idle : NoOwn q cs → (NoOwn p cs → ⊥) → Beside p q r fits cs
  beside_spoiled : IsSpoiled q cs → Beside p q r fits cs
  beside_behind : Leads p.roles r cs → Beside p q r fits cs

-- The branch p that is taken, of the two of a choice.
module _ {T : Type 0} {p q whole : Part T} (lp : IsPart p) (lq : IsPart q) {r : Roles}
    (same : whole.roles ≡ r) (u : Union p.roles q.roles r) {fits : Type 0}
    (first_in : (cs ds : Cells) (v : T) → p.first cs v ds → Leads p.roles r cs
    → whole.first cs v ds) (absent_in : (v : T) → p.absent v → fits → whole.absent v)
    (spoils_p : (cs : Cells) → IsSpoiled p cs → IsSpoiled whole cs)
    (spoils_q : (cs : Cells) → IsSpoiled q cs → IsSpoiled whole cs) where
  -- what it answered
  abbrev Gave : Cells → T → Cells → Type 0
  Gave cs v ds = Turn whole cs v ds ⊎ (IsSpoiled whole cs × IsSpoiled whole ds)

  -- the entry of one where the other has none
  by_present : {cs ds : Cells} {v : T} → p.first cs v ds → NoOwn q cs → Gave cs v ds
  by_present {cs} {ds} {v} g e = ⊎_elim (λ l. inl (present (first_in cs ds v g l)))
      (λ l. absurd (leads_some (swap_union u) l e))
      (one_leads u (any_there (takes_any u (lp.takes g))))

  -- what one gave
  gave : {cs ds : Cells} {v : T} → TakesPieces p.roles cs ds
      → Turn p cs v ds ⊎ (IsSpoiled p cs × IsSpoiled p ds) → Beside p q r fits cs → Gave cs v ds
  gave {cs} {ds} t (inr n) x = inr (spoils_p cs n.0, spoils_p ds n.1)
  gave {cs} {ds} t (inl g) (beside_spoiled n) =
      inr (spoils_q cs n, spoils_q ds (stays_spoiled lq lp.named u.apart t n))
  gave t (inl (present g)) (beside_none e f) = by_present g e
  gave t (inl (present g)) (beside_idle e n) = by_present g e
  gave {cs} {ds} {v} t (inl (present g)) (beside_behind l) =
      inl (present (first_in cs ds v g l))
  gave {cs} {v = v} t (inl (absent e a z)) (beside_none f fit) =
      inl (absent (rw same (both_nil cs u e f)) (absent_in v a fit) z)
  gave t (inl (absent e a z)) (beside_idle f n) = absurd (n e)
  gave t (inl (absent e a z)) (beside_behind l) = absurd (leads_some u l e)

  -- as an answer of the whole
  won : {s m t : Situation} {v : T} → PartOk p s v m → Beside p q r fits (cells s) → Steady m t
      → cells t ≡ cells m → PartOk whole s v t
  won {s} {m} {t} {v} i x st e = record {
    steady = steady_trans i.steady st;
    takes = rw (same, e) (takes_some u i.takes);
    gave = rw e (gave i.takes i.gave x);
  }

-- what can be caught can be caught together
combined_caught : (m n : Message) {g : Message} → CanCatch (error_class m)
    → CanCatch (error_class n)
    → Combines m n g → (error_class g ≡ OfMemory) ⊎ CanCatch (error_class g)
combined_caught m n f h c = grind arith

-- a refusal before one that can be caught, and behind one
first_stands : (m n : Message) {g : Message} → error_class m ≡ Refused → error_class n ≡ Caught
    → Combines m n g → (error_class g ≡ OfMemory) ⊎ (error_class g ≡ Refused)
first_stands m n e f c = grind arith

-- the second error counts
second_stands : (m n : Message) {g : Message} → error_class m ≡ Caught → error_class n ≡ Refused
    → Combines m n g → (error_class g ≡ OfMemory) ⊎ (error_class g ≡ Refused)
second_stands m n e f c = grind arith

-- where one of two can't be, both together can't
combined_class : (m n : Message) {g : Message}
    → (error_class m ≡ Refused) ⊎ (error_class n ≡ Refused)
    → CanCatch (error_class m) ⊎ (error_class m ≡ Refused)
    → CanCatch (error_class n) ⊎ (error_class n ≡ Refused) → Combines m n g
    → (error_class g ≡ OfMemory) ⊎ (error_class g ≡ Refused)
combined_class m n (inl r) e (inl (catch_missing x)) c =
    combined_refused m n (inl r) (inr r) (inl x) c
combined_class m n (inl r) e (inr x) c = combined_refused m n (inl r) (inr r) (inr x) c
combined_class m n (inl r) e (inl (catch_other x)) c = first_stands m n r x c
combined_class m n (inr r) (inl (catch_missing x)) f c =
    combined_refused m n (inr r) (inl x) (inr r) c
combined_class m n (inr r) (inr x) f c = combined_refused m n (inr r) (inr x) (inr r) c
combined_class m n (inr r) (inl (catch_other x)) f c = second_stands m n x r c

-- some pieces taken, and as many left, are none
none_fewer : {q : Roles} {cs ds : Cells} → TakesPieces q cs ds → present_count ds ≡ present_count cs
    → ds ≡ cs
none_fewer takes_none e = refl
none_fewer (takes_more t more) e =
    let f = takes_fewer t in let g = takes_some_fewer more in absurd (omega arith)

-- two refusals together
combined_lacks : {T : Type 0} {a b : Part T} (m n : Message) {g : Message} → IsPart a → IsPart b
    → Lacks a (error_class m) → Lacks b (error_class n) → Combines m n g
    → (error_class g ≡ OfMemory) ⊎ Lacks (part_choice a b) (error_class g)
combined_lacks {T} {a} {b} m n la lb (lacks_missing f x) (lacks_missing h y) c =
    ⊎_elim (λ z. inl z) (λ z. inr (lacks_missing z (x, y))) (combined_caught m n f h c)
combined_lacks {T} {a} {b} m n la lb (lacks_missing f x) (lacks_refused h none must) c =
    ⊎_elim (λ z. inl z) (λ z. inr (lacks_refused z (λ v. neither v) (λ z. must z.1)))
    (combined_class m n (inr h) (inl f) (inr h) c)
  where
    neither : (v : T) → ChoiceAbsent a b v → ⊥
    neither v (absent_first z) = la.not_both x z
    neither v (absent_second nothing z) = none v z
combined_lacks {T} {a} {b} m n la lb (lacks_refused f none must) (lacks_missing h y) c =
    ⊎_elim (λ z. inl z) (λ z. inr (lacks_refused z (λ v. neither v) (λ z. must z.0)))
    (combined_class m n (inl f) (inr f) (inl h) c)
  where
    neither : (v : T) → ChoiceAbsent a b v → ⊥
    neither v (absent_first z) = none v z
    neither v (absent_second nothing z) = lb.not_both y z
combined_lacks {T} {a} {b} m n la lb (lacks_refused f none must) (lacks_refused h never should) c =
    ⊎_elim (λ z. inl z) (λ z. inr (lacks_refused z (λ v. neither v) (λ z. must z.0)))
    (combined_class m n (inl f) (inr f) (inr h) c)
  where
    neither : (v : T) → ChoiceAbsent a b v → ⊥
    neither v (absent_first z) = none v z
    neither v (absent_second nothing z) = never v z

-- the leftmost place at which two differ
left_cells : {at : ℕ → Option Arg} (other : ℕ → Option Arg) (n p : ℕ) {x : Arg} → p < n
    → at p ≡ None → other p ≡ Some x → ((q : ℕ) → q < p → at q ≡ other q)
    → TookLeft (first_cells at n) (first_cells other n)
left_cells other zero p l e f same = absurd (omega arith)
left_cells other (suc n) zero l e f same = rw (e, f) left_here
left_cells other (suc n) (suc p) l e f same =
    left_later (same zero (omega arith)) (left_cells (λ q. other (suc q)) n p (omega arith) e f
    (λ q i. same (suc q) (omega arith)))

-- the leftmost piece
left_of : {env : Variables} {s m n : Situation} {p : ℕ} → IsWholeIn env s → Steady s m → Steady s n
    → is_taken m p ≡ true → is_taken n p ≡ false → ((q : ℕ) → q < p → is_taken m q ≡ is_taken n q)
    → TookLeft (cells m) (cells n)
unfolding cells
left_of {m} {n} {p} w a b took free same =
    let i = has_item (none_outside_after w b) free in
    let st = steady_both a b in
    subst (λ c. TookLeft (first_cells (open_item m) (length c.line))
    (first_cells (open_item n) (length n.context.line))) (sym st.context)
    (left_cells (open_item n) (length n.context.line) p
    (present_in_line n p free) (closed_item m p took) i.is (λ q l. steady_item st q (same q l)))

module _ {env : Variables} {T : Type 0} {first second : Outcome T} {a b : Part T}
    (la : PartLaw env T first a) (lb : PartLaw env T second b) (apart : Apart a.roles b.roles) where
  -- the items of both
  ab : Union a.roles b.roles (either a.roles b.roles)
  ab = u la.is lb.is apart

  -- the first is taken
  first_won : {s m t : Situation} {v : T} → PartOk a s v m
      → Beside a b (either a.roles b.roles) (Unit {0}) (cells s) → Steady m t → cells t ≡ cells m
      → PartOk (part_choice a b) s v t
  first_won i x st e = won {whole = part_choice a b} la.is lb.is refl ab
      (λ cs ds v g l. of_first g l)
      (λ v x fit. absent_first x) (λ cs n. spoiled_left la.is lb.is apart n)
      (λ cs n. spoiled_right la.is lb.is apart n) i x st e

  -- the second is
  second_won : {s m t : Situation} {v : T} → PartOk b s v m
      → Beside b a (either a.roles b.roles) ((x : T) → a.absent x → ⊥) (cells s) → Steady m t
      → cells t ≡ cells m → PartOk (part_choice a b) s v t
  second_won i x st e = won {whole = part_choice a b} lb.is la.is refl (swap_union ab)
      (λ cs ds v g l. of_second g l) (λ v y none. absent_second none y)
      (λ cs n. spoiled_right la.is lb.is apart n) (λ cs n. spoiled_left la.is lb.is apart n) i x st
      e

  -- what refused is beside the other
  beside_err : {p q : Part T} {r : Roles} {fits : Type 0} {s m : Situation} {e : Error}
      → (Lacks q (class e) → fits) → PartErr q s e m → Beside p q r fits (cells s)
  beside_err fit i = ⊎_elim (λ f. beside_none f.0 (fit f.1)) (λ n. beside_spoiled n) i.why

  -- what took nothing further left is beside the other
  beside_ok : {p q : Part T} {r : Roles} {fits : Type 0} {s m n : Situation} {x y : T} → IsPart p
      → IsPart q → Union p.roles q.roles r → PartOk p s x m → PartOk q s y n
      → TookLeft (cells m) (cells n) → Beside p q r fits (cells s)
  beside_ok {p} {q} {r} {fits} {s} {m} {n} {y} lp lq u i j l = by_gave j.gave
    where
      by_gave : Turn q (cells s) y (cells n) ⊎ (IsSpoiled q (cells s) × IsSpoiled q (cells n))
          → Beside p q r fits (cells s)
      by_gave (inr k) = beside_spoiled k.0
      by_gave (inl (absent e a z)) =
          beside_idle e (λ f. left_alike l (none_to_take f i.takes ∙ sym z))
      by_gave (inl (present h)) = ⊎_elim (λ d. beside_behind d)
          (λ d. absurd (not_left u d.first d.own (lq.heads h) (thins i.takes) (thins j.takes) l))
          (one_leads u (any_there (takes_any (swap_union u) (lq.takes h))))

  -- what took nothing that the other left is beside the other
  beside_alike : {s m n : Situation} {x y : T} → PartOk a s x m → PartOk b s y n
      → (TakenHead b.roles (cells s) (cells n) → ⊥)
      → Beside a b (either a.roles b.roles) (Unit {0}) (cells s)
  beside_alike {s} {m} {n} {x} {y} i j never = by_gave j.gave
    where
      by_gave : Turn b (cells s) y (cells n) ⊎ (IsSpoiled b (cells s) × IsSpoiled b (cells n))
          → Beside a b (either a.roles b.roles) (Unit {0}) (cells s)
      by_gave (inr k) = beside_spoiled k.0
      by_gave (inl (absent e a z)) = beside_none e tt
      by_gave (inl (present h)) = absurd (never (lb.is.heads h))

  -- the winner's value, where both answered
  winner_ok : {s sa sb t : Situation} {x y : T} (v : T) (winner : Bool × Option ℕ) → IsWholeIn env s
      → PartOk a s x sa → PartOk b s y sb → IsWinner sa sb winner
      → Winner (branch_of x sa) (branch_of y sb) winner (Ok v) t → PartOk (part_choice a b) s v t
  winner_ok {s} {sa} {sb} {x} v (here, None) w i j win k =
      let d : x ≡ v = cc in
      let same = cells_same (steady_both i.steady j.steady) win.0 in
      rw (← d, k.1) (first_won i (beside_alike i j (λ h. never_alike ab h (thins i.takes) same))
      steady_refl refl)
  winner_ok {sb} {x} v (true, Some p) w i j win k =
      let d : x ≡ v = cc in
      let free = not-true (is_taken sb p) (sym win.0.differs ∙ win.1) in
      rw (← d) (first_won i
      (beside_ok la.is lb.is ab i j (left_of w i.steady j.steady win.1 free win.0.first))
      (saved_steady sb k.1) (cells_same (same_scope (saved_steady sb k.1)) k.1.taken))
  winner_ok {sa} {sb} {y} v (false, Some p) w i j win k =
      let d : y ≡ v = cc in
      let here = not-false (is_taken sb p) (sym win.0.differs ∙ win.1) in
      rw (← d) (second_won j
      (beside_ok lb.is la.is (swap_union ab) j i
      (left_of w j.steady i.steady here win.1 (λ q l. sym (win.0.first q l))))
      (saved_steady sa k.1)
      (cells_same (same_scope (saved_steady sa k.1)) k.1.taken))

  -- what is untouched took nothing
  untouched_same : {q : Roles} (s m : Situation) → TakesPieces q (cells s) (cells m)
      → is_untouched s m ≡ true → cells m ≡ cells s
  untouched_same s m t e = none_fewer t
      (sym (open_present m) ∙ (eqb-true (open_count m) (open_count s) e ∙ open_present s))

  -- the value where both paths are equally deep
  equal_ok : (s sa sb : Situation) {t : Situation} {v : T} (x y : Result T Error) → IsWholeIn env s
      → first s x sa → second s y sb → IsNotMemory x → IsNotMemory y
      → EqualDepths s x sa y sb (Ok v) t → PartOk (part_choice a b) s v t
  equal_ok s sa sb {v} (Ok x) (Ok y) w f g hf hg (inl o) =
      let i = la.ok s sa x w f in
      let j = lb.ok s sb y w g in
      let both = and_parts (is_untouched s sa) (is_untouched s sb) o.0 in
      let d : x ≡ v = let e = o.1.0 in cc in
      rw (← d, o.1.1) (first_won i (beside_alike i j
      (λ h. never_alike ab h (thins takes_none) (sym (untouched_same s sb j.takes both.1))))
      steady_refl refl)
  equal_ok s sa sb {t} {v} (Ok x) (Ok y) w f g hf hg (inr o) =
      winner_ok v o.1.0 w (la.ok s sa x w f) (lb.ok s sb y w g) o.1.1 o.1.2
  equal_ok s sa sb {v} (Ok x) (Err e) w f g hf hg (inl o) = absurd (let z = o.1 in cc)
  equal_ok s sa sb {v} (Ok x) (Err e) w f g hf hg (inr o) =
      let d : x ≡ v = let z = o.1.0 in cc in
      rw (← d, o.1.1) (first_won (la.ok s sa x w f)
      (⊎_elim (λ c. absurd (not_memory e.0 hg c)) (λ i. beside_err (λ l. tt) i)
      (lb.err s sb e w g)) steady_refl refl)
  equal_ok s sa sb {v} (Err e) (Ok y) w f g hf hg (inl o) = absurd (let z = o.1 in cc)
  equal_ok s sa sb {v} (Err e) (Ok y) w f g hf hg (inr o) =
      let d : y ≡ v = let z = o.1.0 in cc in
      rw (← d, o.1.1) (second_won (lb.ok s sb y w g)
      (⊎_elim (λ c. absurd (not_memory e.0 hf c))
      (λ i. beside_err (λ l x z. lacks_none la.is l z) i) (la.err s sa e w f)) steady_refl refl)
  equal_ok s sa sb (Err e) (Err d) w f g hf hg o = let i = o.0.2 in absurd cc

  -- both are equally deep
  same_depth : {s t : Situation} {r : Result T Error} → IsWholeIn env s
      → (o : BranchesEval first second s r t) → depth o.sa ≡ depth o.sb
  same_depth {s} w o = path_first o.a o.first_ran o.first_spared
      ∙ sym (path_second o.b o.second_ran o.second_spared)
    where
      path_first : {m : Situation} (x : Result T Error) → first s x m → IsNotMemory x
          → depth m ≡ depth s
      path_first {m} (Ok x) f h = ap length (la.ok s m x w f).steady.path
      path_first {m} (Err e) f h = ⊎_elim (λ c. absurd (not_memory e.0 h c))
          (λ i. ap length i.steady.path) (la.err s m e w f)

      path_second : {m : Situation} (x : Result T Error) → second s x m → IsNotMemory x
          → depth m ≡ depth s
      path_second {m} (Ok x) f h = ap length (lb.ok s m x w f).steady.path
      path_second {m} (Err e) f h = ⊎_elim (λ c. absurd (not_memory e.0 h c))
          (λ i. ap length i.steady.path) (lb.err s m e w f)

  -- Refusals.

  -- one that leaves all as it was
  refusal : {s : Situation} {e : Error} → WhyNone (part_choice a b) (cells s) (class e)
      → (NoOwn (part_choice a b) (cells s) → is_wrong_input e.0 ≡ false)
      → PartErr (part_choice a b) s e s
  refusal x calm = record { steady = steady_refl; takes = takes_none; why = x; calm = calm }

  -- neither has a piece where both have none
  none_left : (cs : Cells) → NoOwn (part_choice a b) cs → NoOwn a cs
  none_left cs e = sym (mine_of_both ab cs) ∙ ap (mine a.roles) e

  -- where both have no own piece, the second has none
  none_right : (cs : Cells) → NoOwn (part_choice a b) cs → NoOwn b cs
  none_right cs e = sym (others_of_both ab cs) ∙ ap (others a.roles) e

  -- both refused
  both_refused : {s m n : Situation} (e f : Error) {g : Error} → Combines e.0 f.0 g.0
      → PartErr a s e m → PartErr b s f n → (class g ≡ OfMemory) ⊎ PartErr (part_choice a b) s g s
  both_refused {s} e f {g} c i j = by_why i.why j.why
    where
      calm : NoOwn (part_choice a b) (cells s) → is_wrong_input g.0 ≡ false
      calm n = combined_calm e.0 f.0 (i.calm (none_left (cells s) n))
          (j.calm (none_right (cells s) n)) c

      by_why : WhyNone a (cells s) (class e) → WhyNone b (cells s) (class f)
          → (class g ≡ OfMemory) ⊎ PartErr (part_choice a b) s g s
      by_why (inr n) y = inr (refusal (inr (spoiled_left la.is lb.is apart n)) calm)
      by_why x (inr n) = inr (refusal (inr (spoiled_right la.is lb.is apart n)) calm)
      by_why (inl x) (inl y) =
          ⊎_elim (λ h. inl h) (λ l. inr (refusal (inl (both_nil (cells s) ab x.0 y.0, l)) calm))
          (combined_lacks e.0 f.0 la.is lb.is x.1 y.1 c)

  -- where one is untouched and the other has wrong input
  wrong : {q : Part T} {s n : Situation} {e : Error} → PartErr q s e n
      → is_wrong_input e.0 ≡ true → (NoOwn (part_choice a b) (cells s) → NoOwn q (cells s))
      → (IsSpoiled q (cells s) → IsSpoiled (part_choice a b) (cells s))
      → PartErr (part_choice a b) s e s
  wrong j w none spoils = refusal
      (⊎_elim (λ f. absurd (true≢false (sym w ∙ j.calm f.0))) (λ n. inr (spoils n)) j.why)
      (λ n. j.calm (none n))

  -- an error of both at the same place
  equal_err : (s sa sb : Situation) {t : Situation} (g : Error) (x y : Result T Error)
      → IsWholeIn env s → first s x sa → second s y sb → IsNotMemory x → IsNotMemory y
      → EqualDepths s x sa y sb (Err g) t
      → (class g ≡ OfMemory) ⊎ PartErr (part_choice a b) s g t
  equal_err s sa sb g (Ok x) (Ok y) w f h hf hg (inl o) = absurd (let i = o.1.0 in cc)
  equal_err s sa sb {t} g (Ok x) (Ok y) w f h hf hg (inr o) =
      absurd (not_winner (branch_of x sa) (branch_of y sb) o.1.0 g t o.1.2)
  equal_err s sa sb g (Ok x) (Err e) w f h hf hg (inl o) =
      let both = and_parts (is_untouched s sa) (is_wrong_input e.0) o.0 in
      let d : e ≡ g = let z = o.1 in cc in
      ⊎_elim (λ c. absurd (not_memory e.0 hg c)) (λ j. inr (rw (← d, o.2) (wrong j both.1
      (none_right (cells s)) (spoiled_right la.is lb.is apart)))) (lb.err s sb e w h)
  equal_err s sa sb g (Ok x) (Err e) w f h hf hg (inr o) = absurd (let i = o.1.0 in cc)
  equal_err s sa sb g (Err e) (Ok y) w f h hf hg (inl o) =
      let both = and_parts (is_untouched s sb) (is_wrong_input e.0) o.0 in
      let d : e ≡ g = let z = o.1 in cc in
      ⊎_elim (λ c. absurd (not_memory e.0 hf c)) (λ j. inr (rw (← d, o.2) (wrong j both.1
      (none_left (cells s)) (spoiled_left la.is lb.is apart)))) (la.err s sa e w f)
  equal_err s sa sb g (Err e) (Ok y) w f h hf hg (inr o) = absurd (let i = o.1.0 in cc)
  equal_err s sa sb g (Err e) (Err d) w f h hf hg o =
      let same : g ≡ o.0.0 = let z = o.0.2 in cc in
      ⊎_elim (λ c. absurd (not_memory e.0 hf c)) (λ i.
      ⊎_elim (λ c. absurd (not_memory d.0 hg c)) (λ j.
      rw (same, o.1) (both_refused e d o.0.1 i j)) (lb.err s sb d w h))
      (la.err s sa e w f)

  -- a choice keeps to the law
  pub choice_part_law : PartLaw env T (ChoiceOutcome first second) (part_choice a b)
  choice_part_law = record {
    is = choice_is la.is lb.is apart;
    ok = λ s t v w o.
        equal_ok s o.sa o.sb o.a o.b w o.first_ran o.second_ran o.first_spared o.second_spared
        (chosen_at_equal s o.a o.sa o.b o.sb (Ok v) t (same_depth w o) o.chosen);
    err = λ s t e w. ⊎_elim (λ o.
        equal_err s o.sa o.sb e o.a o.b w o.first_ran o.second_ran o.first_spared o.second_spared
        (chosen_at_equal s o.a o.sa o.b o.sb (Err e) t (same_depth w o) o.chosen))
        (λ o. inl (memory_class e.0 o.0));
  }
