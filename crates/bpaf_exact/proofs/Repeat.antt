-- Repeats of a positional field; what `some` and `last` make of one.
use Rattle.std.proofs.Common.{⊎_elim, arith, false, subst, Bool, List, None, refl, true, ◌++◌, Err}
use Rattle.std.proofs.Common.{inl, inr, sym, ◌<◌, ◌∙◌, ◌∷◌, ◌≡◌, ◌≤◌, Ok, [], ap}
use Rattle.bpaf_line.specs.{Situation.open_count, Situation.Situation, declared.error.Error.Error}
use Rattle.bpaf_laws.specs.Combinators.{LastOutcome, TurnOutcome, is_nil, Turns, rests, stops}
use Rattle.bpaf_laws.specs.Reading.{Outcome}
use Rattle.bpaf_exact.proofs.Names.{never_nil, back_all, nil_each}
use Rattle.bpaf_exact.proofs.Product.{none_outside_after, steady_trans, steady_refl}
use Rattle.bpaf_exact.proofs.Places.{takes_some_fewer, open_present, takes_fewer}
use Rattle.bpaf_exact.proofs.Classes.{memory_class, stops_at, goes_on}
use Rattle.bpaf_exact.proofs.Cuts.{some_trans}
use Rattle.bpaf_exact.specs.Flat.{ErrorClass, FieldTook, cells, FieldLaw, CanCatch, TakesAny}
use Rattle.bpaf_exact.specs.Flat.{own_more, class, own_none, AgreesOn, OfMemory, OwnList, Steady}
use Rattle.bpaf_exact.specs.Flat.{IsWholeIn, OfMissing, Variables, SingleErr, SingleLaw, TookGroup}
use Rattle.bpaf_exact.specs.Flat.{listed_and_absent, present_count, RepeatOutcome, some_closure}
use Rattle.bpaf_exact.specs.Flat.{Groups, listed, LastOf, front, Stops, back, Gap, Own, EachWord}
use Rattle.bpaf_exact.specs.Flat.{OneWord, only_absent}
use Rattle.bpaf_exact.specs.Pieces.{TakesPieces, takes_more, takes_none, LinePiece, pieces, Cells}
use Rattle.bpaf_exact.specs.Pieces.{Roles}

-- where the cells are the same none was taken
pub same_takes : {q : Roles} {cs ds : Cells} → ds ≡ cs → TakesPieces q cs ds
same_takes e = rw e takes_none

-- where the cells are the same as many items are present
pub same_count : (s m : Situation) → cells m ≡ cells s → open_count m ≡ open_count s
same_count s m e = open_present m ∙ (ap present_count e ∙ sym (open_present s))

-- where a piece was taken fewer items are present
pub fewer_count : {q : Roles} (s m : Situation) → TakesAny q (cells s) (cells m)
    → open_count m < open_count s
fewer_count s m t = grind (arith, open_present, takes_fewer, takes_some_fewer)

-- a turn that took nothing stops at what can be caught
pub stops_by : {s m : Situation} {e : Error} → CanCatch (class e)
    → (class e ≡ OfMissing → cells m ≡ cells s) → Stops e s m
stops_by x same = grind (arith, same_count)

-- a turn stops at what can be caught
pub stopped_by : {s m : Situation} {e : Error} → Stops e s m → CanCatch (class e)
stopped_by x = grind arith

-- where it can be caught there is no word
pub catch_none : {T : Type 0} {halts : Bool} {q : Roles} {group : Groups T} {s m : Situation}
    {c : ErrorClass} → CanCatch c → SingleErr T halts q group s c m
    → front (OneWord halts) (pieces q (cells s)) ≡ []
catch_none h x = grind arith

module _ {env : Variables} {T : Type 0} {inner : Outcome T} {halts : Bool} {q : Roles}
    {group : Groups T} {gap : Gap T} (l : SingleLaw env T inner halts q group gap) where
  -- the words that a repeat takes
  abbrev own : Situation → List LinePiece
  own s = front (EachWord halts) (pieces q (cells s))

  -- no word is no group
  pub not_empty : {os : List LinePiece} {v : T} {rest : List LinePiece} → group os v rest
      → front (OneWord halts) os ≡ [] → ⊥
  not_empty {os} {v} {rest} g none =
      l.is.starts v [] (subst (λ z. group z v []) none (l.words.by_front os v rest g).0)

  -- what a repeat took: all its words
  record Took (vs : List T) (s t : Situation) : Type 0 where
    steady : Steady s t
    takes : TakesPieces q (cells s) (cells t)
    none : pieces q (cells t) ≡ back (EachWord halts) (pieces q (cells s))
    list : Own T group (own s) vs

  -- a repeat that ends where there is no word
  ended : {s t : Situation} → Steady s t → front (OneWord halts) (pieces q (cells s)) ≡ []
      → cells t ≡ cells s → Took [] s t
  ended {s} st none same =
      let all : own s ≡ [] = grind arith in
      record {
        steady = st;
        takes = same_takes same;
        none = ap (pieces q) same ∙ sym (back_all (EachWord halts) all);
        list = rw all own_none;
      }

  -- one value more
  took_more : {s m t : Situation} {v : T} {vs : List T} → TookGroup T q group s v m
      → Took vs m t → Took (v ∷ vs) s t
  took_more h i =
      let g = l.words.by_each _ _ _ h.read in
      record {
        steady = steady_trans h.steady i.steady;
        takes = takes_more h.takes.one (some_trans h.takes.more i.takes);
        none = i.none ∙ g.1;
        list = own_more g.0 i.list;
      }

  -- no value takes nothing
  never_idle : (s t : Situation) {v : T} → open_count s ≤ open_count t → TookGroup T q group s v t
      → ⊥
  never_idle s t same h = let f = fewer_count s t h.takes in omega arith

  -- a turn that stops
  stop_took : (last : Bool) (s t : Situation) → IsWholeIn env s
      → TurnOutcome inner false last s (Ok None) t → Took [] s t
  stop_took last s t w (inl o) = absurd (never_idle s t o.3 (l.keeps.ok s t o.0 w o.1))
  stop_took last s t w (inr o) =
      let refused = l.keeps.err s o.0.1 o.0.0 w o.0.2 in
      rw o.1 (ended steady_refl
      (catch_none (stopped_by {s = s} {m = o.0.1} (stops_at o.0.3)) refused) refl)

  -- turns, until one stops
  turns_took : (first last : Bool) (vs : List T) {s m t : Situation} → IsWholeIn env s
      → Turns inner false first s vs m → TurnOutcome inner false last m (Ok None) t → Took vs s t
  turns_took first last [] {s} {t = t} w turns stop = stop_took last s t w (rw turns stop)
  turns_took first last (v ∷ vs) {s} w turns stop =
      let h = l.keeps.ok s turns.0 v w turns.1.0 in
      took_more h (turns_took false last vs (none_outside_after w h.steady) turns.2 stop)

  -- A repeat that answers has read all its words.
  repeat_took : (idle : Bool) (s t : Situation) {vs : List T} → IsWholeIn env s
      → RepeatOutcome inner idle s (Ok vs) t → Took vs s t
  repeat_took false s t {vs} w o = turns_took true (is_nil vs) vs w o.steps o.stop
  repeat_took true s t {vs} w (stops run) =
      turns_took false (is_nil vs) vs w run.steps run.stop
  repeat_took true s t w (rests v e ran same) =
      absurd (never_idle s t same (l.keeps.ok s t v w ran))

  -- Where the words can be read a refusal comes for want of memory alone.

  -- what is left after a turn can be read
  on_step : (s m : Situation) {v : T} {os : List LinePiece} {ws : List T} → own s ≡ os
      → Own T group os ws → TookGroup T q group s v m → (us : List T) × Own T group (own m) us
  on_step s m p own_none h =
      absurd (not_empty h.read (nil_each (OneWord halts) (pieces q (cells s)) p))
  on_step s m {v} p (own_more {rest} {v = w} {vs = us} g o) h =
      let f = l.words.of_each (pieces q (cells s)) w rest (rw p g) in
      let left : pieces q (cells m) ≡ f.0 = (l.words.by_front _ _ _ h.read).1
      ∙ sym (l.words.by_front _ _ _ f.1).1 in
      (us, rw (left, ← f.2) o)

  -- where the words can be read a refusal is want of memory
  failed_gives : (s t : Situation) {e : Error} {os : List LinePiece} {ws : List T} → own s ≡ os
      → Own T group os ws → (Stops e s t → ⊥) → SingleErr T halts q group s (class e) t
      → class e ≡ OfMemory
  failed_gives s t p o n x = grind (arith, nil_each, l.words, stops_by)

  -- turns fail for want of memory alone
  turns_fail : (first last : Bool) (vs : List T) {s m t : Situation} {e : Error} {ws : List T}
      → IsWholeIn env s → Own T group (own s) ws → Turns inner false first s vs m
      → TurnOutcome inner false last m (Err e) t → class e ≡ OfMemory
  turns_fail first last [] {s} {t = t} {e} w o turns fails =
      ⊎_elim (λ f. failed_gives s t refl o (goes_on e f.1) (l.keeps.err s t e w f.0))
      (λ f. memory_class e.0 f.0)
      (subst (λ z. TurnOutcome inner false last z (Err e) t) (sym turns) fails)
  turns_fail first last (v ∷ vs) {s} w o turns fails =
      let h = l.keeps.ok s turns.0 v w turns.1.0 in
      turns_fail false last vs (none_outside_after w h.steady) (on_step s turns.0 refl o h).1
      turns.2 fails

  -- an own list under a repeat is one of all words
  all_read : {os : List LinePiece} {vs : List T} → OwnList T group gap os vs → Own T group os vs
  all_read (listed h o) = o
  all_read (listed_and_absent h ab o) = o
  all_read (only_absent h ab) = let e = l.none in absurd cc

  -- many, and what is built on it: the values of the own list
  pub repeat_law : (idle : Bool) → FieldLaw env (List T) (RepeatOutcome inner idle)
      (EachWord halts) q (OwnList T group gap)
  repeat_law idle = record {
    own = l.own;
    keeps = record {
      ok = λ s t vs w o. let i = repeat_took idle s t w o in record {
        steady = i.steady;
        takes = i.takes;
        read = λ n. listed l.none i.list;
        rest = λ n. i.none;
        all = λ u h. tt;
      };
      err = λ s t e w o vs h. by_kind idle t e w (all_read h) o;
    };
  }
    where
      by_kind : (idle : Bool) {s : Situation} (t : Situation) (e : Error) {ws : List T}
          → IsWholeIn env s → Own T group (own s) ws → RepeatOutcome inner idle s (Err e) t
          → class e ≡ OfMemory
      by_kind false t e w h o = turns_fail true (is_nil o.values) o.values w h o.steps o.fails
      by_kind true t e w h o = turns_fail false (is_nil o.values) o.values w h o.steps o.fails

  -- no word gives no value
  own_nil : {os : List LinePiece} {vs ws : List T} → Own T group os vs → vs ≡ []
      → Own T group os ws → ws ≡ []
  own_nil o e x = grind (arith, l.is)

  -- Of the own lists of the same pieces all are empty or none is.
  pub some_agrees_on : (os : List LinePiece) → AgreesOn (OwnList T group gap os) (some_closure T)
  some_agrees_on os x y v ox oy g n = g.1 (own_nil (all_read oy) n (all_read ox))

  -- a last value is that of the own list
  last_took : (s t : Situation) (v : T) → IsWholeIn env s → LastOutcome inner s (Ok v) t
      → FieldTook T (EachWord halts) q (LastOf T group gap) s v t
  last_took s t v w (inl o) =
      let i = repeat_took true s t w o.1 in
      record {
        steady = i.steady;
        takes = i.takes;
        read = λ n. (o.0, listed l.none i.list);
        rest = λ n. i.none;
        all = λ u h. tt;
      }
  last_took s t v w (inr o) =
      let i = repeat_took true s o.0 w o.1 in
      let h = l.keeps.ok o.0 t v (none_outside_after w i.steady) o.2 in
      let none : own s ≡ [] = no_words i.list refl in
      let same = i.none ∙ back_all (EachWord halts) {os = pieces q (cells s)} none in
      absurd (not_empty h.read (nil_each (OneWord halts) (pieces q (cells o.0))
      (ap (front (EachWord halts)) same ∙ none)))
    where
      no_words : {os : List LinePiece} {vs : List T} → Own T group os vs → vs ≡ [] → os ≡ []
      no_words own_none e = refl
      no_words (own_more g o) e = absurd cc

  -- where a last value is there a refusal is want of memory
  last_refuses : (s t : Situation) (e : Error) → IsWholeIn env s → LastOutcome inner s (Err e) t
      → (v : T) → LastOf T group gap (own s) v → class e ≡ OfMemory
  last_refuses s t e w (inl o) v h = (repeat_law true).keeps.err s t e w o (h.0 ++ v ∷ []) h.1
  last_refuses s t e w (inr o) v h =
      let i = repeat_took true s o.0 w o.1 in
      absurd (never_nil h.0 v [] (own_nil i.list refl (all_read h.1)))

  -- last keeps to the laws of a field
  pub last_of_law : FieldLaw env T (LastOutcome inner) (EachWord halts) q (LastOf T group gap)
  last_of_law = record { own = l.own; keeps = record { ok = last_took; err = last_refuses } }
