-- A named part before what ends a program.
use Rattle.std.proofs.Common.{arith, false, subst, Result, refl, inl, inr, true, ◌∙◌, ◌∷◌, ◌≡◌, ◌⊎◌}
use Rattle.bpaf_exact.specs.Flat.{Variables, IsWholeIn, class, cells, OfMemory}
use Rattle.bpaf_exact.specs.ProgramForm.{ProgramLaw, ProgramTook, CellsValue, AllSpelled}
use Rattle.bpaf_exact.specs.Pieces.{TakesPieces, TakesPiece, takes_none, takes_more, takes_one}
use Rattle.bpaf_exact.specs.Pieces.{LinePiece, Cells, Roles, Apart, takes_two, takes_later}
use Rattle.bpaf_exact.specs.Parts.{Part, NoOwn, HasEntries, IsSpoiled, Turn, no_entry, entry}
use Rattle.bpaf_exact.specs.Parts.{present, absent, PartLaw, PartOk, PartErr, PartValue, PartThen}
use Rattle.std.proofs.Common.{[], sym, ap, Err, Ok, ⊎_elim, Bool}
use Rattle.std.specs.Prelude.{if◌then◌else◌, length}
use Rattle.bpaf_line.specs.{declared.error.Error.Error, Situation.Situation, Messages.is_memory}
use Rattle.bpaf_laws.specs.Product.{BothOutcome, BothEval, both_answers}
use Rattle.bpaf_laws.specs.Reading.{Outcome}
use Rattle.bpaf_exact.proofs.Parts.{nothing_spoiled, turn_takes, one_turn, lacks_turn}
use Rattle.bpaf_exact.proofs.{Names.apart_first, Names.apart_second, Product.none_outside_after}
use Rattle.bpaf_exact.proofs.{Programs.cells_spelled, Cuts.keeps_other_some, Classes.memory_class}
use Rattle.bpaf_exact.specs.ProgramForm.{empty_cell, spelled_cell, IsSpelledLine, LeavesToOthers}
use Rattle.bpaf_exact.specs.Flat.{NonePresent, no_place, none_here}
use Rattle.bpaf_exact.specs.{Parts.PartAlone, Parts.IsPart, Pieces.either, Pieces.pieces}

-- what is left is spelled
pub left_one : {q : Roles} {cs ds : Cells} {o : LinePiece} → TakesPiece q cs o ds → AllSpelled cs
    → AllSpelled ds
left_one (takes_one e) (spelled_cell s a) = empty_cell a
left_one (takes_two e v) (spelled_cell s (spelled_cell r a)) = empty_cell (empty_cell a)
left_one (takes_later t) (empty_cell a) = empty_cell (left_one t a)
left_one (takes_later t) (spelled_cell s a) = spelled_cell s (left_one t a)

-- what is left is spelled
pub left_spelled : {q : Roles} {cs ds : Cells} → TakesPieces q cs ds → AllSpelled cs → AllSpelled ds
left_spelled takes_none a = a
left_spelled (takes_more t more) a = left_spelled more (left_one t a)

-- where there is a value there are entries
pub value_entries : {T : Type 0} {part : Part T} {cs ds : Cells} {v : T} → PartValue part cs v ds
    → HasEntries part cs
value_entries {T} {part} g = by_turn g.turn g.none
  where
    by_turn : {cs ds : Cells} {v : T} → Turn part cs v ds → NoOwn part ds → HasEntries part cs
    by_turn {cs} {ds} {v} (present g) n = (v ∷ [], ds, entry g (no_entry n))
    by_turn {cs} (absent e a same) n = ([], cs, no_entry e)

-- the other way
pub swap_apart : {p q : Roles} → Apart p q → Apart q p
swap_apart a = record { left = a.right; right = a.left }

-- where nothing is present there is no piece
nothing_own : (q : Roles) {cs : Cells} → NonePresent cs → pieces q cs ≡ []
nothing_own q no_place = refl
nothing_own q (none_here n) = nothing_own q n

-- its turn is one that leaves nothing of its own
alone_value : {T : Type 0} {part : Part T} {cs : Cells} {v : T} → (h : PartAlone part cs v)
    → PartValue part cs v h.left
alone_value {part} h = record { turn = h.turn; none = nothing_own part.roles h.none }

-- where there is a value it isn't refused
no_refusal : {T : Type 0} {part : Part T} {s m : Situation} {e : Error} {v : T} {ds : Cells}
    → IsPart part → PartValue part (cells s) v ds → (class e ≡ OfMemory) ⊎ PartErr part s e m
    → class e ≡ OfMemory
no_refusal l h (inl c) = c
no_refusal l h (inr i) = ⊎_elim (λ f. absurd (lacks_turn l f.0 f.1 h.turn))
    (λ n. absurd (n (value_entries h))) i.why

-- where there is a value its answer is one, and leaves the same
gives : {T : Type 0} {part : Part T} {s m : Situation} {x w : T} {ds : Cells} → IsPart part
    → PartOk part s x m → PartValue part (cells s) w ds → PartValue part (cells s) x ds
    × (cells m ≡ ds)
gives {T} {part} {s} {m} {x} {w} {ds} l i h = by_gave i.gave
  where
    by_gave : Turn part (cells s) x (cells m)
        ⊎ (IsSpoiled part (cells s) × IsSpoiled part (cells m))
        → PartValue part (cells s) x ds × (cells m ≡ ds)
    by_gave (inl g) =
        let same = one_turn l g h.turn in
        (record { turn = subst (Turn part (cells s) x) same g; none = h.none }, same)
    by_gave (inr n) = absurd (n.0 (value_entries h))

-- where none of its own is left it has its value
reads : {T : Type 0} {part : Part T} {s m : Situation} {x : T} → IsPart part → PartOk part s x m
    → NoOwn part (cells m) → PartValue part (cells s) x (cells m)
reads l i none = ⊎_elim (λ g. record { turn = g; none = none })
    (λ n. absurd (nothing_spoiled l none n.1)) i.gave

-- a part alone keeps to the laws of a program
pub alone_part_law : {env : Variables} {T : Type 0} {outcome : Outcome T} {part : Part T}
    → PartLaw env T outcome part → ProgramLaw env T outcome part.roles (PartAlone part)
alone_part_law {part} l = record {
  others = λ q n a cs v s h.
      sym (keeps_other_some l.is.named n (swap_apart a) (turn_takes l.is h.turn))
      ∙ nothing_own q h.none;
  keeps = record {
    ok = λ s t v w o.
        let i = l.ok s t v w o in
        record {
          deep = let e = ap length i.steady.path in omega arith;
          read = λ spelled n. record {
            left = cells t;
            turn = (reads l.is i (nothing_own part.roles n)).turn;
            none = n;
          };
          all = λ z h.
              let k = gives l.is i (alone_value h) in
              (record { left = h.left; turn = k.0.turn; none = h.none }, rw k.1 h.none);
        };
    err = λ s t e w o z h. no_refusal l.is (alone_value h) (l.err s t e w o);
  };
}

module _ {env : Variables} {A B : Type 0} {first : Outcome A} {rest : Outcome B} {part : Part A}
    {r : Roles} {behind : CellsValue B} (lf : PartLaw env A first part)
    (lr : ProgramLaw env B rest r behind) (apart : Apart part.roles r) where
  -- a value leaves nothing of others
  leaves : LeavesToOthers (either part.roles r) (PartThen part behind)
  leaves q n a cs v s h =
      let t = turn_takes lf.is h.own.turn in
      sym (keeps_other_some lf.is.named n (swap_apart (apart_first r a)) t)
      ∙ lr.others q n (apart_second part.roles a) h.left v.1 (left_spelled t s) h.behind

  -- what follows of an answer
  abbrev follows : Situation → Result (A × B) Error → Situation → Type 0
  follows s (Ok v) t = ProgramTook (A × B) (PartThen part behind) s v t
  follows s (Err e) t = (w : A × B) → PartThen part behind (cells s) w → class e ≡ OfMemory

  -- an answer of both
  of_joined : {s m t : Situation} (x : Result A Error) (y : Result B Error) → IsWholeIn env s
      → first s x m → rest m y t → follows s (both_answers x y) t
  of_joined {s} {m} {t} (Ok x) (Ok y) w f g =
      let i = lf.ok s m x w f in
      let j = lr.keeps.ok m t y (none_outside_after w i.steady) g in
      record {
        deep = let e = ap length i.steady.path in let d = j.deep in omega arith;
        read = λ spelled e.
            let still : IsSpelledLine m.context = rw i.steady.context spelled in
            let after = j.read still e in
            let none = lr.others part.roles lf.is.named apart (cells m) y (cells_spelled m still)
            after in
            record { left = cells m; own = reads lf.is i none; behind = after };
        all = λ z h.
            let k = gives lf.is i h.own in
            let others = j.all z.1 (subst (λ c. behind c z.1) (sym k.1) h.behind) in (
              record { left = h.left; own = k.0; behind = subst (λ c. behind c y) k.1 others.0 },
              others.1,
            );
      }
  of_joined {s} {m} {t} (Ok x) (Err e) w f g = λ z h.
      let i = lf.ok s m x w f in
      lr.keeps.err m t e (none_outside_after w i.steady) g z.1
      (subst (λ c. behind c z.1) (sym (gives lf.is i h.own).1) h.behind)
  of_joined {s} {m} (Err d) (Ok y) w f g = λ z h. no_refusal lf.is h.own (lf.err s m d w f)
  of_joined {s} {m} {t} (Err d) (Err e) w f g = by_want (is_memory e.0) refl
    where
      by_want : (z : Bool) → is_memory e.0 ≡ z → follows s (if z then Err e else Err d) t
      by_want true h = λ z k. memory_class e.0 h
      by_want false h = λ z k. no_refusal lf.is k.own (lf.err s m d w f)

  -- what both answer together
  of_both : {s t : Situation} (x : Result (A × B) Error) → IsWholeIn env s
      → BothEval A B first rest s x t → follows s x t
  of_both {s} {t} x w o = subst (λ z. follows s z t) (sym o.answer)
      (of_joined o.a o.b w o.first_ran o.rest_ran)

  -- together they keep to the laws of a program
  pub then_law : ProgramLaw env (A × B) (BothOutcome first rest) (either part.roles r)
      (PartThen part behind)
  then_law = record {
    others = leaves;
    keeps = record {
      ok = λ s t v w o. of_both (Ok v) w o;
      err = λ s t e w o. ⊎_elim (λ x. of_both (Err e) w x) (λ x z h. memory_class e.0 x.1) o;
    };
  }
