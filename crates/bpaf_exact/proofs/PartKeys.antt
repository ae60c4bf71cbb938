-- A key is a named part.
use Rattle.std.proofs.Common.{false, subst, Result, List, refl, inl, inr, ◌∷◌, ◌≡◌, ◌⊎◌, [], ap}
use Rattle.bpaf_exact.specs.Flat.{Variables, class, cells, Gap, OfMemory, Steady, TakesFirst}
use Rattle.bpaf_exact.specs.Pieces.{TakesPieces, TakesPiece, takes_none, takes_more, takes_one}
use Rattle.bpaf_exact.specs.Pieces.{Cells, pieces, Roles, IsNamed, Apart, takes_two, takes_later}
use Rattle.bpaf_exact.specs.Parts.{Entries, IsSpoiled, IsPart, Lacks, no_entry, entry, present}
use Rattle.std.proofs.Common.{Err, Ok}
use Rattle.bpaf_line.specs.{declared.error.Error.Error, Messages.is_wrong_input}
use Rattle.bpaf_line.specs.Situation.{Situation}
use Rattle.bpaf_laws.specs.Reading.{Outcome}
use Rattle.bpaf_exact.proofs.Cuts.{first_takes, value_foreign, first_pieces}
use Rattle.bpaf_exact.proofs.{PartHeads.key_head, Repeat.same_takes}
use Rattle.bpaf_exact.specs.Parts.{absent, PartLaw, PartOk, PartErr, key_part}
use Rattle.bpaf_exact.specs.Flat.{first_one, first_two, first_later}
use Rattle.bpaf_exact.specs.Pieces.{LinePiece, is_own_role}

-- the first piece is one, and so is what is left
pub one_first : {q : Roles} {cs ds es : Cells} {o p : LinePiece} → IsNamed q → TakesFirst q cs o ds
    → TakesFirst q cs p es → (o ≡ p) × (ds ≡ es)
one_first n (first_one e) (first_one f) = (refl, refl)
one_first n (first_one e) (first_two f v) = absurd cc
one_first n (first_one e) (first_later f t) = absurd cc
one_first n (first_two e v) (first_one f) = absurd cc
one_first n (first_two e v) (first_two f w) = (refl, refl)
one_first n (first_two e v) (first_later f t) = absurd cc
one_first n (first_later e s) (first_one f) = absurd cc
one_first n (first_later e s) (first_two f v) = absurd cc
one_first n (first_later {c} e s) (first_later f t) =
    let i = one_first n s t in (i.0, ap (λ z. c ∷ z) i.1)

-- a piece of another given back doesn't matter to it
first_back : {p q : Roles} {cs ds es : Cells} {o x : LinePiece} → IsNamed p → IsNamed q → Apart p q
    → TakesPiece p cs x ds → TakesFirst q ds o es
    → (fs : Cells) × TakesFirst q cs o fs × TakesPiece p fs x es
first_back np n a (takes_one {k} e) (first_later f t) =
    (_, first_later (a.left k (ap is_own_role e)) t, takes_one e)
first_back np n a (takes_two {k} {w} e v) (first_later f (first_later g t)) = (
  _,
  first_later (a.left k (ap is_own_role e)) (first_later (value_foreign n v) t),
  takes_two e
      v,
)
first_back np n a (takes_later s) (first_one e) = (_, first_one e, takes_later s)
first_back np n a (takes_later (takes_later s)) (first_two e v) =
    (_, first_two e v, takes_later (takes_later s))
first_back np n a (takes_later s) (first_later f t) =
    let i = first_back np n a s t in (_, first_later f i.1, takes_later i.2)

-- nor do some
some_back : {p q : Roles} → IsNamed p → IsNamed q → Apart p q → {cs ds es : Cells} {o : LinePiece}
    → TakesPieces p cs ds → TakesFirst q ds o es
    → (fs : Cells) × TakesFirst q cs o fs × TakesPieces p fs es
some_back np n a takes_none f = (_, f, takes_none)
some_back np n a (takes_more t more) f =
    let i = some_back np n a more f in
    let j = first_back np n a t i.1 in
    (j.0, j.1, takes_more j.2 i.2)

-- a key is a part
pub key_is : {T : Type 0} {q : Roles} {value : LinePiece → T → Type 0} {gap : Gap T} → IsNamed q
    → ((v : T) → gap.has ≡ false → gap.absent v → ⊥) → IsPart (key_part q value gap)
key_is n must = record {
  named = n;
  takes = λ g. record { piece = _; middle = _; one = first_takes g.takes; more = takes_none };
  one = λ g h. (one_first n g.takes h.takes).1;
  back = λ np a t g.
      let b = some_back np n a t g.takes in
      (b.0, record { piece = g.piece; takes = b.1; means = g.means }, b.2);
  heads = λ g. key_head g.takes;
  not_both = λ {v = v} m a. must v m a;
}

-- what one evaluation of a key answers
pub data KeyEval (T : Type 0) (q : Roles) (value : LinePiece → T → Type 0) (gap : Gap T)
    (s : Situation) : Result T Error → Situation → Type 0 where
  key_read : {o : LinePiece} {v : T} {t : Situation} → Steady s t
      → TakesFirst q (cells s) o (cells t)
      → value o v → KeyEval T q value gap s (Ok v) t
  key_fault : {o : LinePiece} {os : List LinePiece} {e : Error} {t : Situation} → Steady s t
      → TakesPieces q (cells s) (cells t) → pieces q (cells s) ≡ o ∷ os → ((v : T) → value o v → ⊥)
      → KeyEval T q value gap s (Err e) t
  key_absent : {v : T} {t : Situation} → pieces q (cells s) ≡ [] → Steady s t
      → cells t ≡ cells s → gap.absent v → KeyEval T q value gap s (Ok v) t
  key_missing : {e : Error} {t : Situation} → pieces q (cells s) ≡ [] → Steady s t
      → cells t ≡ cells s → Lacks (key_part q value gap) (class e)
      → is_wrong_input e.0 ≡ false → KeyEval T q value gap s (Err e) t
  key_memory : {e : Error} {t : Situation} → class e ≡ OfMemory → KeyEval T q value gap s (Err e) t

module _ {T : Type 0} {q : Roles} {value : LinePiece → T → Type 0} {gap : Gap T} (n : IsNamed q)
  where
    -- a first piece that means nothing spoils the others
    pub unread_spoils : {cs : Cells} {o : LinePiece} {os : List LinePiece} → pieces q cs ≡ o ∷ os
        → ((v : T) → value o v → ⊥) → IsSpoiled (key_part q value gap) cs
    unread_spoils e none h = by_entries e none h.2
      where
        by_entries : {cs es : Cells} {o : LinePiece} {os : List LinePiece} {vs : List T}
            → pieces q cs ≡ o ∷ os → ((v : T) → value o v → ⊥)
            → Entries (key_part q value gap) cs vs es → ⊥
        by_entries e none (no_entry f) = absurd cc
        by_entries {o} e none (entry {v} g more) =
            let f = first_pieces q n g.takes in
            let same : g.piece ≡ o = cc in
            none v (subst (λ z. value z v) same g.means)

-- it keeps to the law
pub key_law : {env : Variables} {T : Type 0} {outcome : Outcome T} {q : Roles}
    {value : LinePiece → T → Type 0} {gap : Gap T} → IsNamed q
    → ((v : T) → gap.has ≡ false → gap.absent v → ⊥)
    → ((s t : Situation) (r : Result T Error) → s.context.env ≡ env → outcome s r t
    → KeyEval T q value gap s r t) → PartLaw env T outcome (key_part q value gap)
key_law {T} {q} {value} {gap} n must reads = record {
  is = key_is n must;
  ok = λ s t v w o. by_ok (reads s t (Ok v) w.environment o);
  err = λ s t e w o. by_err (reads s t (Err e) w.environment o);
}
  where
    by_ok : {s t : Situation} {v : T} → KeyEval T q value gap s (Ok v) t
        → PartOk (key_part q value gap) s v t
    by_ok (key_read {o} st f y) = record {
      steady = st;
      takes = takes_more (first_takes f) takes_none;
      gave = inl (present (record { piece = o; takes = f; means = y }));
    }
    by_ok (key_absent e st same a) =
        record { steady = st; takes = same_takes same; gave = inl (absent e a same) }

    by_err : {s t : Situation} {e : Error} → KeyEval T q value gap s (Err e) t
        → (class e ≡ OfMemory) ⊎ PartErr (key_part q value gap) s e t
    by_err (key_memory c) = inl c
    by_err (key_fault st t e none) = inr (record {
      steady = st;
      takes = t;
      why = inr (unread_spoils n e none);
      calm = λ f. absurd cc;
    })
    by_err (key_missing e st same l calm) =
        inr (record { steady = st; takes = same_takes same; why = inl (e, l); calm = λ f. calm })
