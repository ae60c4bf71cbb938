-- What follows of the laws of parts, whatever they are.
use Rattle.bpaf_exact.specs.Pieces.{TakesPieces, takes_more, takes_none, Cells, Roles, pieces}
use Rattle.bpaf_exact.specs.Parts.{Part, NoOwn, Entries, HasEntries, IsSpoiled, Turn, IsPart, Lacks}
use Rattle.std.proofs.Common.{arith, subst, List, refl, inl, inr, sym, ◌∙◌, ◌∷◌, ◌≡◌, ◌⊎◌, []}
use Rattle.bpaf_exact.proofs.Cuts.{takes_nonempty, keeps_other_some, takes_left, Union, some_trans}
use Rattle.bpaf_exact.specs.Parts.{no_entry, entry, present, absent, lacks_missing, lacks_refused}
use Rattle.bpaf_exact.specs.Pieces.{Apart, IsNamed, LinePiece}
use Rattle.bpaf_exact.specs.Flat.{TakesAny, ErrorClass}

-- what none is taken of is as it was
pub none_to_take : {q : Roles} {cs ds : Cells} → pieces q cs ≡ [] → TakesPieces q cs ds → ds ≡ cs
none_to_take e takes_none = refl
none_to_take e (takes_more t more) = absurd (takes_nonempty t e)

-- at least one was there
pub any_there : {q : Roles} {cs ds : Cells} → TakesAny q cs ds → pieces q cs ≡ [] → ⊥
any_there t e = takes_nonempty t.one e

-- some
pub any_some : {q : Roles} {cs ds : Cells} → TakesAny q cs ds → TakesPieces q cs ds
any_some t = takes_more t.one t.more

-- some own pieces are taken, and then some more
pub any_more : {q : Roles} {cs ds es : Cells} → TakesAny q cs ds → TakesPieces q ds es
    → TakesAny q cs es
any_more t more =
    record { piece = t.piece; middle = t.middle; one = t.one; more = some_trans t.more more }

-- the items of one of two are apart from those of a third
pub apart_left : {p qa qb r : Roles} → Union qa qb r → Apart p r → Apart p qa
apart_left u a = grind arith

-- what one of two takes both take
pub takes_some : {qa qb r : Roles} {cs ds : Cells} → Union qa qb r → TakesPieces qa cs ds
    → TakesPieces r cs ds
takes_some u takes_none = takes_none
takes_some u (takes_more t more) = takes_more (takes_left u t) (takes_some u more)

-- at least one
pub takes_any : {qa qb r : Roles} {cs ds : Cells} → Union qa qb r → TakesAny qa cs ds
    → TakesAny r cs ds
takes_any u t = record {
  piece = t.piece;
  middle = t.middle;
  one = takes_left u t.one;
  more = takes_some u t.more;
}

module _ {T : Type 0} {part : Part T} (l : IsPart part) where
  -- without own pieces there is nothing to spoil
  pub nothing_spoiled : {cs : Cells} → NoOwn part cs → IsSpoiled part cs → ⊥
  nothing_spoiled e n = n ([], _, no_entry e)

  -- without own pieces there is no first entry
  pub no_first : {cs ds : Cells} {v : T} → NoOwn part cs → part.first cs v ds → ⊥
  no_first e g = any_there (l.takes g) e

  -- a turn takes own pieces
  pub turn_takes : {cs ds : Cells} {v : T} → Turn part cs v ds → TakesPieces part.roles cs ds
  turn_takes (present g) = any_some (l.takes g)
  turn_takes (absent e a same) = rw same takes_none

  -- of two turns on the same cells both leave the same
  pub one_turn : {cs ds es : Cells} {v w : T} → Turn part cs v ds → Turn part cs w es → ds ≡ es
  one_turn (present g) (present h) = l.one g h
  one_turn (present g) (absent e a same) = absurd (no_first e g)
  one_turn (absent e a same) (present g) = absurd (no_first e g)
  one_turn (absent e a same) (absent f b other) = same ∙ sym other

  -- without own pieces it leaves all as it was
  pub idle_turn : {cs ds : Cells} {v : T} → NoOwn part cs → Turn part cs v ds → ds ≡ cs
  idle_turn e (present g) = absurd (no_first e g)
  idle_turn e (absent f a same) = same

  -- what lacks a value has none
  pub lacks_none : {c : ErrorClass} {v : T} → Lacks part c → part.absent v → ⊥
  lacks_none (lacks_missing c m) a = l.not_both m a
  lacks_none {v} (lacks_refused c n m) a = n v a

  -- what lacks a value has no turn
  pub lacks_turn : {c : ErrorClass} {cs ds : Cells} {v : T} → NoOwn part cs → Lacks part c
      → Turn part cs v ds → ⊥
  lacks_turn e n (present g) = no_first e g
  lacks_turn e n (absent f a same) = lacks_none n a

  -- before a turn there are entries where there are some behind it
  pub turn_entries : {cs ds : Cells} {v : T} → Turn part cs v ds → HasEntries part ds
      → HasEntries part cs
  turn_entries (present g) h = (_, h.1, entry g h.2)
  turn_entries (absent e a same) h = subst (HasEntries part) same h

  module _ {q : Roles} (n : IsNamed q) (apart : Apart q part.roles) where
    -- others' pieces that are given back don't matter to what isn't there,
    pub none_back : {cs ds : Cells} → TakesPieces q cs ds → NoOwn part ds → NoOwn part cs
    none_back t e = sym (keeps_other_some n l.named apart t) ∙ e

    -- to a turn,
    pub turn_back : {cs ds es : Cells} {v : T} → TakesPieces q cs ds → Turn part ds v es
        → (fs : Cells) × Turn part cs v fs × TakesPieces q fs es
    turn_back t (present g) = let b = l.back n apart t g in (b.0, present b.1, b.2)
    turn_back {cs} t (absent e a same) = (cs, absent (none_back t e) a refl, rw same t)

    -- entries stay entries when others' pieces are given back
    pub entries_back : {ds es : Cells} {vs : List T} {cs : Cells} → TakesPieces q cs ds
        → Entries part ds vs es → HasEntries part cs
    entries_back t (no_entry e) = ([], _, no_entry (none_back t e))
    entries_back t (entry g more) =
        let b = l.back n apart t g in
        let i = entries_back b.2 more in
        (_, i.1, entry b.1 i.2)

    -- what is spoiled stays so when others' pieces are taken
    pub stays_spoiled : {cs ds : Cells} → TakesPieces q cs ds → IsSpoiled part cs
        → IsSpoiled part ds
    stays_spoiled t n h = n (entries_back t h.2)

-- there are some or there are none
pub some_or_none : (os : List LinePiece) → (os ≡ []) ⊎ (os ≡ [] → ⊥)
some_or_none [] = inl refl
some_or_none (o ∷ os) = inr (λ e. absurd cc)
