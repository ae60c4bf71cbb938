-- A pair of keys of which one turns something on and the other turns it off.
use Rattle.std.specs.Prelude.{◌≡◌, ℕ, Bool, true, false, Ok, Err, Option, Some, None, refl}
use Rattle.bpaf_doc.specs.Names.{Names}
use Rattle.bpaf_base.specs.Items.{is_key_of}
use Rattle.bpaf_line.specs.Situation.{Situation, Context, is_open}
use Rattle.bpaf_line.specs.Taking.{TakesFlag}
use Rattle.bpaf_line.proofs.Places.{match_is_open, match_has_item}
use Rattle.bpaf_laws.specs.Reading.{Share, Readings, Outcome, HasItem, IsPlace, IsEmptyShare}
use Rattle.bpaf_laws.specs.Laws.{Reads, Lawful, no_shorts}
use Rattle.bpaf_laws.proofs.ShownNames.{one_shape}
use Rattle.bpaf_doc.specs.Shape.{Skip}
use Rattle.bpaf.specs.Own.{Own}
use Rattle.bpaf_laws.proofs.Keeping.{closes_take, keeps_take, newly_take, newly_none, reads_same}
use Rattle.std.proofs.Common.{sym, subst}

-- one key with one of the names, and no other place
abbrev pub IsKey : Names → Context → Share → Type 0
IsKey names context share = (key : ℕ) × HasItem (is_key_of names) context key × IsPlace key share

-- what a toggle reads: a key of the one kind, a key of the other, or no place
abbrev pub ToggleReads : (on off : Names) → Readings (Option Bool)
ToggleReads on off context share (Some true) = IsKey on context share
ToggleReads on off context share (Some false) = IsKey off context share
ToggleReads on off context share None = IsEmptyShare share

-- what it answers: the first key of the one kind or of the other is taken, or nothing changes
abbrev pub ToggleOutcome : (on off : Names) → Outcome (Option Bool)
ToggleOutcome on off s (Ok (Some true)) t = TakesFlag on s true t
ToggleOutcome on off s (Ok (Some false)) t = TakesFlag off s true t
ToggleOutcome on off s (Ok None) t = t ≡ s
ToggleOutcome on off s (Err e) t = ⊥

-- a key that is taken is the place that is newly taken
key_read : {T : Type 0} (reads : Readings T) (names : Names) (s t : Situation) (v : T)
    → TakesFlag names s true t
    → ((share : Share) → IsKey names s.context share → reads s.context share v)
    → Reads T reads s v t
key_read {T} reads names s t v takes read =
    let there : is_open s takes.0 ≡ true =
    match_is_open (is_key_of names) s takes.0 takes.1.matches in
    subst (λ w. Reads T reads s v w) (sym takes.2) (record {
      keeps = keeps_take s takes.0 there;
      closed = closes_take s takes.0;
      reading =
          read _ (
            takes.0,
            match_has_item (is_key_of names) s takes.0 takes.1.matches,
            newly_take s takes.0 there,
          );
    })

module _ (on off : Names) where
  -- an answer of a toggle is read off what it took
  toggle_read : (s t : Situation) (v : Option Bool) → ToggleOutcome on off s (Ok v) t
      → Reads (Option Bool) (ToggleReads on off) s v t
  toggle_read s t (Some true) takes =
      key_read (ToggleReads on off) on s t (Some true) takes (λ share is. is)
  toggle_read s t (Some false) takes =
      key_read (ToggleReads on off) off s t (Some false) takes (λ share is. is)
  toggle_read s t None same = reads_same (ToggleReads on off) s t None same (newly_none s)

  -- a toggle keeps to the laws
  pub toggle_lawful : Lawful (Option Bool) (ToggleOutcome on off) (ToggleReads on off)
  toggle_lawful = record {
    ok = λ s t v o. toggle_read s t v o;
    err = λ s t e o. absurd o;
    named = λ s t e o. absurd o;
  }

-- a toggle of keys with these names, which shows nothing and refuses nothing
abbrev pub toggle : (on off : Names) → Own (Option Bool)
toggle on off = record {
  outcome = ToggleOutcome on off;
  reads = ToggleReads on off;
  describes = λ shape. shape ≡ Skip;
  shorts = no_shorts;
  spared = ToggleOutcome on off;
  lawful = toggle_lawful on off;
  shows = one_shape refl;
  spares = λ s t r o. o;
}
