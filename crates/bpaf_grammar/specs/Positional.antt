-- Positional words: what they answer, and that they keep to the laws.
use Rattle.std.specs.Prelude.{◌≡◌, ◌⊎◌, ℕ, Bool, true, false, not, List, Ok, Err, Option, Some}
use Rattle.std.specs.Prelude.{None, option_and_then, refl}
use Rattle.bpaf_doc.specs.declared.doc.Piece.{Piece}
use Rattle.bpaf_doc.specs.Shape.{Shape, Shown, Positional, Strict as StrictShape}
use Rattle.bpaf_base.specs.Items.{is_positional, word_text}
use Rattle.bpaf_line.specs.Situation.{Situation, Context, item_in, is_open}
use Rattle.bpaf_line.specs.Taking.{TakesText, HasNone, IsMissingIn}
use Rattle.bpaf_line.specs.declared.error.Message.TheVariants.{Memory, Missing, ParseFailed}
use Rattle.bpaf_line.specs.declared.error.Message.TheVariants.{StrictPos, NonStrictPos}
use Rattle.bpaf_line.specs.declared.error.Message.TheVariants.{ParseFailure}
use Rattle.bpaf_line.specs.{declared.error.Message.Message, declared.error.Error.Error}
use Rattle.bpaf_laws.specs.Reading.{Share, Outcome, IsPlace, FaultsText, Readings}
use Rattle.bpaf_laws.specs.Laws.{Keeps, Reads, Lawful, NamesAnswer, ShowsNames, no_shorts}
use Rattle.bpaf_grammar.specs.declared.position.Position.{Position}
use Rattle.bpaf_grammar.specs.declared.position.Position.TheVariants.{Unrestricted, Strict}
use Rattle.bpaf_grammar.specs.declared.position.Position.TheVariants.{NonStrict}
use Rattle.std.proofs.Common.{sym, subst, ⊎_elim}
use Rattle.bpaf_laws.proofs.ShownNames.{one_shape}
use Rattle.bpaf_laws.proofs.Keeping.{keeps_same, closes_take, keeps_take, newly_take}
use Rattle.bpaf_line.proofs.Places.{match_is_open}

-- a word may stand on this side of `--`; strict tells that it stands on the right
abbrev pub accepts : Position → Bool → Bool
accepts Unrestricted strict = true
accepts Strict strict = strict
accepts NonStrict strict = not strict

-- one Word or PosWord on an accepted side, whose text means the value
pub record PositionalReads (T : Type 0) (means : List ℕ → T → Type 0) (position : Position)
    (context : Context) (share : Share) (v : T) : Type 0 where
  pub place : ℕ
  pub strict : Bool
  pub text : List ℕ
  pub is : option_and_then word_text (item_in context place) ≡ Some (strict, text)
  pub accepted : accepts position strict ≡ true
  pub alone : IsPlace place share
  pub meant : means text v

-- the refusal of a word on the wrong side
abbrev pub misplaced : Bool → ℕ → List ℕ → Message
misplaced true place metavar = NonStrictPos place metavar
misplaced false place metavar = StrictPos place metavar

-- the first word is taken, whatever its text means
pub record TakesSome (s t : Situation) : Type 0 where
  pub place : ℕ
  pub strict : Bool
  pub text : List ℕ
  pub takes : TakesText s place strict text t

-- a refusal: no word; a word on the wrong side, or one whose text means no value, which is taken;
-- or want of memory, with nothing taken or the word
abbrev pub PositionalFails : {T : Type 0} → (List ℕ → T → Type 0) → Position → List ℕ
    → Situation → Message → Situation → Type 0
PositionalFails means position metavar s (Missing items) t =
    HasNone is_positional s × (t ≡ s) × IsMissingIn s (Some (Positional metavar None)) items
PositionalFails means position metavar s (StrictPos place m) t = (accepts position false ≡ false)
    × (m ≡ metavar) × ((text : List ℕ) × TakesText s place false text t)
PositionalFails means position metavar s (NonStrictPos place m) t = (accepts position true ≡ false)
    × (m ≡ metavar) × ((text : List ℕ) × TakesText s place true text t)
PositionalFails means position metavar s (ParseFailed place fault) t =
    (taken : TakesSome s t) × (accepts position taken.strict ≡ true)
    × FaultsText means taken.text t.current (ParseFailed place fault)
PositionalFails means position metavar s Memory t = (t ≡ s) ⊎ TakesSome s t
PositionalFails means position metavar s m t = ⊥

-- the first word is taken, stands on an accepted side, and its text means the answer
abbrev pub PositionalOutcome : {T : Type 0} → (List ℕ → T → Type 0) → Position → List ℕ → Outcome T
PositionalOutcome means position metavar s (Ok v) t =
    (taken : TakesSome s t) × (accepts position taken.strict ≡ true) × means taken.text v
PositionalOutcome means position metavar s (Err e) t =
    PositionalFails means position metavar s e.0 t

-- what a positional shows: its item, behind `--` where it must stand there
abbrev pub positional_shape : Position → List ℕ → Option (List Piece) → Shape
positional_shape Unrestricted metavar help = Shown (Positional metavar help)
positional_shape Strict metavar help = StrictShape (Shown (Positional metavar help))
positional_shape NonStrict metavar help = Shown (Positional metavar help)

-- Positional words keep to the laws.

module _ (s : Situation) (place : ℕ) (strict : Bool) (text : List ℕ) (t : Situation)
    (takes : TakesText s place strict text t) where
  -- the word that is taken lay present in scope
  word_open : is_open s place ≡ true
  word_open = match_is_open is_positional s place takes.first.matches

  -- what taking a word keeps
  pub word_keeps : Keeps s t
  word_keeps = subst (Keeps s) (sym takes.taken) (keeps_take s place word_open)

module _ (T : Type 0) (means : List ℕ → T → Type 0) (position : Position) (metavar : List ℕ) where
  -- what a positional reads
  abbrev reads_positional : Readings T
  reads_positional = PositionalReads T means position

  -- a taken word on an accepted side, whose text means the value, is a reading of it
  positional_read : (s t : Situation) (v : T) (taken : TakesSome s t)
      → accepts position taken.strict ≡ true → means taken.text v → Reads T reads_positional s v t
  positional_read s t v taken accepted meant =
      let takes = taken.takes in
      let there : is_open s taken.place ≡ true =
      word_open s taken.place taken.strict taken.text t takes in
      subst (λ w. Reads T reads_positional s v w) (sym takes.taken) (record {
        keeps = keeps_take s taken.place there;
        closed = closes_take s taken.place;
        reading = record {
          place = taken.place;
          strict = taken.strict;
          text = taken.text;
          is = takes.is;
          accepted = accepted;
          alone = newly_take s taken.place there;
          meant = meant;
        };
      })

  -- what taking some word keeps, whatever its text means
  some_keeps : (s t : Situation) → TakesSome s t → Keeps s t
  some_keeps s t taken = word_keeps s taken.place taken.strict taken.text t taken.takes

  -- what a refusal of a positional keeps
  positional_refused : (s t : Situation) (m : Message)
      → PositionalFails means position metavar s m t → Keeps s t
  positional_refused s t (Missing items) fails = keeps_same s t fails.1
  positional_refused s t (StrictPos place m) fails = word_keeps s place _ fails.2.0 t fails.2.1
  positional_refused s t (NonStrictPos place m) fails = word_keeps s place _ fails.2.0 t fails.2.1
  positional_refused s t (ParseFailed place fault) fails = some_keeps s t fails.0
  positional_refused s t Memory fails =
      ⊎_elim (λ same. keeps_same s t same) (λ taken. some_keeps s t taken) fails
  positional_refused s t other fails = absurd fails

  -- no refusal is the answer of a run inside
  positional_named : (s t : Situation) (m : Message)
      → PositionalFails means position metavar s m t → NamesAnswer s.context m
  positional_named s t (ParseFailure f) fails = absurd fails
  positional_named s t other fails = tt

  -- positional words keep to the laws
  pub positional_lawful : Lawful T (PositionalOutcome means position metavar) reads_positional
  positional_lawful = record {
    ok = λ s t v o. positional_read s t v o.0 o.1 o.2;
    err = λ s t e o. positional_refused s t e.0 o;
    named = λ s t e o. positional_named s t e.0 o;
  }

-- a word shows no short name
pub positional_shows : (position : Position) (metavar : List ℕ) (help : Option (List Piece))
    → ShowsNames (λ shown. shown ≡ positional_shape position metavar help) no_shorts
positional_shows Unrestricted metavar help = one_shape refl
positional_shows Strict metavar help = one_shape refl
positional_shows NonStrict metavar help = one_shape refl

-- a fault that is told of a word is of one whose text means no value
abbrev pub FaultsWordAlone : {T : Type 0} → (List ℕ → T → Type 0) → Situation → Situation → Error
    → Type 0
FaultsWordAlone {T} means s t e = (place : Option ℕ) (fault : List ℕ)
    → e.0 ≡ ParseFailed place fault → (taken : TakesSome s t) × ((v : T) → ¬ (means taken.text v))
