-- Leaves: how the answer of a positional word is put together, which items were passed by, and a
-- key with a help.
use Rattle.std.proofs.Common.{◌≡◌, ℕ, Bool, true, false, List, Result, Ok, Err, inr, sym, refl}
use Rattle.std.proofs.Common.{true≢false, ◌∙◌, ap, [], ◌∷◌, ◌++◌, append_assoc, None}
use Rattle.std.proofs.lemmas.List.Elements.{All-push}
use Rattle.bpaf_line.specs.declared.error.Message.TheVariants.{Memory, ParseFailed}
use Rattle.bpaf_line.specs.{Taking.TakesText, Taking.open_items, declared.error.Message.Message}
use Rattle.bpaf_line.specs.{declared.error.Error.Error, Situation.Situation}
use Rattle.bpaf_laws.specs.{Reading.ReadsValue, Reading.FaultsText, Leaves.ArePassed, Leaves.Looks}
use Rattle.bpaf_grammar.specs.Positional.{PositionalOutcome, PositionalFails, accepts, misplaced}
use Rattle.bpaf_grammar.specs.declared.position.Position.{Position}
use Rattle.bpaf_doc.specs.declared.doc.Piece.{Piece}
use Rattle.bpaf_base.specs.{declared.arg.Arg.Arg, Items.item_text}
use Rattle.bpaf_text.specs.Named.{KeyWithValue, with_help}

module _ {T : Type 0} (means : List ℕ → T → Type 0) (position : Position) (metavar : List ℕ)
    {s t : Situation} {place : ℕ} {strict : Bool} {text : List ℕ}
    (takes : TakesText s place strict text t) where
  -- a fault in the text of an accepted word is a refusal of the positional
  fault_refused : (m : Message) → accepts position strict ≡ true
      → FaultsText means text t.current m → PositionalFails means position metavar s m t
  fault_refused Memory accepted fault =
      inr (record { place = place; strict = strict; text = text; takes = takes })
  fault_refused (ParseFailed at words) accepted fault =
      (record { place = place; strict = strict; text = text; takes = takes }, accepted, fault)
  fault_refused other accepted fault = absurd fault

  -- what reading the text of a taken word answers
  pub word_read : (r : Result T Error) → accepts position strict ≡ true
      → ReadsValue means text t.current r → PositionalOutcome means position metavar s r t
  word_read (Ok v) accepted meant =
      (record { place = place; strict = strict; text = text; takes = takes }, accepted, meant)
  word_read (Err e) accepted fault = fault_refused e.0 accepted fault

  -- a word on the wrong side that was taken is a refusal of the positional
  pub word_misplaced : (m : Message) → accepts position strict ≡ false
      → m ≡ misplaced strict place metavar → PositionalFails means position metavar s m t
  word_misplaced m wrong is = rw is (by_side strict wrong takes)
    where
      by_side : (b : Bool) → accepts position b ≡ false → TakesText s place b text t
          → PositionalFails means position metavar s (misplaced b place metavar) t
      by_side true wrong takes = (wrong, refl, (text, takes))
      by_side false wrong takes = (wrong, refl, (text, takes))

-- the items that were passed by, and those that are left; without `anywhere` none was passed by
pub record HasPassed {T : Type 0} (looks : Looks T) (anywhere : Bool) (s : Situation)
    (left : List (ℕ × Arg)) : Type 0 where
  pub before : List (ℕ × Arg)
  pub split : open_items s ≡ before ++ left
  pub passed : ArePassed looks before
  pub alone : anywhere ≡ false → before ≡ []

module _ {T : Type 0} (looks : Looks T) (s : Situation) (anywhere : Bool) where
  -- one more item is passed by
  pub passed_more : {placed : ℕ × Arg} {items left : List (ℕ × Arg)} → items ≡ placed ∷ left
      → HasPassed looks anywhere s items → looks (item_text placed.1) None → anywhere ≡ true
      → HasPassed looks anywhere s left
  passed_more {placed} {left = left} next h here all = record {
    before = h.before ++ placed ∷ [];
    split = h.split ∙ (ap (λ rest. h.before ++ rest) next
        ∙ sym (append_assoc h.before (placed ∷ []) left));
    passed = All-push (λ (item : ℕ × Arg). looks (item_text item.1) None) h.before placed h.passed
        here;
    alone = λ first. absurd (true≢false (sym all ∙ first));
  }

-- the key with this help
abbrev pub key_with_help : KeyWithValue → List Piece → KeyWithValue
key_with_help key help = record key { named = with_help key.named help }
