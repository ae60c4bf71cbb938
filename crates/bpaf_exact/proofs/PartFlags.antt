-- A flag is a named part.
use Rattle.std.proofs.Common.{arith, false, Option, Result, List, None, refl, true, ◌≡◌, ap, Err}
use Rattle.std.proofs.Common.{Ok, ⊎_elim, Bool, ℕ}
use Rattle.bpaf_exact.proofs.Places.{take_steady, test_named, test_owns, no_pieces, one_taken}
use Rattle.bpaf_exact.specs.Flat.{error_class, gap_of, Gap, Variables, CanCatch, class}
use Rattle.bpaf_exact.proofs.PartKeys.{KeyEval, key_read, key_absent, key_missing, key_memory}
use Rattle.std.specs.{Prelude.[], Prelude.◌∷◌, Option.is_some}
use Rattle.bpaf_base.specs.Items.{is_key_of}
use Rattle.bpaf_text.specs.Named.{Named as Key, flag_part}
use Rattle.bpaf_line.specs.{declared.error.Message.TheVariants.Memory, declared.error.Error.Error}
use Rattle.bpaf_line.specs.{Taking.TakesFlag, Taking.HasNone, declared.error.Message.Message}
use Rattle.bpaf_line.specs.{Messages.is_wrong_input, Situation.Situation}
use Rattle.bpaf_laws.specs.Leaves.{FlagOutcome, value_without_key, FlagFails}
use Rattle.bpaf_laws.specs.Reading.{first_set, is_set, IsAbsence}
use Rattle.bpaf_doc.specs.Shape.{Part as Piece}
use Rattle.bpaf_exact.proofs.{Places.match_of, Places.by_test}
use Rattle.bpaf_exact.proofs.{Product.steady_refl, Wrappers.gap_empty, PartKeys.key_law}
use Rattle.bpaf_exact.specs.ProgramForm.{flag_roles, FlagValue, flag_part_form}
use Rattle.bpaf_exact.specs.Parts.{PartLaw, PartFormLaw, key_part, lacks_missing}
use Rattle.bpaf_exact.specs.Pieces.{Alone, Roles}

-- where it is nowhere that can be caught, and the words of the line aren't at fault
pub absence_is : (s : Situation) (part : Option Piece) (envs : List (List ℕ)) {e : Error}
    (m : Message) → e.0 ≡ m → IsAbsence s part envs m
    → CanCatch (class e) × (is_wrong_input e.0 ≡ false)
absence_is s x envs m c o = grind arith

module _ {T : Type 0} (clones : T → T → Type 0) (key : Key) (present : T) (absent : Option T)
    (variables : Variables) where
  -- its items
  abbrev flag_items : Roles
  flag_items = flag_roles key.names

  -- what stands for no piece
  abbrev flag_gap : Gap T
  flag_gap = gap_of clones (value_without_key present absent (first_set variables key.envs))

  -- what one evaluation reads
  abbrev Read : Situation → Result T Error → Situation → Type 0
  Read = KeyEval T flag_items (FlagValue (clones present)) flag_gap

  -- a key taken
  key_taken : (s : Situation) {t : Situation} {v : T} → TakesFlag key.names s true t
      → clones present v → Read s (Ok v) t
  key_taken s takes y =
      let m = match_of (is_key_of key.names) s takes.0 takes.1.matches in
      rw takes.2 (key_read take_steady (one_taken by_test takes.1 m) y)

  -- no key there
  none_taken : {s t : Situation} {v : T} → HasNone (is_key_of key.names) s → t ≡ s
      → flag_gap.absent v → Read s (Ok v) t
  none_taken {s} none same g = rw same (key_absent (no_pieces s by_test none) steady_refl refl g)

  -- whether a variable is set
  set_here : (s : Situation) {b : Bool} → s.context.env ≡ variables
      → is_set s.context.env key.envs ≡ b → is_some (first_set variables key.envs) ≡ b
  set_here s e f = rw (← e) f

  -- what stands for no piece where nothing does
  gap_none : (absent : Option T) (set : Option (List ℕ)) → is_some set ≡ false → absent ≡ None
      → is_some (value_without_key present absent set) ≡ false
  gap_none x y e f = grind arith

  -- a refusal
  flag_fails : {s t : Situation} {e : Error} (m : Message) → e.0 ≡ m
      → s.context.env ≡ variables → FlagFails {T = T} key absent s m t → Read s (Err e) t
  flag_fails Memory c same o = key_memory (ap error_class c)
  flag_fails {s} {e} other c same o =
      let n = absence_is s (flag_part key) key.envs {e = e} other c o.2 in
      rw o.0.0.1 (key_missing {e = e} (no_pieces s by_test o.0.0.0) steady_refl refl
      (lacks_missing n.0 (gap_none absent _ (set_here s same o.0.1) o.1)) n.1)

  -- it reads as a key
  flag_read : (s t : Situation) (r : Result T Error) → s.context.env ≡ variables
      → FlagOutcome clones key present absent s r t → Read s r t
  flag_read s t (Ok v) same o =
      ⊎_elim (λ here. ⊎_elim (λ takes. key_taken s takes here.1)
      (λ set. none_taken set.0.0 set.0.1 (grind (arith, set_here s same set.1, here.1))) here.0)
      (λ none. none_taken none.0.0.0 none.0.0.1 (grind (arith, set_here s same none.0.1, none.1)))
      o
  flag_read s t (Err e) same o = flag_fails e.0 refl same o

  -- it keeps to the law
  pub flag_law : PartLaw variables T (FlagOutcome clones key present absent)
      (key_part flag_items (FlagValue (clones present)) flag_gap)
  flag_law = key_law (test_named (is_key_of key.names) key.names Alone (λ k e. e))
      (gap_empty clones _) flag_read

  -- as a form
  pub flag_part_form_law : PartFormLaw variables (FlagOutcome clones key present absent)
      (key.names ∷ []) (flag_part_form clones key present absent variables)
  flag_part_form_law = record { by = (flag_law, test_owns Alone (λ k e. e)) }
