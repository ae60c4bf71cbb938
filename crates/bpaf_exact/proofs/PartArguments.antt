-- An argument, of which one key is read, is a named part.
use Rattle.std.proofs.Common.{arith, false, subst, Result, List, refl, ◌≡◌, ap, Err, Ok, ⊎_elim, ℕ}
use Rattle.bpaf_laws.specs.Leaves.{ArgumentOutcome, ArgumentFails, TakesOwnText, LacksText}
use Rattle.bpaf_exact.proofs.PartKeys.{KeyEval, key_read, key_absent, key_missing, key_memory}
use Rattle.bpaf_exact.proofs.PartKeys.{key_law, key_fault}
use Rattle.bpaf_text.specs.Named.{KeyWithValue, argument_part}
use Rattle.bpaf_line.specs.declared.error.Message.TheVariants.{Memory, ParseFailed, NoArgument}
use Rattle.bpaf_line.specs.{declared.error.Message.Message, declared.error.Error.Error}
use Rattle.bpaf_line.specs.{Messages.is_wrong_input, Situation.Situation}
use Rattle.bpaf_laws.specs.{Leaves.TakesBefore, Leaves.is_key_with_value, Reading.first_set}
use Rattle.bpaf_exact.proofs.Leaves.{named, no_key, took_pair, TookPair}
use Rattle.bpaf_exact.proofs.Product.{steady_refl, current_cells, same_steady}
use Rattle.bpaf_exact.proofs.Places.{bare_taken, match_of, by_test}
use Rattle.bpaf_exact.proofs.{PartFlags.absence_is, Wrappers.gap_empty}
use Rattle.bpaf_exact.proofs.Cuts.{first_takes, first_pieces}
use Rattle.bpaf_exact.specs.Flat.{error_class, gap_of, Gap, Variables}
use Rattle.bpaf_exact.specs.Parts.{PartLaw, key_part, lacks_missing, lacks_refused}
use Rattle.bpaf_exact.specs.ProgramForm.{ArgumentValue, argument_roles}
use Rattle.bpaf_exact.specs.Pieces.{Roles, takes_more, takes_none}

module _ {T : Type 0} (means : List ℕ → T → Type 0) (argument : KeyWithValue)
    (once : argument.last ≡ false) (variables : Variables) where
  -- its items
  abbrev own : Roles
  own = argument_roles argument.adjacent argument.named.names

  -- what stands for no piece
  abbrev gap : Gap T
  gap = gap_of means (first_set variables argument.named.envs)

  -- what one evaluation reads
  abbrev Read : Situation → Result T Error → Situation → Type 0
  Read = KeyEval T own (ArgumentValue means) gap

  -- a key with its text
  pair : {s t : Situation} {text : List ℕ} → TakesOwnText argument.last argument s text t
      → TookPair own s t text
  pair {s} {t} {text} takes =
      took_pair argument s t text (subst (λ b. TakesOwnText b argument s text t) once takes)

  -- a refusal
  argument_fails : {s t : Situation} {e : Error} (m : Message) → e.0 ≡ m
      → s.context.env ≡ variables → ArgumentFails means argument s m t → Read s (Err e) t
  argument_fails Memory c same o = key_memory (ap error_class c)
  argument_fails {s} {t} {e} (ParseFailed place fault) c same o = ⊎_elim
      (λ takes. let m = pair takes in
      key_fault {e = e} m.steady (takes_more (first_takes m.takes) takes_none)
      (first_pieces own (named argument) m.takes) (λ v y. o.2.0 v (rw (← m.text_is) y)))
      (λ read. rw read.left (key_missing {e = e} (no_key argument s read.no_key)
      (same_steady steady_refl) (current_cells s) (lacks_refused (ap error_class c)
      (λ v a. grind (arith, read.set, o.2.0)) (λ m. grind (arith, read.set)))
      (ap is_wrong_input c))) o.1
  argument_fails {s} {t} {e} (NoArgument key metavar) c same o =
      let left = subst (λ b. TakesBefore b argument s t) once o.1 in
      let lacks = subst (λ z. LacksText argument z (NoArgument key metavar)) left o.0 in
      let m = match_of (is_key_with_value argument) s key lacks.0.matches in
      rw left (key_fault {e = e} steady_refl takes_none (bare_taken by_test lacks.0 m lacks.1).is
      (λ v y. y))
  argument_fails {s} {e} other c same o =
      let n = absence_is s (argument_part argument) argument.named.envs {e = e} other c o.1.1 in
      rw o.2 (key_missing {e = e} (no_key argument s o.0) steady_refl refl
      (lacks_missing n.0 (grind (arith, o.1.0))) n.1)

  -- it reads as a key
  argument_read : (s t : Situation) (r : Result T Error) → s.context.env ≡ variables
      → ArgumentOutcome means argument s r t → Read s r t
  argument_read s t (Ok v) same o = ⊎_elim
      (λ takes. let m = pair takes in key_read m.steady m.takes (rw m.text_is o.2))
      (λ read. rw read.left (key_absent {v = v} (no_key argument s read.no_key)
      (same_steady steady_refl)
      (current_cells s) (grind (arith, read.set, o.2)))) o.1
  argument_read s t (Err e) same o = argument_fails e.0 refl same o

  -- it keeps to the law
  pub argument_law : PartLaw variables T (ArgumentOutcome means argument)
      (key_part own (ArgumentValue means) gap)
  argument_law = key_law (named argument) (gap_empty means _) argument_read
