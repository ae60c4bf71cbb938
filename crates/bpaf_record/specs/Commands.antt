-- Plain commands and positional words keep to the laws of their forms.
use Rattle.std.proofs.Common.{true≢false, Result, false, subst, Bool, true, List, Some, refl, ◌≡◌}
use Rattle.bpaf_line.specs.declared.error.Message.TheVariants.{NonStrictPos, ParseFailed, StrictPos}
use Rattle.bpaf_grammar.specs.Command.{EitherCommandOutcome, CommandOutcome, no_memory, missing}
use Rattle.bpaf_exact.specs.ProgramForm.{command_leftover, command_refused, command_missing, RunRan}
use Rattle.bpaf_exact.specs.ProgramForm.{program_command, command_memory, command_value, word_fault}
use Rattle.bpaf_exact.specs.ProgramForm.{word_memory, word_passed, run_refusal, run_memory, FormLaw}
use Rattle.bpaf_exact.specs.ProgramForm.{word_missing, run_leftover, CommandEval, ProgramForm}
use Rattle.bpaf_exact.specs.ProgramForm.{WordValue, word_read, IsNoValue, run_value, WordEval}
use Rattle.std.proofs.Common.{Err, inl, inr, sym, ◌∙◌, not, Ok, ap, [], ℕ}
use Rattle.bpaf_base.specs.{declared.arg.Arg.Arg, Items.word_text}
use Rattle.bpaf_doc.specs.{Shape.Shape, Shape.Part, Names.Names}
use Rattle.bpaf_line.specs.declared.error.Message.TheVariants.{Missing, Memory}
use Rattle.bpaf_line.specs.{declared.failure.ParseFailure.ParseFailure, declared.error.Error.Error}
use Rattle.bpaf_line.specs.{Situation.open_count, Situation.Situation, Failure.end_message}
use Rattle.bpaf_line.specs.declared.error.Message.{Message}
use Rattle.bpaf_laws.specs.Command.{opening_words, IsOpenedAt, Called, inside}
use Rattle.bpaf_laws.specs.Reading.{Outcome}
use Rattle.bpaf_grammar.specs.{declared.position.Position.Position, Ending.EndsRun, Ending.usage}
use Rattle.bpaf_grammar.specs.Command.{value, ended}
use Rattle.bpaf.specs.Ending.{leftover as told_leftover, refused as told_refusal, passed_on, memory}
use Rattle.bpaf.specs.Leftover.{not_expected, IsLeftover, only_once, conflict}
use Rattle.bpaf.specs.Positional.{PositionalOutcome, PositionalFails, accepts}
use Rattle.bpaf.specs.{Run.value as ran_value, Run.leftover, Run.refused, Run.Runs, Info.RunInfo}
use Rattle.bpaf_exact.proofs.ProgramForm.{program_command_law, narrower_form}
use Rattle.bpaf_exact.proofs.Leaves.{stands_before, word_by_law, word_is}
use Rattle.bpaf_exact.proofs.{Classes.memory_class, Classes.not_memory, Places.open_counted}
use Rattle.bpaf_exact.proofs.Tables.{no_more}
use Rattle.bpaf_exact.specs.{Flat.Variables, Flat.error_class, Flat.class, ProgramForm.word_by}
use Rattle.bpaf_exact.specs.Pieces.{One}
use Rattle.bpaf_record.specs.Record.{answer_of}
use Rattle.bpaf_line.specs.declared.failure.ParseFailure.TheVariants as failure

-- where something is told of what is left something is
pub left_over : (s : Situation) (m : Message) → IsLeftover s m → open_count s ≡ 0 → ⊥
left_over s m (conflict p winner next is) = open_counted s p next.present
left_over s m (only_once p earlier next is key) = open_counted s p next.present
left_over s m (not_expected p next is key) = open_counted s p next.present

-- what a run answers that gives no value is none
failure_is_no_value : (T : Type 0) (f : ParseFailure) → IsNoValue (answer_of {T = T} (Err f))
failure_is_no_value T (failure.Stdout doc full) = tt
failure_is_no_value T (failure.Stderr doc) = tt
failure_is_no_value T failure.Memory = tt

module _ (T : Type 0) (inner : Outcome T) (describes : Shape → Type 0) (info : RunInfo) where
  -- what a run answers, as exactness sees it
  pub run_ran : (s t : Situation) (r : Result T ParseFailure)
      → Runs T inner (EndsRun describes info) s r t → RunRan T inner s (answer_of r)
  run_ran s t r (ran_value v left o none) = run_value o none
  run_ran s t r (leftover v left f after o (told_leftover m l before g u is tells)) =
      run_leftover o (left_over left m is) (failure_is_no_value T f)
  run_ran s t r (refused e left f after o (memory m before u is)) =
      run_memory o (memory_class e.0 is)
  run_ran s t r (refused e left f after o (usage m before g u spared shows is)) =
      run_refusal o (not_memory e.0 spared) (failure_is_no_value T f)
  run_ran s t r (refused e left f after o (passed_on g before u spared shows)) =
      run_refusal o (not_memory e.0 spared) (failure_is_no_value T f)
  run_ran s t r (refused e left f after o (told_refusal m l before g u spared shows other tells)) =
      run_refusal o (not_memory e.0 spared) (failure_is_no_value T f)

  module _ (called : Called) (shows : Part → Type 0) where
    -- any end but a value behind the word
    ended_behind : {s t : Situation} {e : Error} (f : ParseFailure) {p : ℕ}
        → IsOpenedAt (opening_words called) s p
        → RunRan T inner (inside called s p) (answer_of (Err f)) → e.0 ≡ end_message f
        → CommandEval T inner called s (Err e) t
    ended_behind failure.Memory at ran h = command_memory (ap error_class h)
    ended_behind (failure.Stdout doc full) at (run_leftover o left n) h = command_leftover at o left
    ended_behind (failure.Stdout doc full) at (run_refusal o other n) h = command_refused at o other
    ended_behind (failure.Stderr doc) at (run_leftover o left n) h = command_leftover at o left
    ended_behind (failure.Stderr doc) at (run_refusal o other n) h = command_refused at o other

    -- each answer
    command_eval : (s t : Situation) (r : Result T Error)
        → CommandOutcome T inner (EndsRun describes info) called shows s r t
        → CommandEval T inner called s r t
    command_eval s t r (value v p u at (ran_value w after o none)) = command_value at o none
    command_eval s t r (ended f e p u at ran h) =
        ended_behind f at (run_ran (inside called s p) u (Err f) ran) h
    command_eval s t r (missing e none (inl m)) = command_memory (ap error_class m)
    command_eval s t r (missing e none (inr m)) = command_missing none (ap error_class m.3)
    command_eval s t r (no_memory e p at h) = command_memory (ap error_class h)

-- A plain command keeps to the law of its form, where what runs behind its word does.
pub plain_command_law : {env : Variables} {T : Type 0} {inner : Outcome T} {names : List Names}
    {words : List (List ℕ)} {form : ProgramForm T} (describes : Shape → Type 0) (info : RunInfo)
    (called : Called) (shows : Part → Type 0) (apart : Bool) → FormLaw env inner names words form
    → FormLaw env (CommandOutcome T inner (EndsRun describes info) called shows) names
    (opening_words called) (program_command false apart called form)
plain_command_law {T} {inner} describes info called shows apart l = narrower_form
    (no_more (λ s t r o. command_eval T inner describes info called shows s t r o))
    (program_command_law apart called l)

-- An adjacent one has none.
pub either_command_law : {env : Variables} {T : Type 0} {inner : Outcome T} {names : List Names}
    {words : List (List ℕ)} {form : ProgramForm T} (describes : Shape → Type 0) (info : RunInfo)
    (called : Called) (shows : Part → Type 0) (adjacent apart : Bool)
    → FormLaw env inner names words form → FormLaw env
    (EitherCommandOutcome adjacent T inner (EndsRun describes info) called shows) names
    (opening_words called) (program_command adjacent apart called form)
either_command_law describes info called shows true apart l = record { by = tt }
either_command_law describes info called shows false apart l =
    plain_command_law describes info called shows apart l

module _ {T : Type 0} (means : List ℕ → T → Type 0) (w : Arg) (strict : Bool) (text : List ℕ)
    (is : word_text w ≡ Some (strict, text)) (v : T) (position : Position) where
  -- a word on an accepted side, whose text means a value, has it
  has_value : accepts position strict ≡ true → means text v
      → WordValue (accepts position) means (One w) v
  has_value on m = (
    ap (accepts position) (word_is w strict text is).1 ∙ on,
    subst (λ z. means z v) (sym (word_is w strict text is).0) m,
  )

  -- one that has a value stands on such a side, and its text means the value
  of_value : WordValue (accepts position) means (One w) v
      → (accepts position strict ≡ true) × means text v
  of_value y = (
    ap (accepts position) (sym (word_is w strict text is).1) ∙ y.0,
    subst (λ z. means z v) (word_is w strict text is).0 y.1,
  )

module _ (T : Type 0) (means : List ℕ → T → Type 0) (position : Position) (metavar : List ℕ) where
  -- the evaluation of a word with these values
  abbrev Reading : Situation → Result T Error → Situation → Type 0
  Reading = WordEval T (not (accepts position true)) (WordValue (accepts position) means)

  -- its values
  values : (s t : Situation) (v : T) → PositionalOutcome means position metavar s (Ok v) t
      → Reading s (Ok v) t
  values s t v o =
      word_read o.0.takes (λ w is. has_value means w o.0.strict o.0.text is v position o.1 o.2)

  -- its refusals
  refusals : (s t : Situation) (e : Error) (m : Message) → class e ≡ error_class m
      → PositionalFails means position metavar s m t → Reading s (Err e) t
  refusals s t e Memory c o = word_memory c
  refusals s t e (Missing items) c o = subst (Reading s (Err e)) (sym o.1) (word_missing o.0 c)
  refusals s t e (StrictPos place m) c o = word_fault o.2.1 (λ stops. refl)
      (λ w v is y. true≢false (sym (of_value means w false o.2.0 is v position y).0 ∙ o.0)) c
  refusals s t e (NonStrictPos place m) c o = word_passed (ap not o.0) o.2.1 c
  refusals s t e (ParseFailed place fault) c o = word_fault o.0.takes
      (λ stops. stands_before (accepts position) stops o.0.strict o.1)
      (λ w v is y. o.2.0 v (of_value means w o.0.strict o.0.text is v position y).1) c
  refusals s t e other c o = absurd o

  -- its answers
  word_within : (s t : Situation) (r : Result T Error)
      → PositionalOutcome means position metavar s r t → Reading s r t
  word_within s t (Ok v) o = values s t v o
  word_within s t (Err e) o = refusals s t e e.0 refl o

-- a positional word keeps to the laws of its form
pub positional_law : (env : Variables) (T : Type 0) (means : List ℕ → T → Type 0)
    (position : Position) (metavar : List ℕ) → FormLaw env
    (PositionalOutcome means position metavar) [] [] (word_by (accepts position) means)
positional_law env T means position metavar = narrower_form
    (no_more (word_within T means position metavar)) (word_by_law env T (accepts position) means)
