-- Commands keep to the laws where their inner parsers do.
use Rattle.bpaf_grammar.specs.Command.{CommandOutcome, IsMissingPart, ended, missing, no_memory}
use Rattle.std.specs.Prelude.{◌≡◌, Some, None, Result, Ok, Err, refl}
use Rattle.bpaf_doc.specs.Shape.{Part}
use Rattle.bpaf_line.specs.declared.error.Message.TheVariants.{Memory, Missing}
use Rattle.bpaf_line.specs.Situation.{Context, Situation, open_count, with_current}
use Rattle.bpaf_line.specs.{declared.failure.ParseFailure.ParseFailure, declared.error.Error.Error}
use Rattle.bpaf_line.specs.declared.error.Message.{Message}
use Rattle.bpaf_laws.specs.Command.{Called, CommandReads, inside, opening_words}
use Rattle.bpaf_laws.specs.Laws.{HasSomeName, NamesAnswer, Keeps, Lawful, Reads}
use Rattle.bpaf_laws.specs.Reading.{Outcome, Readings}
use Rattle.bpaf_laws.proofs.CommandLaws.{inside_read, keeps_inside, keeps_opened}
use Rattle.bpaf_laws.proofs.Keeping.{keeps_trans, keeps_unset, names_same}
use Rattle.std.proofs.Common.{⊎_elim}
use Rattle.bpaf_grammar.specs.Run.{Runs, leftover, refused, value as run_value}
use Rattle.bpaf_line.specs.Failure.{end_message}
use Rattle.bpaf_grammar.specs.Ending.{Ending, LawfulEnding}
use Rattle.bpaf_grammar.specs.Command.{value}
use Rattle.bpaf_line.specs.declared.failure.ParseFailure.TheVariants as failure

-- after a value of a run nothing is present
pub run_empty : {T : Type 0} {inner : Outcome T} {ending : Ending} (s : Situation) (v : T)
    (t : Situation) → Runs T inner ending s (Ok v) t → open_count t ≡ 0
run_empty s v t (run_value w left answered none) = none

-- the end of a run, told on as a message
pub names_end : {context : Context} (f : ParseFailure) → HasSomeName context f
    → NamesAnswer context (end_message f)
names_end failure.Memory named = tt
names_end (failure.Stdout doc full) named = named
names_end (failure.Stderr doc) named = named

-- that a command's part is missing is the answer of no run inside
pub names_missing : (shows : Part → Type 0) (s : Situation) (m : Message)
    → IsMissingPart shows s m → NamesAnswer s.context m
names_missing shows s m lacks = ⊎_elim (λ want. names_same _ m Memory tt want)
    (λ part. names_same _ m (Missing part.1) tt part.3) lacks

module _ {T : Type 0} {inner : Outcome T} {ending : Ending} {reads : Readings T}
    (law : Lawful T inner reads) (ends : LawfulEnding ending) where
  -- what a run from a situation on keeps, whatever it answers
  pub runs_keeps : (s : Situation) (r : Result T ParseFailure) (t : Situation)
      → Runs T inner ending s r t → Keeps s t
  runs_keeps s r t (run_value v left answered none) = (law.ok s left v answered).keeps
  runs_keeps s r t (leftover v left f u answered tells) =
      keeps_trans s left t (law.ok s left v answered).keeps (ends.keeps None s left f t tells)
  runs_keeps s r t (refused e left f u answered tells) =
      keeps_trans s left t (law.err s left e answered) (ends.keeps (Some e.0) s left f t tells)

  -- a failure of such a run has one of the twelve names on its line
  pub runs_has_name : (s : Situation) (f : ParseFailure) (t : Situation)
      → Runs T inner ending s (Err f) t → HasSomeName s.context f
  runs_has_name s f t (leftover v left g u answered tells) =
      ends.named None s left f t (law.ok s left v answered).keeps tt tells
  runs_has_name s f t (refused e left g u answered tells) = ends.named (Some e.0) s left f t
      (law.err s left e answered) (law.named s left e answered) tells

  -- a value that a run from a situation on answers is read there
  pub run_read : (s : Situation) (v : T) (t : Situation) → Runs T inner ending s (Ok v) t
      → Reads T reads s v t
  run_read s v t (run_value w left answered none) = law.ok s left w answered

  module _ (called : Called) (shows : Part → Type 0) where
    -- what a command answers is a reading
    command_read : (s t : Situation) (v : T) → CommandOutcome T inner ending called shows s (Ok v) t
        → Reads T (CommandReads T (opening_words called) reads) s v t
    command_read s t v (value w p left at run) =
        inside_read called s p at w left (run_read (inside called s p) w left run)

    -- what a command's refusal keeps
    command_refused : (s t : Situation) (e : Error)
        → CommandOutcome T inner ending called shows s (Err e) t → Keeps s t
    command_refused s t e (ended f told p left at run is) = keeps_trans s (inside called s p) left
        (keeps_inside called s p at) (runs_keeps (inside called s p) (Err f) left run)
    command_refused s t e (missing told none is) = keeps_unset s (with_current s None) refl
    command_refused s t e (no_memory told p at is) = keeps_opened (opening_words called) s p at

    -- what a command hands on of the run inside has a name
    command_named : (s t : Situation) (e : Error)
        → CommandOutcome T inner ending called shows s (Err e) t → NamesAnswer s.context e.0
    command_named s t e (ended f told p left at run is) = names_same _ e.0 (end_message f)
        (names_end f (runs_has_name (inside called s p) f left run)) is
    command_named s t e (missing told none is) = names_missing shows s e.0 is
    command_named s t e (no_memory told p at is) = names_same _ e.0 Memory tt is

    -- commands keep to the laws
    pub command_lawful : Lawful T (CommandOutcome T inner ending called shows)
        (CommandReads T (opening_words called) reads)
    command_lawful = record {
      ok = λ s t v o. command_read s t v o;
      err = λ s t e o. command_refused s t e o;
      named = λ s t e o. command_named s t e o;
    }
