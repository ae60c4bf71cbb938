-- How a run ends that has no value, and what its ends keep to.
use Rattle.std.specs.Prelude.{◌≡◌, ◌==◌, Bool, true, false, not, ◌&&◌, List, Option, Some, None, Ok}
use Rattle.bpaf_laws.specs.Laws.{ShowsVersion, HasSomeName, NamesAnswer, help, help_or_version}
use Rattle.std.specs.Prelude.{Err, ⊤, IfSome, refl}
use Rattle.bpaf_pages.specs.Help.{help_text}
use Rattle.bpaf_doc.specs.{declared.doc.Piece.Piece, Print.Prints, Shape.Shape}
use Rattle.bpaf_line.specs.Situation.{Context, Situation, open_count}
use Rattle.bpaf_line.specs.{declared.failure.ParseFailure.ParseFailure, declared.error.Error.Error}
use Rattle.bpaf_line.specs.{Messages.is_answer, Messages.is_memory, declared.error.Message.Message}
use Rattle.bpaf_messages.specs.{Leftover.IsLeftover, Rendering.Renders}
use Rattle.bpaf_keys.specs.Info.{ExtraOutcome, extra_shape, RunInfo, page_texts}
use Rattle.bpaf_keys.specs.declared.info.ExtraParams.{ExtraParams}
use Rattle.bpaf_laws.specs.Laws.{no_memory, Keeps, version}
use Rattle.std.proofs.Common.{true≢false}
use Rattle.bpaf_laws.proofs.Keeping.{keeps_refl, on_line, told_has_name}
use Rattle.bpaf_line.specs.Failure.{end_message}
use Rattle.bpaf_keys.proofs.Looking.{extra_lawful}
pub use Rattle.bpaf_messages.specs.Leftover.{TellsNoLine}
pub use Rattle.bpaf_line.specs.Failure.{is_shown}
use Rattle.bpaf_line.specs.declared.error.Message.TheVariants as message
use Rattle.bpaf_line.specs.declared.failure.ParseFailure.TheVariants as failure
use Rattle.bpaf_keys.specs.declared.info.ExtraParams.TheVariants as extra
use Rattle.bpaf_messages.specs.Leftover as left
use Rattle.bpaf_laws.specs.Laws as name

-- what a run ends with that has no value, and the situation that it leaves: the message of its
-- parser, or none where that left items; the situation before the parser, and the one that it left
abbrev pub Ending : Type 1
Ending = Option Message → Situation → Situation → ParseFailure → Situation → Type 0

-- the help page of a shape that the parser may show, at the path of a situation
pub record IsHelp (describes : Shape → Type 0) (info : RunInfo) (s : Situation) (doc : List Piece)
    : Type 0 where
  pub shape : Shape
  pub shown : describes shape
  pub prints : Prints (help_text s.path (page_texts info) shape (extra_shape info)) doc

-- help is shown, in full or not; or memory for it is wanted
abbrev pub ShowsHelp : (Shape → Type 0) → RunInfo → Bool → Situation → ParseFailure → Type 0
ShowsHelp describes info more s (failure.Stdout doc full) =
    IsHelp describes info s doc × (full ≡ more)
ShowsHelp describes info more s (failure.Stderr doc) = ⊥
ShowsHelp describes info more s failure.Memory = ⊤

-- what was asked for is shown
abbrev pub Shows : (Shape → Type 0) → RunInfo → ExtraParams → Situation → ParseFailure → Type 0
Shows describes info (extra.Help more) s f = ShowsHelp describes info more s f
Shows describes info (extra.Version given) s f = ShowsVersion given f

-- a message: help or the version is shown where it is asked for, help first; else the message is
-- told; or memory is wanted
pub data Tells (describes : Shape → Type 0) (info : RunInfo) (m : Message) (s : Situation)
    : ParseFailure → Situation → Type 0 where
  shown : (asked : ExtraParams) (f : ParseFailure) (t : Situation)
      → ExtraOutcome info s (Ok asked) t → Shows describes info asked t f
      → Tells describes info m s f t
  told : (e : Error) (f : ParseFailure) (t : Situation) → ExtraOutcome info s (Err e) t
      → is_memory e.0 ≡ false → Renders m t f → Tells describes info m s f t
  wanting : (e : Error) (t : Situation) → ExtraOutcome info s (Err e) t → is_memory e.0 ≡ true
      → Tells describes info m s failure.Memory t

-- help in place of a refusal: nothing to read, the program wants it so, and nothing else is shown
abbrev pub shows_help_page : RunInfo → Message → Situation → Bool
shows_help_page info m s = (info.help_if_no_args && (open_count s == 0)) && not (is_shown m)

-- how a run ends that has no value
pub data EndsRun (describes : Shape → Type 0) (info : RunInfo) : Option Message → Situation
    → Situation → ParseFailure → Situation → Type 0 where
  memory : (m : Message) (s t : Situation) → is_memory m ≡ true
      → EndsRun describes info (Some m) s t failure.Memory t
  usage : (m : Message) (s : Situation) (f : ParseFailure) (t : Situation) → is_memory m ≡ false
      → shows_help_page info m s ≡ true → ShowsHelp describes info false t f
      → EndsRun describes info (Some m) s t f t
  passed_on : (f : ParseFailure) (s t : Situation) → is_memory (message.ParseFailure f) ≡ false
      → shows_help_page info (message.ParseFailure f) s ≡ false
      → EndsRun describes info (Some (message.ParseFailure f)) s t f t
  refused : (m : Message) (s left : Situation) (f : ParseFailure) (t : Situation)
      → is_memory m ≡ false → shows_help_page info m s ≡ false → is_answer m ≡ false
      → Tells describes info m left f t → EndsRun describes info (Some m) s left f t
  leftover : (m : Message) (s left : Situation) (f : ParseFailure) (t : Situation)
      → IsLeftover left m → Tells describes info m left f t → EndsRun describes info None s left f t

-- how a run ends whose parser refused, where it is known whether help stands in for a message
abbrev pub EndsRefused : (Shape → Type 0) → RunInfo → Bool → Message → Situation → ParseFailure
    → Situation → Type 0
EndsRefused describes info wanted m left f t =
    (s : Situation) → wanted ≡ (info.help_if_no_args && (open_count s == 0))
    → EndsRun describes info (Some m) s left f t

-- the answer of an inner run as it is, and what is told of any other message
abbrev pub PassesOrTells : (Shape → Type 0) → RunInfo → Message → Situation → ParseFailure
    → Situation → Type 0
PassesOrTells describes info (message.ParseFailure inner) s f t = (f ≡ inner) × (t ≡ s)
PassesOrTells describes info m s f t = Tells describes info m s f t

-- What the ends of runs keep to.

-- an ending keeps what each evaluation keeps, tells want of memory as nothing else, and has one of
-- the twelve names on the run's line where an answer that it hands on has
pub record LawfulEnding (ending : Ending) : Type 0 where
  pub keeps : (m : Option Message) (s left : Situation) (f : ParseFailure) (t : Situation)
      → ending m s left f t → Keeps left t
  pub spared : (m : Message) (s left : Situation) (f : ParseFailure) (t : Situation)
      → ending (Some m) s left f t → is_memory (end_message f) ≡ false → is_memory m ≡ false
  pub named : (m : Option Message) (s left : Situation) (f : ParseFailure) (t : Situation)
      → Keeps s left → IfSome m (NamesAnswer s.context) → ending m s left f t
      → HasSomeName s.context f

-- what is told of an item that is left isn't the answer of an inner run
pub leftover_is_told : (s : Situation) (m : Message) → IsLeftover s m → is_answer m ≡ false
leftover_is_told s m (left.conflict p winner next noted) = refl
leftover_is_told s m (left.only_once p earlier next unnoted key) = refl
leftover_is_told s m (left.not_expected p next unnoted none) = refl

module _ (describes : Shape → Type 0) (info : RunInfo) where
  -- what telling a message keeps
  tells_keeps : (m : Message) (s : Situation) (f : ParseFailure) (t : Situation)
      → Tells describes info m s f t → Keeps s t
  tells_keeps m s f t (shown asked g u looked shows) =
      ((extra_lawful info).ok s t asked looked).keeps
  tells_keeps m s f t (told e g u looked other renders) = (extra_lawful info).err s t e looked
  tells_keeps m s f t (wanting e u looked wants) = (extra_lawful info).err s t e looked

  -- what the end of a run keeps
  end_keeps : (m : Option Message) (s left : Situation) (f : ParseFailure) (t : Situation)
      → EndsRun describes info m s left f t → Keeps left t
  end_keeps m s left f t (memory n before u is) = keeps_refl t
  end_keeps m s left f t (usage n before g u other wanted shows) = keeps_refl t
  end_keeps m s left f t (passed_on g before u other unwanted) = keeps_refl t
  end_keeps m s left f t (refused n before from g u other unwanted plain tells) =
      tells_keeps n left f t tells
  end_keeps m s left f t (leftover n before from g u is tells) = tells_keeps n left f t tells

  -- the end of a run tells want of memory as nothing else
  end_spared : (m : Message) (s left : Situation) (f : ParseFailure) (t : Situation)
      → EndsRun describes info (Some m) s left f t → is_memory (end_message f) ≡ false
      → is_memory m ≡ false
  end_spared m s left f t (memory n before u is) spared = absurd (true≢false spared)
  end_spared m s left f t (usage n before g u other wanted shows) spared = other
  end_spared m s left f t (passed_on g before u other unwanted) spared = other
  end_spared m s left f t (refused n before from g u other unwanted plain tells) spared = other

  -- what was asked for is a page, or memory is wanted
  pub shows_has_name : (asked : ExtraParams) (s : Situation) (f : ParseFailure)
      → Shows describes info asked s f → {context : Context} → HasSomeName context f
  shows_has_name asked s failure.Memory shows = (no_memory, name.wanting)
  shows_has_name (extra.Help more) s (failure.Stdout doc full) shows =
      let page = shows.0 in (
        help_or_version,
        name.shown doc full
            (help s.path (page_texts info) page.shape (extra_shape info) page.prints),
      )
  shows_has_name (extra.Version text) s (failure.Stdout doc full) shows =
      (help_or_version, name.shown doc full (version text shows.0))
  shows_has_name (extra.Help more) s (failure.Stderr doc) shows = absurd shows
  shows_has_name (extra.Version text) s (failure.Stderr doc) shows = absurd shows

  -- what is told of a message has a name
  tells_has_name : (m : Message) (s : Situation) (f : ParseFailure) (t : Situation)
      → is_answer m ≡ false → Tells describes info m s f t → HasSomeName s.context f
  tells_has_name m s f t plain (shown asked g u looked shows) = shows_has_name asked t f shows
  tells_has_name m s f t plain (told e g u looked other renders) =
      on_line (λ c. HasSomeName c f) s t ((extra_lawful info).err s t e looked)
      (told_has_name m t f plain renders)
  tells_has_name m s f t plain (wanting e u looked wants) = (no_memory, name.wanting)

  -- the end of a run has one, where an answer that it hands on has
  end_has_name : (m : Option Message) (s left : Situation) (f : ParseFailure) (t : Situation)
      → Keeps s left → IfSome m (NamesAnswer s.context) → EndsRun describes info m s left f t
      → HasSomeName s.context f
  end_has_name m s left f t kept names (memory n before u is) = (no_memory, name.wanting)
  end_has_name m s left f t kept names (usage n before g u other wanted shows) =
      shows_has_name (extra.Help false) left f shows
  end_has_name m s left f t kept names (passed_on g before u other unwanted) = names
  end_has_name m s left f t kept names (refused n before from g u other unwanted plain tells) =
      on_line (λ c. HasSomeName c f) s left kept (tells_has_name n left f t plain tells)
  end_has_name m s left f t kept names (leftover n before from g u is tells) =
      on_line (λ c. HasSomeName c f) s left kept
      (tells_has_name n left f t (leftover_is_told left n is) tells)

  -- the ends of runs are lawful
  pub run_ending : LawfulEnding (EndsRun describes info)
  run_ending = record {
    keeps = λ m s left f t ends. end_keeps m s left f t ends;
    spared = λ m s left f t ends spared. end_spared m s left f t ends spared;
    named = λ m s left f t kept names ends. end_has_name m s left f t kept names ends;
  }
