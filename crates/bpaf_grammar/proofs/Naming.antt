-- Each refusal of a run is one of the twelve.
use Rattle.bpaf_grammar.specs.Ending.{EndsRun, ShowsHelp, Tells, memory, passed_on, refused, usage}
use Rattle.std.proofs.Common.{◌≡◌, true, Result, Ok, Err, refl, IsErrAnd, arith, false, Some, None}
use Rattle.std.specs.Result.{IfErr}
use Rattle.bpaf_line.specs.{declared.failure.ParseFailure.ParseFailure, declared.error.Error.Error}
use Rattle.bpaf_line.specs.declared.error.Message.TheVariants.{Memory}
use Rattle.bpaf_line.specs.Situation.{Situation, beginning}
use Rattle.bpaf_line.specs.{Messages.is_memory, Messages.is_answer, declared.error.Message.Message}
use Rattle.bpaf_messages.specs.Leftover.{IsLeftover, conflict, not_expected, only_once}
use Rattle.bpaf_messages.specs.Rendering.{Renders}
use Rattle.bpaf_keys.specs.{declared.info.ExtraParams.ExtraParams, Info.RunInfo, Info.ExtraOutcome}
use Rattle.bpaf_doc.specs.Shape.{Shape}
use Rattle.bpaf_laws.specs.Laws.{Lawful, NamesAnswer, Refusal, refusal_of}
use Rattle.bpaf_laws.specs.Reading.{Outcome, Readings}
use Rattle.bpaf_words.specs.{Arguments.Given, Line.Known}
use Rattle.bpaf_grammar.specs.Refusals.{IsOneOfTwelve, without_memory, FailsAs, IsToldOf}
use Rattle.bpaf_grammar.specs.Ending.{Shows, shows_help_page, leftover_is_told}
use Rattle.bpaf_grammar.specs.Run.{Runs, RunsWords, ran, no_line, no_memory}
use Rattle.bpaf_laws.proofs.Keeping.{name_of, shows_nothing}
use Rattle.bpaf_line.specs.declared.failure.ParseFailure.TheVariants as failure
use Rattle.bpaf_laws.specs.Laws as names
use Rattle.bpaf_keys.specs.declared.info.ExtraParams.TheVariants as extra
use Rattle.bpaf_grammar.specs.Ending as ending
use Rattle.bpaf_grammar.specs.Refusals as name
use Rattle.bpaf_grammar.specs.Run as run

-- what is told of an item that is left isn't want of memory
leftover_spared : (s : Situation) (m : Message) → IsLeftover s m → is_memory m ≡ false
leftover_spared s m (conflict p winner next noted) = refl
leftover_spared s m (only_once p earlier next unnoted key) = refl
leftover_spared s m (not_expected p next unnoted none) = refl

module _ {T : Type 0} (inner : Outcome T) (describes : Shape → Type 0) (info : RunInfo) where
  module _ (s : Situation) where
    -- a failure that has one of the twelve names
    abbrev IsAnyNamed : ParseFailure → Type 0
    IsAnyNamed f = (name : Refusal) × FailsAs inner describes info s name f

    -- want of memory has
    wanting_is_named : IsAnyNamed failure.Memory
    wanting_is_named = (names.no_memory, name.wanting)

    -- help where nothing was there to read has a name
    usage_is_named : (e : Error) (left : Situation) (f : ParseFailure) → inner s (Err e) left
        → shows_help_page info e.0 s ≡ true → ShowsHelp describes info false left f → IsAnyNamed f
    usage_is_named e left failure.Memory came wanted shows = wanting_is_named
    usage_is_named e left (failure.Stdout doc full) came wanted shows =
        (names.help_or_version, name.nothing_to_read e left doc full came wanted shows)
    usage_is_named e left (failure.Stderr doc) came wanted shows = absurd shows

    module _ (m : Message) (left : Situation) (spared : is_memory m ≡ false)
        (plain : is_answer m ≡ false) (is_told : IsToldOf inner s m left) where
      -- what was asked for has a name
      asked_is_named : (asked : ExtraParams) (seen : Situation) (f : ParseFailure)
          → ExtraOutcome info left (Ok asked) seen → Shows describes info asked seen f
          → IsAnyNamed f
      asked_is_named asked seen failure.Memory looked shows = wanting_is_named
      asked_is_named asked seen (failure.Stdout doc full) looked shows = (
        names.help_or_version,
        name.asked_for m asked left seen doc full is_told spared plain looked shows,
      )
      asked_is_named (extra.Help more) seen (failure.Stderr doc) looked shows = absurd shows
      asked_is_named (extra.Version text) seen (failure.Stderr doc) looked shows = absurd shows

      -- what is told of a message has its name
      told_is_named : (e : Error) (t : Situation) (f : ParseFailure)
          → ExtraOutcome info left (Err e) t → is_memory e.0 ≡ false → Renders m t f → IsAnyNamed f
      told_is_named e t failure.Memory unasked spared tells = wanting_is_named
      told_is_named e t (failure.Stdout doc full) unasked spared tells =
          absurd (shows_nothing m t doc full plain tells)
      told_is_named e t (failure.Stderr doc) unasked spared tells =
          let named : (name : Refusal) × (refusal_of m ≡ Some name) = name_of m plain in
          (named.0, name.told named.0 m left t e doc is_told unasked spared named.1 tells)

      -- whatever is told of it has a name
      tells_is_named : (f : ParseFailure) (t : Situation) → Tells describes info m left f t
          → IsAnyNamed f
      tells_is_named f t (ending.shown asked given after looked shows) =
          asked_is_named asked t f looked shows
      tells_is_named f t (ending.told e given after looked unasked tells) =
          told_is_named e t f looked unasked tells
      tells_is_named f t (ending.wanting e after looked is) = wanting_is_named

    -- a refusal of the parser ends with one of the twelve, where an answer that it hands on has one
    refused_is_named : (m : Message) (e : Error) (left : Situation) (f : ParseFailure)
        (t : Situation) → inner s (Err e) left → e.0 ≡ m → NamesAnswer s.context m
        → EndsRun describes info (Some m) s left f t → IsAnyNamed f
    refused_is_named m e left f t came is answers (ending.memory other before after wanting) =
        wanting_is_named
    refused_is_named m e left f t came is answers
        (ending.usage other before given after spared wanted shows) =
        usage_is_named e left f came (rw is wanted) shows
    refused_is_named m e left f t came is answers
        (ending.passed_on given before after spared none) =
        (answers.0, name.handed_on answers.0 e left f came is answers.1)
    refused_is_named m e left f t came is answers
        (ending.refused other before middle given after spared none plain tells) =
        tells_is_named m left spared plain (name.refusal e left came is) f t tells

    -- items that were left end with one of the twelve
    left_is_named : (v : T) (left : Situation) (f : ParseFailure) (t : Situation)
        → inner s (Ok v) left → EndsRun describes info None s left f t → IsAnyNamed f
    left_is_named v left f t came (ending.leftover m before middle given after is tells) =
        tells_is_named m left (leftover_spared left m is) (leftover_is_told left m is)
        (name.leftover v left came is) f t tells

  module _ {reads : Readings T} (law : Lawful T inner reads) where
    -- a run from a situation on
    pub run_is_named : (s : Situation) (f : ParseFailure) (t : Situation)
        → Runs T inner (EndsRun describes info) s (Err f) t → IsAnyNamed s f
    run_is_named s f t x3 = grind (arith, left_is_named, refused_is_named)

    -- a run over words
    pub words_are_named : {known : Known} {given : Given} {r : Result T ParseFailure}
        → RunsWords T inner describes info known given r
        → IfErr r (IsOneOfTwelve inner describes info known given)
    words_are_named {r = Ok v} runs = tt
    words_are_named {r = Err f} (run.ran context answer t is_context runs) =
        let named = run_is_named (beginning context) f t runs in
        name.named context named.0 f is_context named.1
    words_are_named {r = Err f} (run.no_line word number context told lacks empty named tells) =
        name.no_line word number context f lacks empty named tells
    words_are_named {r = Err f} run.no_memory = name.without_memory

  -- want of memory before the run
  pub want_named : (known : Known) (given : Given) (r : Result T ParseFailure)
      → IsErrAnd r (λ f. f ≡ failure.Memory)
      → IfErr r (IsOneOfTwelve inner describes info known given)
  want_named known given (Ok v) wanted = absurd wanted
  want_named known given (Err f) wanted = rw wanted without_memory
