-- How the answers and the end of a run are put together: a value is dealt out of its words, a
-- refusal is one of the twelve.
use Rattle.std.proofs.Common.{◌≡◌, ◌==◌, ℕ, Bool, true, List, [], ap, Result, Ok, Err, ⊎_elim, refl}
use Rattle.std.proofs.Common.{IsErrAnd, arith, false, not, ◌&&◌, ◌<◌, length, IfOk, true≢false}
use Rattle.bpaf_line.specs.Situation.{Situation, Context, beginning, is_taken, is_open, in_scope}
use Rattle.bpaf_grammar.specs.Run.{Runs, RunsWords, ran, no_line, no_memory, known_names, Starts}
use Rattle.bpaf_grammar.specs.Ending.{EndsRun, TellsNoLine, EndsRefused, PassesOrTells, ShowsHelp}
use Rattle.std.proofs.{lemmas.Bool.Decides.nat_tests, Common.nat_lt, Common.Option}
use Rattle.bpaf_line.specs.declared.error.Message.TheVariants.{Memory, Ambiguity}
use Rattle.bpaf_line.specs.{Situation.is_dealt_place, Situation.open_count, Messages.is_memory}
use Rattle.bpaf_line.specs.declared.failure.ParseFailure.{ParseFailure}
use Rattle.bpaf_line.specs.declared.error.Message.{Message}
use Rattle.bpaf_messages.specs.Rendering.{Renders}
use Rattle.bpaf_keys.specs.Info.{RunInfo}
use Rattle.bpaf_doc.specs.{Shape.Shape, Shape.parts, Shape.shape_of, declared.doc.Piece.Piece}
use Rattle.bpaf_doc.specs.declared.meta.Meta.{Meta}
use Rattle.bpaf_laws.specs.Laws.{ShowsNames, shorts_among, Lawful, Keeps, Closes, newly}
use Rattle.bpaf_laws.specs.{Reading.Outcome, Reading.Readings, Combinators.DefaultDescribes}
use Rattle.bpaf_words.specs.{Line.Known, Line.ShortNames, Line.known_at, declared.line.Line.Line}
use Rattle.bpaf_words.specs.{declared.line.LineFault.LineFault, Splitting.ReadsLine}
use Rattle.bpaf_words.specs.Arguments.{Given}
use Rattle.bpaf_grammar.specs.Ending.{is_shown, memory, passed_on, refused, usage}
use Rattle.bpaf_grammar.specs.Run.{value, IsDealtOut}
use mathlib.Core.Path.{fun_ext}
use Rattle.bpaf_line.proofs.Sound.{taken_at_beginning}
use Rattle.bpaf_laws.proofs.Keeping.{none_below}
use Rattle.bpaf_line.specs.declared.failure.ParseFailure.TheVariants as failure
use Rattle.bpaf_line.specs.declared.error.Message.TheVariants as message
use Rattle.bpaf_laws.specs.Laws as names

-- a count that was tested for nothing
pub nothing_left : (n : ℕ) (empty : Bool) → empty ≡ (n == 0) → empty ≡ true → n ≡ 0
nothing_left n empty is holds = grind (arith, nat_tests)

-- what was read by the names that are shown was read by the known ones
pub read_by_shown : {describes : Shape → Type 0} {shorts : ShortNames}
    → ShowsNames describes shorts → (info : RunInfo) (words : List (List ℕ)) {numbers : Bool}
    {flags arguments : List ℕ} {shape : Shape} (result : Result Line LineFault)
    → numbers ≡ info.numbers → describes shape
    → flags ≡ (known_names info (shorts_among (parts shape))).names.flags
    → arguments ≡ (known_names info (shorts_among (parts shape))).names.arguments
    → ReadsLine (known_at numbers (record { flags = flags; arguments = arguments })) words result
    → ReadsLine (known_names info shorts) words result
read_by_shown shows info words result setting shown flags_are arguments_are reads = grind arith

-- a run starts at the beginning of the line that was read
pub starts_at : {known : Known} {given : Given} {words : List (List ℕ)} (line : Line)
    {s : Situation} → words ≡ given.words → ReadsLine known words (Ok line)
    → s ≡ beginning (record {
      line = line.items.items;
      marker = line.marker;
      env = given.env;
      name = given.name;
    })
    → Starts known given (Ok s)
starts_at {given = given} line same reads begun = (
  record { line = line.items.items; marker = line.marker; env = given.env; name = given.name },
  record { is_line = rw same at reads; env = refl; name = refl },
  begun,
)

module _ {T : Type 0} {inner : Outcome T} {describes : Shape → Type 0} {info : RunInfo}
    {known : Known} {given : Given} where
  -- words without a line, or no memory for it
  pub line_refused : (m : Message) {f : ParseFailure} → Starts known given (Err m)
      → TellsNoLine given.name m f → RunsWords T inner describes info known given (Err f)
  line_refused m {f} refuses tells =
      ⊎_elim (λ wanted. rw wanted no_memory) (λ told. told_line m refuses told) tells
    where
      -- a message of the line is told
      told_line : (m : Message) → Starts known given (Err m)
          → (context : Context) × (context.line ≡ []) × (context.name ≡ given.name)
          × Renders m (beginning context) f → RunsWords T inner describes info known given (Err f)
      told_line Memory refuses told = rw told.3 no_memory
      told_line (Ambiguity word number) refuses told =
          no_line word number told.0 f refuses told.1 told.2 told.3
      told_line other refuses told = absurd refuses

  -- want of memory before the run
  pub want_runs : {r : Result T ParseFailure} → IsErrAnd r (λ f. f ≡ failure.Memory)
      → RunsWords T inner describes info known given r
  want_runs {r = Ok v} wanted = absurd wanted
  want_runs {r = Err f} wanted = rw wanted no_memory

module _ {describes : Shape → Type 0} {info : RunInfo} {t : Situation} (m : Message)
    (wanted : Bool) where
  -- want of memory ends the run
  pub memory_ends : is_memory m ≡ true → EndsRefused describes info wanted m t failure.Memory t
  memory_ends is s wants = memory m s t is

  -- help stands in for the message
  pub usage_ends : is_memory m ≡ false → (wanted && not (is_shown m)) ≡ true → {f : ParseFailure}
      → ShowsHelp describes info false t f → EndsRefused describes info wanted m t f t
  usage_ends other is {f} shows s wants = usage m s f t other (rw wants at is) shows

-- the answer of an inner run is passed on, and each other message is told
pub others_end : {describes : Shape → Type 0} {info : RunInfo} {t : Situation} (m : Message)
    (wanted : Bool) → is_memory m ≡ false → (wanted && not (is_shown m)) ≡ false
    → {f : ParseFailure} {u : Situation} → PassesOrTells describes info m t f u
    → EndsRefused describes info wanted m t f u
others_end {t = t} (message.ParseFailure inner) wanted other is passes s wants =
    rw (passes.1, passes.0) (passed_on inner s t other (rw wants at is))
others_end {t = t} m wanted other is {f} {u} tells s wants =
    refused m s t f u other (rw wants at is) refl tells

-- What a run accepts is dealt out of its words.

-- at one place: newly taken is the same as dealt, where each dealt place is taken
dealt_at : (taken before dealt : Bool) → before ≡ not dealt → (dealt ≡ true → taken ≡ true)
    → (taken && not before) ≡ dealt
dealt_at taken before true e h = rw (e, h refl) refl
dealt_at true before false e h = rw e refl
dealt_at false before false e h = refl

-- at the beginning each place of the line lies in the scope
in_whole_line : (context : Context) (p : ℕ) → p < length context.line
    → in_scope (beginning context) p ≡ true
in_whole_line context p within = grind (arith, nat_tests)

-- an evaluation from the beginning that left nothing took all places but that of the marker
all_newly : (context : Context) (t : Situation) → Keeps (beginning context) t
    → Closes (beginning context) t → open_count t ≡ 0
    → newly (beginning context) t ≡ is_dealt_place context
all_newly context t keeps closed none =
    fun_ext (λ p. dealt_at (is_taken t p) (is_taken (beginning context) p)
    (is_dealt_place context p) (taken_at_beginning context p)
    (λ dealt. let within : p < length context.line = grind
    (arith, nat_tests, nat_lt, length, Bool, not, true, false) in let same : length t.context.line
    ≡ length context.line = ap (λ c. length c.line) keeps.context in (grind (
      arith,
      true,
      false,
      true≢false,
      closed p (in_whole_line context p within),
      none_below (is_open t)
          (length t.context.line) none p (omega arith),
    ))))

module _ {T : Type 0} {inner : Outcome T} {reads : Readings T} {describes : Shape → Type 0}
    {info : RunInfo} {known : Known} {given : Given} (law : Lawful T inner reads) where
  -- a value that a run over words answers is dealt out of them
  pub if_dealt : {r : Result T ParseFailure} → RunsWords T inner describes info known given r
      → IfOk r (λ v. IsDealtOut T reads known given v)
  if_dealt {r = Ok v} (ran context r t is_context run) = dealt_from run
    where
      dealt_from : {t : Situation} → Runs T inner (EndsRun describes info) (beginning context)
          (Ok v) t
          → IsDealtOut T reads known given v
      dealt_from (value w left answered none) =
          let read = law.ok (beginning context) left w answered in
          record {
            context = context;
            is_context = is_context;
            read = rw (all_newly context left read.keeps read.closed none) at read.reading;
          }
  if_dealt {r = Err f} run = tt

-- what is shown of one shape, memory for it aside, is shown of a parser that may show that shape
pub default_shown : {E : Type 0} (describes : Shape → Type 0) {inner : Shape}
    (text : Option (List Piece)) (shown : Result Meta E) → describes inner
    → IfOk shown (λ meta. DefaultDescribes (λ s. s ≡ inner) text (shape_of meta))
    → IfOk shown (λ meta. DefaultDescribes describes text (shape_of meta))
default_shown describes text shown of_it told = grind arith
