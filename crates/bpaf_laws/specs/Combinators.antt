-- Combinators over one inner parser: what changes its value, what stands in for one, repeats, and
-- what is shown otherwise; and leaves that look at no item.
use Rattle.std.specs.Prelude.{Result, Option, IfSome, String, length, false, ℕ}
use Rattle.std.specs.Prelude.{Bool, true, List, ◌==◌, ◌&&◌, ◌||◌, Some, None, ◌++◌, ◌≡◌, ◌⊎◌, Err}
use Rattle.std.specs.Prelude.{◌<◌, ◌≤◌, not, ◌+◌, ◌∷◌, Ok, [], ⊤}
use Rattle.std.specs.{declared.alloc.AllocError.AllocError, declared.alloc.Global.Global}
use Rattle.std.specs.Global.{Vec}
use Rattle.bpaf_doc.specs.Shape.{CustomUsage, Subsection, Optional, Required, shape_of, Suffix}
use Rattle.bpaf_doc.specs.{declared.meta.MetaInfo.MetaInfo, declared.doc.Piece.Piece}
use Rattle.bpaf_doc.specs.{Shape.Shape, Shape.Many, Default.IsDefault, Default.IsFormatted}
use Rattle.bpaf_line.specs.declared.error.Message.TheVariants.{ParseFailed, GuardFailed, PureFailed}
use Rattle.bpaf_line.specs.declared.error.Message.TheVariants.{ParseFail, ParseSome, Missing}
use Rattle.bpaf_line.specs.Situation.{with_current, open_count, Situation, Context}
use Rattle.bpaf_line.specs.Messages.{is_wrong_input, is_memory, can_catch}
use Rattle.bpaf_line.specs.{declared.error.Message.TheVariants.Memory, declared.error.Error.Error}
use Rattle.bpaf_line.specs.declared.error.Message.{Message}
use Rattle.bpaf_laws.specs.Reading.{IsEmptyShare, Readings, HasPlace, Outcome, Share, Joins}
use Rattle.bpaf_laws.specs.Laws.{NamesAnswer}

-- a refusal with the text of a fault; or want of memory for the text
abbrev pub TellsFault : {E : Type 0} → (E → Option (List ℕ)) → E → (List ℕ → Message) → Message
    → Type 0
TellsFault shown fault refusal m =
    (m ≡ Memory) ⊎ ((text : List ℕ) × (m ≡ refusal text)
    × IfSome (shown fault) (λ bytes. text ≡ bytes))

-- a value that is read off the share, and what may be made of it
pub record MapReads (T R : Type 0) (inner : Readings T) (makes : T → R → Type 0)
    (context : Context) (share : Share) (v : R) : Type 0 where
  pub from : T
  pub read : inner context share from
  pub made : makes from v

-- the closure answers on the inner value; an inner refusal is passed on
abbrev pub MapOutcome : {T R : Type 0} → Outcome T → (T → R → Type 0) → Outcome R
MapOutcome {T} inner answers s (Ok v) t = (x : T) × inner s (Ok x) t × answers x v
MapOutcome inner answers s (Err e) t = inner s (Err e) t

-- the same, for a closure with faults: a fault is a refusal that names the current place
abbrev pub ParseOutcome : {T R E : Type 0} → Outcome T → (T → Result R E → Type 0)
    → (E → Option (List ℕ)) → Outcome R
ParseOutcome {T} inner answers shown s (Ok v) t = (x : T) × inner s (Ok x) t × answers x (Ok v)
ParseOutcome {T} {R} {E} inner answers shown s (Err e) t =
    inner s (Err e) t ⊎ ((x : T) × inner s (Ok x) t × (fault : E) × answers x (Err fault)
    × TellsFault shown fault (ParseFailed t.current) e.0)

-- the inner value where the check accepts it; else a refusal that names the current place
abbrev pub GuardOutcome : {T : Type 0} → Outcome T → (T → Bool → Type 0) → List ℕ → Outcome T
GuardOutcome inner checks message s (Ok v) t = inner s (Ok v) t × checks v true
GuardOutcome {T} inner checks message s (Err e) t =
    inner s (Err e) t ⊎ ((x : T) × inner s (Ok x) t × checks x false
    × ((e.0 ≡ GuardFailed t.current message) ⊎ (e.0 ≡ Memory)))

-- an error other than want of memory at which a turn stops: with `catches` each that isn't wrong
-- input; Missing where as many items are present as before; each other that can be caught
abbrev pub stops_spared : Bool → Message → Bool → Bool
stops_spared catches (Missing items) untouched = catches || untouched
stops_spared catches e untouched = (catches && not (is_wrong_input e)) || can_catch e

-- an error at which a turn stops: never want of memory
abbrev pub stops_step : Bool → Message → Bool → Bool
stops_step catches e untouched = not (is_memory e) && stops_spared catches e untouched

-- as many items are present as before
abbrev pub is_untouched : Situation → Situation → Bool
is_untouched s t = open_count t == open_count s

-- the turn stops at an error of the inner parser
abbrev pub StopsAtError : {T : Type 0} → Outcome T → Bool → Situation → Type 0
StopsAtError inner catches s =
    (e : Error) × (m : Situation) × inner s (Err e) m
    × (stops_step catches e.0 (is_untouched s m) ≡ true)

-- Some of a value: of the first turn, or of one that took an item. None, where the turn stops: a
-- later value that took nothing is dropped, or at an error all is as before the turn. Or the error,
-- or want of memory before the turn
abbrev pub TurnOutcome : {T : Type 0} → Outcome T → Bool → Bool → Outcome (Option T)
TurnOutcome inner catches first s (Ok (Some v)) t =
    inner s (Ok v) t × ((first ≡ true) ⊎ (open_count t < open_count s))
TurnOutcome {T} inner catches first s (Ok None) t =
    ((v : T) × inner s (Ok v) t × (first ≡ false) × (open_count s ≤ open_count t))
    ⊎ (StopsAtError inner catches s × (t ≡ s))
TurnOutcome inner catches first s (Err e) t =
    (inner s (Err e) t × (stops_step catches e.0 (is_untouched s t) ≡ false))
    ⊎ ((is_memory e.0 ≡ true) × (t ≡ s))

-- What stands for a value that isn't there: None, a kept value, or a closure's answer.

-- what gives a value without a line: the answers that it may give
abbrev pub Gives : Type 0 → Type 1
Gives T = Result T Error → Type 0

-- a kept value gives a clone of itself, or wants memory for that
abbrev pub GivesClone : {T : Type 0} → (T → T → Type 0) → T → Gives T
GivesClone clones kept (Ok v) = clones kept v
GivesClone clones kept (Err e) = is_memory e.0 ≡ true

-- a closure gives its value; its fault is a refusal
abbrev pub GivesAnswer : {T E : Type 0} → (Result T E → Type 0) → (E → Option (List ℕ)) → Gives T
GivesAnswer answers shown (Ok v) = answers (Ok v)
GivesAnswer {T} {E} answers shown (Err e) =
    (fault : E) × answers (Err fault) × TellsFault shown fault PureFailed e.0

-- each refusal of it that is the answer of a run inside has a name
abbrev pub NamesGiven : {T : Type 0} → Gives T → Type 0
NamesGiven gives = (context : Context) (e : Error) → gives (Err e) → NamesAnswer context e.0

-- no place and None, or an inner reading and Some of its value
abbrev pub OptionalReads : {T : Type 0} → Readings T → Readings (Option T)
OptionalReads inner context share None = IsEmptyShare share
OptionalReads inner context share (Some v) = inner context share v

-- the inner parser answers an error that can be caught
abbrev pub FallsBack : {T : Type 0} → Outcome T → Situation → Type 0
FallsBack inner s = (e : Error) × (m : Situation) × inner s (Err e) m × (can_catch e.0 ≡ true)

-- Some of an inner value; None where the inner parser falls back; or another error, or want of
-- memory. After all but a value the situation is as before
abbrev pub AttemptOutcome : {T : Type 0} → Outcome T → Outcome (Option T)
AttemptOutcome inner s (Ok (Some v)) t = inner s (Ok v) t
AttemptOutcome inner s (Ok None) t = FallsBack inner s × (t ≡ s)
AttemptOutcome inner s (Err e) t =
    (((m : Situation) × inner s (Err e) m × (can_catch e.0 ≡ false)) ⊎ (is_memory e.0 ≡ true))
    × (t ≡ s)

-- the inner answer; where the inner parser falls back, what is given
abbrev pub FallbackOutcome : {T : Type 0} → Outcome T → Gives T → Outcome T
FallbackOutcome inner gives s (Ok v) t =
    AttemptOutcome inner s (Ok (Some v)) t ⊎ (AttemptOutcome inner s (Ok None) t × gives (Ok v))
FallbackOutcome inner gives s (Err e) t =
    AttemptOutcome inner s (Err e) t ⊎ (AttemptOutcome inner s (Ok None) t × gives (Err e))

-- what may be left out is shown so
abbrev pub OptionalDescribes : (Shape → Type 0) → Shape → Type 0
OptionalDescribes inner shape = (inside : Shape) × inner inside × (shape ≡ Optional inside)

-- what may be left out is shown so, and behind it the default, where one is shown
abbrev pub DefaultDescribes : (Shape → Type 0) → Option (List Piece) → Shape → Type 0
DefaultDescribes inner None shape = OptionalDescribes inner shape
DefaultDescribes inner (Some text) shape =
    (inside : Shape) × inner inside × (shape ≡ Suffix (Optional inside) text)

-- a document of the default that prints this text is shown
abbrev pub ShowsDefault : Option (List ℕ) → Option (List Piece) → Type 0
ShowsDefault text shown = (doc : List Piece) × IsDefault text doc × (shown ≡ Some doc)

-- a document of the default as a closure writes it is shown
abbrev pub ShowsFormatted : {T : Type 0} → (T → Result (String Global) AllocError → Type 0) → T
    → Option (List Piece) → Type 0
ShowsFormatted writes v shown = (doc : List Piece) × IsFormatted writes v doc × (shown ≡ Some doc)

-- a closure's value is shown as the default; where it gives none, what was shown stays
abbrev pub ShowsAnswer : {T E : Type 0} → (Result T E → Type 0)
    → (T → Option (List Piece) → Type 0) → Option (List Piece) → Option (List Piece) → Type 0
ShowsAnswer {T} {E} answers shows before after =
    ((v : T) × answers (Ok v) × shows v after)
    ⊎ ((fault : E) × answers (Err fault) × (after ≡ before))

-- a refusal with this message, or want of memory for the message; never a value
abbrev pub GivesRefusal : {T : Type 0} → List ℕ → Gives T
GivesRefusal message (Ok v) = ⊥
GivesRefusal message (Err e) = (e.0 ≡ ParseFail message) ⊎ (e.0 ≡ Memory)

-- no place, and a value of which this holds
abbrev pub PureReads : {T : Type 0} → (T → Type 0) → Readings T
PureReads gives context share v = IsEmptyShare share × gives v

-- what is given; no place is current then, and all else is as before
abbrev pub PureOutcome : {T : Type 0} → Gives T → Outcome T
PureOutcome gives s r t = gives r × (t ≡ with_current s None)

-- what a closure gives; nothing changes, so the place that was current is so still
abbrev pub PureWithOutcome : {T : Type 0} → Gives T → Outcome T
PureWithOutcome gives s r t = gives r × (t ≡ s)

-- Repeats: turns of one inner parser, one after another.

-- a list without values
abbrev pub is_nil : {T : Type 0} → List T → Bool
is_nil [] = true
is_nil (v ∷ vs) = false

-- the last of some values; none where there is none
abbrev pub EndsIn : {T : Type 0} → List T → Option T → Type 0
EndsIn values None = values ≡ []
EndsIn {T} values (Some v) = (before : List T) × (values ≡ before ++ v ∷ [])

-- turns one after another that answered these values; `first` where no value came before them
abbrev pub Turns : {T : Type 0} → Outcome T → Bool → Bool → Situation → List T → Situation → Type 0
Turns inner catches first s [] t = s ≡ t
Turns inner catches first s (v ∷ vs) t =
    (m : Situation) × TurnOutcome inner catches first s (Ok (Some v)) m
    × Turns inner catches false m vs t

-- turns until one stops; `first` as above
pub record UntilStop {T : Type 0} (inner : Outcome T) (catches first : Bool) (s : Situation)
    (values : List T) (t : Situation) : Type 0 where
  pub last : Situation
  pub steps : Turns inner catches first s values last
  pub stop : TurnOutcome inner catches (is_nil values) last (Ok None) t

-- turns until one fails
pub record UntilError {T : Type 0} (inner : Outcome T) (catches first : Bool) (s : Situation)
    (e : Error) (t : Situation) : Type 0 where
  pub values : List T
  pub last : Situation
  pub steps : Turns inner catches first s values last
  pub fails : TurnOutcome inner catches (is_nil values) last (Err e) t

-- all values until a turn stops, as a list
abbrev pub ListOutcome : {T : Type 0} → Outcome T → Bool → Outcome (List T)
ListOutcome inner catches s (Ok values) t = UntilStop inner catches true s values t
ListOutcome inner catches s (Err e) t = UntilError inner catches true s e t

-- inner readings with shares joined, each share not empty
abbrev pub EachReads : {T : Type 0} → Readings T → Readings (List T)
EachReads inner context share [] = IsEmptyShare share
EachReads inner context share (v ∷ vs) =
    (own : Share) × (rest : Share) × Joins own rest share × HasPlace own × inner context own v
    × EachReads inner context rest vs

-- inner readings with shares joined, each share but the first not empty
abbrev pub ListReads : {T : Type 0} → Readings T → Readings (List T)
ListReads inner context share [] = IsEmptyShare share
ListReads inner context share (v ∷ vs) =
    (own : Share) × (rest : Share) × Joins own rest share × inner context own v
    × EachReads inner context rest vs

-- many: the list
abbrev pub ManyOutcome : {T : Type 0} → Outcome T → Bool → Outcome (Vec T)
ManyOutcome inner catches s (Ok values) t = ListOutcome inner catches s (Ok values.items) t
ManyOutcome inner catches s (Err e) t = ListOutcome inner catches s (Err e) t

-- some: the list, not empty; without a value the message is the answer, or want of memory for it
abbrev pub SomeOutcome : {T : Type 0} → Outcome T → Bool → List ℕ → Outcome (Vec T)
SomeOutcome inner catches message s (Ok values) t =
    ManyOutcome inner catches s (Ok values) t × (is_nil values.items ≡ false)
SomeOutcome inner catches message s (Err e) t =
    ListOutcome inner catches s (Err e) t
    ⊎ (ListOutcome inner catches s (Ok []) t × ((e.0 ≡ ParseSome message) ⊎ (e.0 ≡ Memory)))

-- collect: what is filled from the list; or want of memory for it
abbrev pub CollectOutcome : {T C : Type 0} → Outcome T → Bool → (List T → C → Type 0) → Outcome C
CollectOutcome {T} inner catches fills s (Ok v) t =
    (values : List T) × ListOutcome inner catches s (Ok values) t × fills values v
CollectOutcome {T} inner catches fills s (Err e) t =
    ListOutcome inner catches s (Err e) t
    ⊎ ((values : List T) × ListOutcome inner catches s (Ok values) t × (is_memory e.0 ≡ true))

-- turns that each took an item, until one stops; or one value alone, that took nothing
pub data UntilRest {T : Type 0} (inner : Outcome T) (s : Situation) (values : List T)
    (t : Situation) : Type 0 where
  stops : UntilStop inner false false s values t → UntilRest inner s values t
  rests : (v : T) → values ≡ v ∷ [] → inner s (Ok v) t → open_count s ≤ open_count t
      → UntilRest inner s values t

-- turns that each took an item, until one fails
abbrev pub UntilFault : {T : Type 0} → Outcome T → Situation → Error → Situation → Type 0
UntilFault inner s e t = UntilError inner false false s e t

-- count: how many values there are, until one takes nothing or a turn stops
abbrev pub CountOutcome : {T : Type 0} → Outcome T → Outcome ℕ
CountOutcome {T} inner s (Ok n) t =
    (values : List T) × UntilRest inner s values t × (n ≡ length values)
CountOutcome inner s (Err e) t = UntilFault inner s e t

-- last: the last value; without one, what the inner parser answers when it is evaluated once more
abbrev pub LastOutcome : {T : Type 0} → Outcome T → Outcome T
LastOutcome {T} inner s (Ok v) t =
    ((before : List T) × UntilRest inner s (before ++ v ∷ []) t)
    ⊎ ((m : Situation) × UntilRest inner s [] m × inner m (Ok v) t)
LastOutcome inner s (Err e) t =
    UntilFault inner s e t ⊎ ((m : Situation) × UntilRest inner s [] m × inner m (Err e) t)

-- evaluations one after another that answered these values and each took an item
abbrev pub EachTakes : {T : Type 0} → Outcome T → Situation → List T → Situation → Type 0
EachTakes inner s [] t = s ≡ t
EachTakes inner s (v ∷ vs) t =
    (m : Situation) × inner s (Ok v) m × (open_count m < open_count s) × EachTakes inner m vs t

-- the same, but that the first one need not take an item
abbrev pub LaterTake : {T : Type 0} → Outcome T → Situation → List T → Situation → Type 0
LaterTake inner s [] t = s ≡ t
LaterTake inner s (v ∷ vs) t = (m : Situation) × inner s (Ok v) m × EachTakes inner m vs t

-- at most one value more than items present at the start, and each value but the first took an item
abbrev pub IsBounded : {T : Type 0} → Outcome T → Situation → List T → Type 0
IsBounded inner s values =
    (length values ≤ open_count s + 1) × ((m : Situation) × LaterTake inner s values m)

-- a value is filled from the list that ran, and that is bounded
abbrev pub CollectIsBounded : {T C : Type 0} → Outcome T → Bool → (List T → C → Type 0) → Outcome C
CollectIsBounded {T} inner catches fills s (Ok v) t =
    (values : List T) × ListOutcome inner catches s (Ok values) t × fills values v
    × IsBounded inner s values
CollectIsBounded inner catches fills s (Err e) t = ⊤

-- what may stand more than once, or not at all, is shown so
abbrev pub ManyDescribes : (Shape → Type 0) → Shape → Type 0
ManyDescribes inner shape = (inside : Shape) × inner inside × (shape ≡ Many (Optional inside))

-- what may stand more than once, and must stand there, is shown so
abbrev pub SomeDescribes : (Shape → Type 0) → Shape → Type 0
SomeDescribes inner shape = (inside : Shape) × inner inside × (shape ≡ Many (Required inside))

-- a refusal that names no missing item
abbrev pub hidden : Message → Message
hidden (Missing items) = Missing []
hidden m = m

-- the inner answer; of a refusal the missing items aren't named
abbrev pub HideOutcome : {T : Type 0} → Outcome T → Outcome T
HideOutcome inner s (Ok v) t = inner s (Ok v) t
HideOutcome inner s (Err e) t = (inside : Error) × inner s (Err inside) t × (e.0 ≡ hidden inside.0)

-- the pieces of a usage text; without one none
abbrev pub usage_pieces : Option (List Piece) → List Piece
usage_pieces (Some usage) = usage
usage_pieces None = []

-- what is shown inside, with a usage text of its own
abbrev pub UsageDescribes : (Shape → Type 0) → Option (List Piece) → Shape → Type 0
UsageDescribes inner usage shape =
    (inside : Shape) × inner inside × (shape ≡ CustomUsage inside (usage_pieces usage))

-- what is shown inside, in a section below this title
abbrev pub SectionDescribes : (Shape → Type 0) → List Piece → Shape → Type 0
SectionDescribes inner title shape =
    (inside : Shape) × inner inside × (shape ≡ Subsection inside title)

-- the same, below a title that a closure may answer on what is shown inside
abbrev pub TitledDescribes : (Shape → Type 0) → (MetaInfo → Result (List Piece) AllocError → Type 0)
    → Shape → Type 0
TitledDescribes inner answers shape =
    (info : MetaInfo) × (title : List Piece) × inner (shape_of info.0.now) × answers info (Ok title)
    × (shape ≡ Subsection (shape_of info.0.now) title)
