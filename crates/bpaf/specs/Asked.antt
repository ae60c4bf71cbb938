-- Help, or a version, that a run was asked for and shows.
use Rattle.std.specs.Prelude.{◌≡◌, ◌⊎◌, ℕ, Bool, List, Err, Ok, ⊤}
use Rattle.bpaf_doc.specs.{declared.doc.Piece.Piece, Shape.Shape}
use Rattle.bpaf_line.specs.Situation.{Context, Situation, beginning}
use Rattle.bpaf_line.specs.{declared.error.Error.Error, declared.error.Message.Message}
use Rattle.bpaf_line.specs.{declared.failure.ParseFailure.ParseFailure, Taking.IsContext}
use Rattle.bpaf_laws.specs.Command.{Called, IsOpenedAt, inside, opening_words}
use Rattle.bpaf_laws.specs.{Laws.Keeps, Reading.Outcome}
use Rattle.bpaf_core.specs.{ExtraParams.ExtraParams, Ending.Shows, Info.ExtraOutcome, Info.RunInfo}
use Rattle.bpaf_words.specs.{Arguments.Given, Line.Known}
use Rattle.bpaf_line.specs.declared.error.Message.TheVariants as message
use Rattle.bpaf_line.specs.declared.failure.ParseFailure.TheVariants as failure

-- what may be shown in a situation, in full or not
abbrev pub Showing : Type 1
Showing = Situation → List Piece → Bool → Type 0

-- the key of help or version is there; and this is the page of a shape it may show, or the version
pub record IsAskedAt (describes : Shape → Type 0) (info : RunInfo) (before : Situation)
    (doc : List Piece) (full : Bool) : Type 0 where
  pub after : Situation
  pub asked : ExtraParams
  pub looked : ExtraOutcome info before (Ok asked) after
  pub shows : Shows describes info asked after (failure.Stdout doc full)

-- what began in a situation came to one in which this may be shown
pub record CameTo (showing : Showing) (s : Situation) (doc : List Piece) (full : Bool) : Type 0
  where
    pub there : Situation
    pub keeps : Keeps s there
    pub shown : showing there doc full

-- the word of a command is there, and what runs behind it came to where this may be shown
pub record BehindWord (called : Called) (showing : Showing) (s : Situation) (doc : List Piece)
    (full : Bool) : Type 0 where
  pub place : ℕ
  pub word : IsOpenedAt (opening_words called) s place
  pub run : CameTo showing (inside called s place) doc full

-- what one of two may show
abbrev pub OneShows : Showing → Showing → Showing
OneShows one other s doc full = one s doc full ⊎ other s doc full

-- a run shows what it was asked for itself, or what its parser shows of runs inside it
abbrev pub RunShows : (Shape → Type 0) → RunInfo → Showing → Showing
RunShows describes info = OneShows (IsAskedAt describes info)

-- a run over words came to where this may be shown
pub record WordsShow (known : Known) (given : Given) (showing : Showing) (doc : List Piece)
    (full : Bool) : Type 0 where
  pub context : Context
  pub on_line : IsContext known given context
  pub run : CameTo showing (beginning context) doc full

-- what a run answers that has no value is this, if it shows something
abbrev pub IfShown : (List Piece → Bool → Type 0) → ParseFailure → Type 0
IfShown shown (failure.Stdout doc full) = shown doc full
IfShown shown f = ⊤

-- what is shown of a run inside a parser
abbrev pub inner_answer : List Piece → Bool → Message
inner_answer doc full = message.ParseFailure (failure.Stdout doc full)

-- all that an evaluation shows of a run inside it may be shown where it came to
pub record HandsOn {T : Type 0} (showing : Showing) (inner : Outcome T) : Type 0 where
  pub all : (s : Situation) (e : Error) (t : Situation) (doc : List Piece) (full : Bool)
      → inner s (Err e) t → e.0 ≡ inner_answer doc full → CameTo showing s doc full

-- nothing may be shown
abbrev pub nothing_shown : Showing
nothing_shown s doc full = ⊥
