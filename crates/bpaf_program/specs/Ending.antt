-- Sinks, and how a run of a program ends: what it prints, what is written where it gives no value,
-- and the status.
use Rattle.std.specs.Prelude.{◌≡◌, ◌≢◌, ℕ, List, ◌∷◌, ◌++◌, length, Option, Result, Ok, Err, true}
use Rattle.std.specs.Prelude.{[], codes, ◌⊎◌, Bool, String, string_bytes, if◌then◌else◌}
use Rattle.std.specs.{Io.KnownBytes.Appends, declared.io.Error.Error, declared.alloc.Global.Global}
use Rattle.bpaf_doc.specs.Print.{printed, line_break, text_pieces}
use Rattle.bpaf_doc.specs.declared.doc.Piece.{Piece}
use Rattle.bpaf_line.specs.declared.failure.ParseFailure.{ParseFailure}
use Rattle.bpaf_line.specs.declared.failure.ParseFailure.TheVariants.{Stdout, Stderr, Memory}

-- what is known of a sink: the bytes that it holds, where these are known, and what a write of some
-- bytes may answer and leave, which only a call of that write gives
pub record KnownSink (S : Type 0) : Type 1 where
  pub contents : S → Option (List ℕ)
  pub answers : S → List ℕ → Result ℕ Error → S → Type 0

-- of a writer the bytes alone are
abbrev pub known_writer : {W : Type 0} → (W → Option (List ℕ)) → KnownSink W
known_writer contents = record { contents = contents; answers = λ _ _ _ _. Unit {0} }

-- an error, or nothing taken of some bytes
abbrev pub IsFailure : List ℕ → Result ℕ Error → Type 0
IsFailure bytes (Ok n) = (n ≡ 0) × (length bytes ≢ 0)
IsFailure bytes (Err e) = Unit {0}

-- the last write to a sink, which left it so, failed
pub record Failed {S : Type 0} (known : KnownSink S) (after : S) : Type 0 where
  pub before : S
  pub bytes : List ℕ
  pub answer : Result ℕ Error
  pub answered : known.answers before bytes answer after
  pub failed : IsFailure bytes answer

-- a sink before a run and after it
pub record Written : Type 1 where
  pub Sink : Type 0
  pub known : KnownSink Sink
  pub before : Sink
  pub after : Sink

-- a sink of this type
abbrev pub wrote : {S : Type 0} → KnownSink S → S → S → Written
wrote {S} known before after = record { Sink = S; known = known; before = before; after = after }

-- nothing is written: it is as it was
abbrev pub IsUntouched : Written → Type 0
IsUntouched sink = sink.after ≡ sink.before

-- the bytes that it holds grow by a text
abbrev pub Writes : Written → List ℕ → Type 0
Writes sink text = Appends (sink.known.contents sink.before) (sink.known.contents sink.after) text

-- they grow by a beginning of a text, and not by all of it, and the last write failed
pub record WritesPart (sink : Written) (text : List ℕ) : Type 0 where
  pub front : List ℕ
  pub next : ℕ
  pub rest : List ℕ
  pub whole : front ++ (next ∷ rest) ≡ text
  pub written : Writes sink front
  pub failed : Failed sink.known sink.after

-- the line that tells a message
abbrev pub error_line : List ℕ → List ℕ
error_line message = codes "Error: " ++ (message ++ line_break ∷ [])

-- the line that tells of want of memory
abbrev pub memory_line : List ℕ
memory_line = error_line (codes "out of memory")

-- a text is written, by status 0, or a beginning of it where a write failed, by status 1
pub data IsShown (out : Written) (text : List ℕ) : ℕ → Type 0 where
  whole : Writes out text → IsShown out text 0
  in_part : WritesPart out text → IsShown out text 1

-- a line is told, or a beginning of it where a write failed, by status 1
pub data TellsLine (err : Written) (line : List ℕ) : ℕ → Type 0 where
  told_whole : Writes err line → TellsLine err line 1
  told_in_part : WritesPart err line → TellsLine err line 1

-- How a failure is told, and the status: on `out` what was asked for, or on `err` the line of a
-- message, or that memory was wanted. Where a write fails a beginning of that is written, and
-- nothing after it.
abbrev pub TellsFailure : (out err : Written) → ParseFailure → ℕ → Type 0
TellsFailure out err (Stdout doc full) status = IsShown out (printed full doc) status
    × IsUntouched err
TellsFailure out err (Stderr doc) status =
    IsUntouched out × TellsLine err (error_line (printed true doc)) status
TellsFailure out err Memory status = IsUntouched out × TellsLine err memory_line status

-- how a run ends by an answer: its value and nothing written, or the status of what is told
pub data EndsBy {T : Type 0} (out err : Written) : Result T ParseFailure → Result T ℕ → Type 0
  where
    with_value : {v : T} → IsUntouched out → IsUntouched err → EndsBy out err (Ok v) (Ok v)
    with_status : {f : ParseFailure} {status : ℕ} → TellsFailure out err f status
        → EndsBy out err (Err f) (Err status)

-- a run ends by one of these answers
pub record Ends {T : Type 0} (answers : Result T ParseFailure → Type 0) (out err : Written)
    (r : Result T ℕ) : Type 0 where
  pub answer : Result T ParseFailure
  pub is : answers answer
  pub ends : EndsBy out err answer r

-- how a program ends that prints an answer's text: with it, a beginning of it, or what is told
pub data IsPrinted (out err : Written) {A : Type 0} (text_of : A → List ℕ)
    : Result A ParseFailure → ℕ → Type 0 where
  given : {v : A} {status : ℕ} → IsShown out (text_of v) status → IsUntouched err
      → IsPrinted out err text_of (Ok v) status
  told : {f : ParseFailure} {status : ℕ} → TellsFailure out err f status
      → IsPrinted out err text_of (Err f) status

-- an answer gives or shows one of the texts that answer the words, or it refuses
abbrev pub AnswersText : (List ℕ → Type 0) → Result (String Global) ParseFailure → Type 0
AnswersText answers (Ok text) = answers (string_bytes text)
AnswersText answers (Err (Stdout doc full)) = answers (printed full doc)
AnswersText answers (Err (Stderr doc)) = Unit {0}
AnswersText answers (Err Memory) = Unit {0}

-- a text of this kind, or that of one of these pages
abbrev pub OrPage : (said : List ℕ → Type 0) → (page : List Piece → Bool → Type 0) → List ℕ → Type 0
OrPage said page text =
    said text ⊎ ((doc : List Piece) × (full : Bool) × page doc full × (text ≡ printed full doc))

-- A program answers its words by one of these texts: by status 0 exactly one is written on `out`,
-- and nothing on `err`; by status 1 a beginning of one, where a write failed, and nothing on `err`;
-- or nothing, and on `err` the line of a message, or a beginning of it where a write failed.
pub data RunsTo (answers : List ℕ → Type 0) (out err : Written) : ℕ → Type 0 where
  shows : {status : ℕ} (text : List ℕ) → answers text → IsShown out text status
      → IsUntouched err → RunsTo answers out err status
  tells : {status : ℕ} (message : List ℕ) → IsUntouched out
      → TellsLine err (error_line message) status → RunsTo answers out err status

-- an answer is this text, or want of memory
abbrev pub IsTextOrWant : List ℕ → Result (String Global) ParseFailure → Type 0
IsTextOrWant text (Ok answer) = string_bytes answer ≡ text
IsTextOrWant text (Err f) = f ≡ Memory

-- all these values have one text; where there is a value, the answer is that, or want of memory
pub record AnswersTextOf {V : Type 0} (value : V → Type 0) (text_of : V → List ℕ)
    (r : Result (String Global) ParseFailure) : Type 0 where
  pub alike : (v w : V) → value v → value w → text_of v ≡ text_of w
  pub complete : (v : V) → value v → IsTextOrWant (text_of v) r

-- a text is that of one of these values
abbrev pub IsTextOf : {V : Type 0} → (V → Type 0) → (V → List ℕ) → List ℕ → Type 0
IsTextOf {V = V} value text_of text = (v : V) × value v × (text ≡ text_of v)

-- an answer gives or shows a text that answers the words, or refuses; and is exact for these values
pub record AnswersByText {V : Type 0} (answers : List ℕ → Type 0) (value : V → Type 0)
    (text_of : V → List ℕ) (r : Result (String Global) ParseFailure) : Type 0 where
  pub answer : AnswersText answers r
  pub exact : AnswersTextOf value text_of r

-- a run prints a text: it is written, or a write failed, and a beginning of it is; or memory was
-- wanted, which alone is told
pub data RunPrints (text : List ℕ) (out err : Written) : ℕ → Type 0 where
  written : {status : ℕ} → IsShown out text status → IsUntouched err → RunPrints text out err status
  memory_wanted : {status : ℕ} → IsUntouched out → TellsLine err memory_line status
      → RunPrints text out err status

-- all these values have the same text; and where there is one, a run prints its text
pub record PrintsTextOf {V : Type 0} (value : V → Type 0) (text_of : V → List ℕ) (out err : Written)
    (status : ℕ) : Type 0 where
  pub alike : (v w : V) → value v → value w → text_of v ≡ text_of w
  pub prints : (v : V) → value v → RunPrints (text_of v) out err status

-- memory was wanted, or it is told that one is no text
abbrev pub IsUnread : ParseFailure → Type 0
IsUnread (Stdout doc full) = ⊥
IsUnread (Stderr doc) = doc ≡ text_pieces (codes "a word is no text in UTF-8")
IsUnread Memory = Unit {0}

-- a text and the end of its line
abbrev pub line : List ℕ → List ℕ
line text = text ++ line_break ∷ []

-- a line for each text, with this before it
abbrev pub line_each : List ℕ → List (List ℕ) → List ℕ
line_each front [] = []
line_each front (text ∷ texts) = line (front ++ text) ++ line_each front texts

-- how a truth value is printed
abbrev pub truth : Bool → List ℕ
truth value = if value then codes "true" else codes "false"
