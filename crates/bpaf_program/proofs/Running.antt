-- A program that prints its answer runs to the texts that answer its words, or to a part of one.
use Rattle.std.proofs.Common.{inl, Ok, ◌≡◌, ℕ, Bool, List, Result, Err, string_bytes, codes, All}
use Rattle.std.proofs.Common.{IfOk, IsUtf8, map, refl, slice_index_or, subst, sym, ap, ◌==◌, true}
use Rattle.std.proofs.Common.{false, ◌-◌, [], ◌∷◌, ◌++◌, Option, OnOk, OnErr, take, drop, length}
use Rattle.std.proofs.Common.{◌∙◌, append_assoc, ◌<◌, ◌+◌, ◌||◌, not, ap₂, arith, drop-cons, get_or}
use Rattle.bpaf_program.specs.Ending.{IsPrinted, TellsFailure, given, told, AnswersByText}
use Rattle.bpaf_program.specs.Ending.{AnswersText, AnswersTextOf, IsTextOrWant, OrPage, RunPrints}
use Rattle.bpaf_program.specs.Ending.{PrintsTextOf, RunsTo, memory_wanted, shows, tells, written}
use Rattle.bpaf_program.specs.Ending.{Written, EndsBy, with_status, with_value, IsUntouched, Failed}
use Rattle.bpaf_program.specs.Ending.{KnownSink, Writes, WritesPart, wrote, TellsLine, told_in_part}
use Rattle.std.proofs.{lemmas.List.take_rest, lemmas.List.take-append-drop, Common.suc}
use Rattle.std.proofs.KnownBytes.{Appends-trans, Appends-kept}
use Rattle.std.proofs.{lemmas.Str.IsUtf8-string_bytes, lemmas.List.Elements.All-map}
use Rattle.std.specs.{Result.IfErr, Result.IsErr, Result.IsErrAnd, declared.alloc.Global.Global}
use Rattle.std.specs.{Io.KnownBytes.Appends, Io.KnownBytes.Keeps, Prelude.String}
use Rattle.bpaf_doc.specs.{declared.doc.Piece.Piece, Print.printed}
use Rattle.bpaf_line.specs.declared.failure.ParseFailure.TheVariants.{Stdout, Stderr, Memory}
use Rattle.bpaf_line.specs.declared.failure.ParseFailure.{ParseFailure}
use Rattle.bpaf.specs.Asked.{IfShown}
use Rattle.bpaf_exact.specs.Says.{Alike}
use Rattle.bpaf_program.specs.{KnownParser.IsExactFor, Ending.told_whole}

-- texts are in UTF-8
pub are_texts : (words : List (String Global)) → All IsUtf8 (map string_bytes words)
are_texts words =
    All-map IsUtf8 string_bytes words (λ k d within. IsUtf8-string_bytes (slice_index_or words k d))

-- what holds of each refusal that a step hands on holds of its answer
pub handed_on : {A F : Type 0} {P : F → Type 0} (holds : Result A F → Type 0) (r : Result A F)
    → IsErr r × IsErrAnd r P → ((f : F) → P f → holds (Err f)) → holds r
handed_on holds (Ok v) is then = let no = is.0 in absurd cc
handed_on holds (Err f) is then = then f is.1

-- a refusal answers the words, where the help that it shows does
pub refusal_answers : (answers : List ℕ → Type 0) (asked : List Piece → Bool → Type 0)
    (f : ParseFailure) → ((doc : List Piece) (full : Bool) → f ≡ Stdout doc full → asked doc full
    → answers (printed full doc)) → IfShown asked f → AnswersText answers (Err f)
refusal_answers answers asked f help is = grind arith

-- what is printed runs to a text that was asked for, or to a message
pub runs_to : {answers : List ℕ → Type 0} {out err : Written}
    {r : Result (String Global) ParseFailure} {status : ℕ} → IsPrinted out err string_bytes r status
    → AnswersText answers r → RunsTo answers out err status
runs_to (given is quiet) answer = shows _ answer is quiet
runs_to {answers} {out} {err} (told {f = f} is) answer = told_runs f is answer
  where
    told_runs : (f : ParseFailure) {status : ℕ} → TellsFailure out err f status
        → AnswersText answers (Err f) → RunsTo answers out err status
    told_runs (Stdout doc full) is answer = shows _ answer is.0 is.1
    told_runs (Stderr doc) is answer = tells _ is.0 is.1
    told_runs Memory is answer = tells (codes "out of memory") is.0 is.1

module _ (said : List ℕ → Type 0) (page : List Piece → Bool → Type 0) where
  -- a refusal that shows a page shows one of these
  page_answers : (f : ParseFailure) → IfShown page f → AnswersText (OrPage said page) (Err f)
  page_answers f is = grind arith

  -- an answer gives such a text or shows such a page
  said_answers : (r : Result (String Global) ParseFailure)
      → IfOk r (λ text. said (string_bytes text)) → IfErr r (IfShown page)
      → AnswersText (OrPage said page) r
  said_answers (Ok text) is shown = inl is
  said_answers (Err f) is shown = page_answers f shown

  -- what is printed of it runs to one of these
  pub runs_to_said : {out err : Written} {r : Result (String Global) ParseFailure} {status : ℕ}
      → IsPrinted out err string_bytes r status → IfOk r (λ text. said (string_bytes text))
      → IfErr r (IfShown page) → RunsTo (OrPage said page) out err status
  runs_to_said printed is shown = runs_to printed (said_answers _ is shown)

-- where all values have the text of the answer, a run prints it, or tells that memory was wanted
pub prints_text : {out err : Written} {V : Type 0} {value : V → Type 0} {text_of : V → List ℕ}
    {r : Result (String Global) ParseFailure} {status : ℕ} → IsPrinted out err string_bytes r status
    → AnswersTextOf value text_of r → PrintsTextOf value text_of out err status
prints_text {out} {err} is answers =
    record { alike = answers.alike; prints = λ v there. prints is (answers.complete v there) }
  where
    wants : (f : ParseFailure) {status : ℕ} {text : List ℕ} → TellsFailure out err f status
        → f ≡ Memory → RunPrints text out err status
    wants Memory is own = memory_wanted is.0 is.1
    wants f is own = absurd cc

    prints : {text : List ℕ} {r : Result (String Global) ParseFailure} {status : ℕ}
        → IsPrinted out err string_bytes r status → IsTextOrWant text r
        → RunPrints text out err status
    prints (given is quiet) own = written (rw own at is) quiet
    prints (told {f = f} is) own = wants f is own

-- an answer that is a text which answers the words, or want of memory, answers them
pub text_answers : (answers : List ℕ → Type 0) (text : List ℕ) → answers text
    → (r : Result (String Global) ParseFailure) → IsTextOrWant text r → AnswersText answers r
text_answers answers text own x is = grind arith

module _ {answers : List ℕ → Type 0} {V : Type 0} {value : V → Type 0} {text_of : V → List ℕ}
    (alike : Alike text_of value) where
  -- where no value is answered, the refusal is
  pub refused_text : {f : ParseFailure} → AnswersText answers (Err f) → IsExactFor value (Err f)
      → {r : Result (String Global) ParseFailure} → IsErr r × IsErrAnd r (λ g. g ≡ f)
      → AnswersByText answers value text_of r
  refused_text own exact is = grind (arith, handed_on)

  -- else the text of the value is, or memory is wanted for it
  pub given_text : {v : V} → answers (text_of v) → IsExactFor value (Ok v)
      → (r : Result (String Global) ParseFailure) → IsTextOrWant (text_of v) r
      → AnswersByText answers value text_of r
  given_text {v} own exact r is = record {
    answer = text_answers answers (text_of v) own r is;
    exact = record {
      alike = alike;
      complete = λ w there. subst (λ text. IsTextOrWant text r) (alike v w exact.sound there) is;
    };
  }

-- a refusal shows one of these pages, or memory is wanted for its text
pub refused_page : {said : List ℕ → Type 0} {page : List Piece → Bool → Type 0} {V : Type 0}
    {value : V → Type 0} {text_of : V → List ℕ} → Alike text_of value → {f : ParseFailure}
    → IfShown page f → IsExactFor value (Err f)
    → {r : Result (String Global) ParseFailure} → IsErr r × IsErrAnd r (λ g. g ≡ f)
    → AnswersByText (OrPage said page) value text_of r
refused_page {said} {page} alike {f} shown exact is =
    refused_text alike (page_answers said page f shown) exact is

-- a value at the end of a run is the answer's, with nothing written
pub ended_value : {T : Type 0} {out err : Written} {answer : Result T ParseFailure} {v : T}
    → EndsBy out err answer (Ok v) → (answer ≡ Ok v) × (IsUntouched out × IsUntouched err)
ended_value (with_value kept quiet) = (refl, (kept, quiet))

-- a status is that of what is told of a failure
pub ended_status : {T : Type 0} {out err : Written} {answer : Result T ParseFailure} {status : ℕ}
    → EndsBy out err answer (Err status)
    → (f : ParseFailure) × (answer ≡ Err f) × TellsFailure out err f status
ended_status (with_status {f = f} said) = (f, refl, said)

-- A text of which a part is written.

-- all of a text is written but this rest
pub record IsWrittenBut (before after : Option (List ℕ)) (rest text : List ℕ) : Type 0 where
  pub front : List ℕ
  pub written : Appends before after front
  pub whole : front ++ rest ≡ text

-- the beginning of the rest is written, and what is behind it is left
pub written_next : {before middle after : Option (List ℕ)} (next : List ℕ) {rest text : List ℕ}
    → IsWrittenBut before middle (next ++ rest) text → Appends middle after next
    → IsWrittenBut before after rest text
written_next {before} {middle} {after} next {rest} so_far more = record {
  front = so_far.front ++ next;
  written = Appends-trans before middle after so_far.front next so_far.written more;
  whole = append_assoc so_far.front next rest ∙ so_far.whole;
}

module _ {before middle after : Option (List ℕ)} {rest text : List ℕ}
    (so_far : IsWrittenBut before middle rest text) where
  -- the next n bytes of the rest are written, and what is behind them is left
  pub written_on : (n : ℕ) → Appends middle after (take n rest)
      → IsWrittenBut before after (take (length rest - n) (drop n rest)) text
  written_on n more = written_next (take n rest) (record {
    front = so_far.front;
    written = so_far.written;
    whole = ap (λ x. so_far.front ++ x) (ap (λ x. take n rest ++ x) (take_rest rest n)
        ∙ take-append-drop n rest) ∙ so_far.whole;
  }) more

  -- no byte more is written
  pub written_still : Keeps middle after → IsWrittenBut before after rest text
  written_still kept = record {
    front = so_far.front;
    written = Appends-kept before middle after so_far.front so_far.written kept;
    whole = so_far.whole;
  }

  -- a write that takes nothing leaves all as it was
  pub written_nothing : {n : ℕ} → n ≡ 0 → Appends middle after (take n rest)
      → IsWrittenBut before after rest text
  written_nothing none more = written_next [] so_far (rw none at more)

-- where a rest is left after a failed write, a part is written
pub part_written : {sink : Written} {rest text : List ℕ}
    → IsWrittenBut (sink.known.contents sink.before) (sink.known.contents sink.after) rest text
    → (length rest ≡ 0 → ⊥) → Failed sink.known sink.after → WritesPart sink text
part_written {rest = []} so_far some failed = absurd (some refl)
part_written {rest = next ∷ rest} so_far some failed = record {
  front = so_far.front;
  next = next;
  rest = rest;
  whole = so_far.whole;
  written = so_far.written;
  failed = failed;
}

-- a part of a text is one of a longer text
pub part_of_more : {sink : Written} {text : List ℕ} (more : List ℕ) → WritesPart sink text
    → WritesPart sink (text ++ more)
part_of_more more is = record {
  front = is.front;
  next = is.next;
  rest = is.rest ++ more;
  whole = sym (append_assoc is.front (is.next ∷ is.rest) more) ∙ ap (λ x. x ++ more) is.whole;
  written = is.written;
  failed = is.failed;
}

-- behind a whole text a part of another is one of both
pub part_behind : {S : Type 0} {known : KnownSink S} {before middle after : S}
    (text : List ℕ) {more : List ℕ} → Writes (wrote known before middle) text
    → WritesPart (wrote known middle after) more
    → WritesPart (wrote known before after) (text ++ more)
part_behind {known = known} {before} {middle} {after} text whole is = record {
  front = text ++ is.front;
  next = is.next;
  rest = is.rest;
  whole = append_assoc text is.front (is.next ∷ is.rest) ∙ ap (λ x. text ++ x) is.whole;
  written = Appends-trans (known.contents before) (known.contents middle) (known.contents after)
      text is.front whole is.written;
  failed = is.failed;
}

-- behind the texts that are written a part of the next one is one of all
pub part_of_next : {S : Type 0} {known : KnownSink S} {before middle after : S}
    {next : List ℕ} (rest : List ℕ) {text : List ℕ}
    → IsWrittenBut (known.contents before) (known.contents middle) (next ++ rest) text
    → WritesPart (wrote known middle after) next → WritesPart (wrote known before after) text
part_of_next rest so_far part =
    rw (← so_far.whole) (part_behind so_far.front so_far.written (part_of_more rest part))

-- whether all writes succeed or one fails, the line is told or a part of it
pub line_told : {A E : Type 0} (r : Result A E) {err : Written} {line : List ℕ}
    → OnOk r (Writes err line) → OnErr r (WritesPart err line) → TellsLine err line 1
line_told (Ok v) whole part = told_whole whole
line_told (Err e) whole part = told_in_part part

-- what holds is so where a result is an error
pub on_err : {A E : Type 0} {P : Type 0} (r : Result A E) → P → OnErr r P
on_err (Ok v) p = tt
on_err (Err e) p = p

-- what holds there leads to what follows from it
pub on_err_then : {A E : Type 0} {P Q : Type 0} (r : Result A E) → (P → Q) → OnErr r P → OnErr r Q
on_err_then x then p = grind arith

-- what isn't empty has some length
pub some_left : {n : ℕ} {empty : Bool} → empty ≡ (n == 0) → empty ≡ false → n ≡ 0 → ⊥
some_left is some none = grind arith

-- what is kept first and grows then grows
pub kept_then : (before middle after : Option (List ℕ)) (text : List ℕ) → Keeps before middle
    → Appends middle after text → Appends before after text
kept_then x middle after text kept more = grind arith

module _ (full : Bool) (pieces : List Piece) {i : ℕ} {piece : Piece} (within : i < length pieces)
    (here : piece ≡ get_or pieces i piece) where
  -- the pieces from a place on are the one there, and those behind it
  from_here : drop i pieces ≡ piece ∷ drop (i + 1) pieces
  from_here =
      let next : suc i ≡ i + 1 = omega arith in
      drop-cons pieces i piece within ∙ ap₂ (λ x k. x ∷ drop k pieces) (sym here) next

  -- its text is printed where it is shown
  pub printed_here : (full || not piece.detail) ≡ true
      → printed full (drop i pieces) ≡ piece.text ++ printed full (drop (i + 1) pieces)
  printed_here is = ap (printed full) from_here ∙ rw is refl

  -- else nothing is
  pub printed_behind : (full || not piece.detail) ≡ false
      → printed full (drop i pieces) ≡ printed full (drop (i + 1) pieces)
  printed_behind is = ap (printed full) from_here ∙ rw is refl
