-- Each answer that the table of a run allows to a program is exact, and to a flat record keeps to
-- its fields: what is present on the line of the words, and what it is read as.
use Rattle.std.proofs.Common.{if◌then◌else◌, append-nil, slice_get, Option, length, IsUtf8, Result}
use Rattle.std.proofs.Common.{false, arith, subst, codes, zero, Bool, true, List, ◌++◌, ◌==◌, Some}
use Rattle.std.proofs.Common.{None, refl, cond, drop, IfOk, ◌≡◌, ◌<◌, suc, ◌∷◌, map, sym, ◌∙◌, All}
use Rattle.std.proofs.lemmas.List.Elements.{Contains-append_right, All-contains, All-append}
use Rattle.bpaf_words.specs.Line.{without_marker, HasNoMarker, with_marker, HasNoLine, SpellAll}
use Rattle.bpaf_exact.specs.Pieces.{LinePiece, argument, is_value, at_end, passed, Cells, Roles}
use Rattle.bpaf_exact.specs.ProgramForm.{IsAcceptedOrWant, IsSpelledLine, product_roles, is_spelled}
use Rattle.bpaf_exact.specs.ProgramForm.{whole_program, program_value, ProgramForm, line_cells}
use Rattle.bpaf_record.specs.Record.{is_whole_program, AnswersAsProgram, AnswersByFields, answer_of}
use Rattle.std.proofs.{Common.Err, Common.[], Common.ap, Common.Ok, Common.ℕ, lemmas.List.get_or_at}
use Rattle.std.proofs.{lemmas.Option.slice_get_within, lemmas.List.Elements.All-map}
use Rattle.std.proofs.lemmas.Bool.{and_parts}
use Rattle.std.specs.{Prelude.flat_map, Prelude.get_or, List.Contains, List.filter}
use Rattle.std.specs.Option.{option_to_list}
use Rattle.bpaf_base.specs.{declared.arg.Arg.TheVariants.PosWord, declared.arg.Arg.Arg}
use Rattle.bpaf_doc.specs.{Shape.Shape, Names.Names}
use Rattle.bpaf_words.specs.{Line.IsLine, Line.Known, Arguments.Given}
use Rattle.bpaf_words.proofs.OneLine.{one_lines}
use Rattle.bpaf_line.specs.Situation.{is_marker, beginning, Context, item_in}
use Rattle.bpaf_line.specs.{declared.failure.ParseFailure.ParseFailure, Taking.IsContext}
use Rattle.bpaf_laws.specs.Reading.{Outcome}
use Rattle.bpaf.specs.Run.{no_line as none_there, no_memory as wanted, RunsWords, ran}
use Rattle.bpaf.specs.Marker.{is_marker_word, words_before, words_behind}
use Rattle.bpaf.specs.Info.{RunInfo}
use Rattle.bpaf.proofs.Sides.{all_spelled, two_sides, of_words, EachOf}
use Rattle.bpaf_exact.proofs.ProgramForm.{runs_as_program, runs_exactly, record_law}
use Rattle.bpaf_exact.proofs.Cuts.{cut_holds_together}
use Rattle.bpaf_exact.specs.ProgramForm.{is_program, is_dashed, is_record, Accepted, FormLaw}
use Rattle.bpaf_exact.specs.{Pieces.flag, Pieces.word, Pieces.Cut, Flat.first_cells}
use Rattle.bpaf_exact.specs.Says.{first_item}
use Rattle.bpaf_grammar.specs.Grammar.{Grammar, keys_of}
use Rattle.bpaf_record.specs.Record.{is_flat_record, IsValueOrWant, TellsOfWords, PiecesOf}
use Rattle.bpaf_record.specs.{Program.program_form, Commands.run_ran}
use Rattle.bpaf_record.proofs.{GrammarSays.grammar_says_so, Surplus.has_no_surplus}
use Prim.Native.Nat.compare

-- the items that are present
abbrev pub present : Cells → List Arg
present cs = flat_map option_to_list cs

-- of places all items are present, where none is the marker
all_present : (items : List Arg) → present (first_cells (slice_get items) (length items)) ≡ items
all_present [] = refl
all_present (k ∷ items) = ap (λ ks. k ∷ ks) (all_present items)

-- of places all items but the marker are present, where one is it
others_present : (items : List Arg) (marker : Arg) (rest : List Arg)
    → present (first_cells (λ p. if p == length items then None else
    slice_get (items ++ marker ∷ rest) p) (length (items ++ marker ∷ rest))) ≡ items ++ rest
others_present [] marker rest = simp (compare.suc-zero) (all_present rest)
others_present (k ∷ items) marker rest = grind (arith, others_present items marker rest)

-- what is present are the items of the words before the first `--`, and then the words behind it
pub record ArePresent (known : Known) (words : List (List ℕ)) (here : List Arg) : Type 0 where
  pub items : List Arg
  pub none : HasNoMarker (words_before words)
  pub spells : SpellAll known (words_before words) items
  pub are : here ≡ items ++ map PosWord (words_behind words)

-- where words are cut at the first `--`
from_cut : {known : Known} {words : List (List ℕ)} {items here : List Arg}
    → (before rest : List (List ℕ)) → words ≡ before ++ rest → HasNoMarker before
    → (length before < length (before ++ rest) → is_marker_word
    (get_or (before ++ rest) (length before) []) ≡ true) → SpellAll known before items
    → here ≡ items ++ map PosWord (drop 1 rest) → ArePresent known words here
from_cut {known} {words} {items} {here} before rest cut none first spells are =
    grind (arith, two_sides, two_sides before rest none first)

-- what is present on the line of words, cut at the first `--`
pub on_line : (known : Known) (words : List (List ℕ)) (line : List Arg) (marker : Option ℕ)
    → IsLine known words line marker → ArePresent known words (present
    (first_cells (λ p. if is_marker marker p then None else slice_get line p) (length line)))
on_line known words line marker (without_marker items none spells) =
    from_cut words [] (sym (append-nil words)) none
    (λ past. absurd (let none = ap length (append-nil words) in omega arith)) spells
    (all_present items ∙ sym (append-nil items))
on_line known words line marker (with_marker before after items cut none spells) =
    from_cut before (codes "--" ∷ after) cut none
    (λ past. ap is_marker_word (get_or_at before (codes "--") after [] _ refl)) spells
    (others_present items (PosWord (codes "--")) (map PosWord after))

-- what stands at a place is present
at_place : (at : ℕ → Option Arg) (n p : ℕ) (item : Arg) → p < n → at p ≡ Some item
    → Contains (present (first_cells at n)) item
at_place at zero p item within is = absurd (omega arith)
at_place at (suc n) zero item within is = grind arith
at_place at (suc n) (suc p) item within is =
    Contains-append_right (option_to_list (at zero)) (present (first_cells (λ q. at (suc q)) n))
    item (at_place (λ q. at (suc q)) n p item (omega arith) is)

module _ (P : Arg → Type 0) {known : Known} {given : Given} {context : Context}
    (is : IsContext known given context) (each : EachOf known P (words_before given.words))
    (behind : (text : List ℕ) → P (PosWord text)) where
  -- What holds of each item before the first `--`, and of each word behind, holds of all present.
  pub each_present : All P (present (line_cells context))
  each_present =
      let there = on_line known given.words context.line context.marker is.is_line in
      subst (All P) (sym there.are)
      (All-append P there.items (map PosWord (words_behind given.words))
      (of_words known P (words_before given.words) there.items there.spells each)
      (All-map P PosWord (words_behind given.words) (λ k d within. behind _)))

  -- What holds of each item before the first `--`, and of each word behind, holds at each place.
  pub each_at : (p : ℕ) (item : Arg) → item_in context p ≡ Some item → P item
  each_at p item at = All-contains P (present (line_cells context)) item each_present (at_place
      (item_in context) (length context.line) p item (slice_get_within context.line p item
      (in_line (is_marker context.marker p) (slice_get context.line p) at)) at)
    where
      in_line : (b : Bool) (at : Option Arg) → (if b then None else at) ≡ Some item → at ≡ Some item
      in_line true at e = cc
      in_line false at e = e

module _ (test : Arg → Bool) (fails : (w : Arg) → is_value w ≡ true → test w ≡ false) where
  -- Of a line that is cut the items that pass a test, which no value does, begin its pieces.
  pub cut_kept : {r : Roles} {cs : Cells} {os : List LinePiece} → Cut r cs os
      → filter test (present cs) ≡ filter test (map first_item os)
  cut_kept at_end = refl
  cut_kept (passed c) = cut_kept c
  cut_kept (flag {k = k} e c) = ap (λ ks. cond (test k) (k ∷ ks) ks) (cut_kept c)
  cut_kept (argument {k = k} {w = w} {cs = cs} e v c) =
      let kept = filter test (present cs) in
      ap (λ ks. cond (test k) (k ∷ ks) ks)
      (ap (λ b. cond b (w ∷ kept) kept) (fails w v) ∙ cut_kept c)
  cut_kept (word {w = w} h c) = ap (λ ks. cond (test w) (w ∷ ks) ks) (cut_kept c)

-- Each key on the line of words has a whole word that begins with a dash, or none.
pub context_spelled : {known : Known} {given : Given} {context : Context}
    → IsContext known given context → IsSpelledLine context
context_spelled is =
    let Is : Arg → Type 0 = λ item. is_spelled item ≡ true in
    each_at Is is (λ word among items. all_spelled Is _ word (λ c attached rest e. ap is_dashed e)
    (λ c. refl) (λ name attached rest e. ap is_dashed e) (λ text. refl) refl (λ c text is. refl)
    items) (λ text. refl)

-- contexts of the same line, marker, environment and name are one
same_fields : (l m : List Arg) (p q : Option ℕ) (e f : List (List ℕ × List ℕ))
    (n o : Option (List ℕ)) → l ≡ m → p ≡ q → e ≡ f → n ≡ o → (a b : Context)
    → a ≡ record { line = l; marker = p; env = e; name = n }
    → b ≡ record { line = m; marker = q; env = f; name = o } → a ≡ b
same_fields l m p q e f n o lines markers envs names a b is also = cc

-- by the same names words have one context
pub same_context : (given : Given) → All IsUtf8 given.words → (known : Known) (a b : Context)
    → IsContext known given a → IsContext known given b → a ≡ b
same_context given texts known a b first second =
    grind (arith, one_lines, same_fields, one_lines known given.words texts)

-- words with a line aren't without one
pub never_without : (known : Known) (given : Given) → All IsUtf8 given.words
    → (context : Context) → IsContext known given context → (at_word : List ℕ) (number : ℕ)
    → ¬ (HasNoLine known given.words at_word number)
never_without known given texts context is at_word number none =
    (one_lines known given.words texts).not_both context.line context.marker at_word number
    is.is_line none

-- Each answer that the table of a run allows is exact.

-- what is accepted is a value, and want is want of memory
want_on : {T : Type 0} {P Q : T → Type 0} → ((v : T) → P v → Q v) → (r : Result T ParseFailure)
    → IsAcceptedOrWant P (answer_of r) → IsValueOrWant Q r
want_on so x h = grind arith

-- what holds of each value that is accepted holds of the answer
sound_on : {T : Type 0} {Q : T → Type 0} (r : Result T ParseFailure)
    → ((v : T) → answer_of r ≡ Accepted v → Q v) → IfOk r Q
sound_on x h = grind arith

module _ {T : Type 0} {outcome : Outcome T} (describes : Shape → Type 0) (info : RunInfo)
    (known : Known) {names : List Names} {words : List (List ℕ)} {form : ProgramForm T}
    (given : Given) (law : FormLaw given.env outcome names words form) where
  -- the law on the words' line
  law_on : {context : Context} → IsContext known given context
      → FormLaw context.env outcome names words form
  law_on is = subst (λ env. FormLaw env outcome names words form) (sym is.env) law

  -- THE THEOREM: on words each answer of a run of a program is exact.
  pub answers_as_program : is_program form ≡ true → (r : Result T ParseFailure)
      → RunsWords T outcome describes info known given r → AnswersAsProgram T known form given r
  answers_as_program program r (ran context answer t is run) =
      let exact = runs_as_program program context (law_on is) (answer_of r)
      (run_ran T outcome describes info (beginning context) t r run) in
      record {
        sound = sound_on r (λ v e. record {
          context = context;
          on_line = is;
          read = exact.0 (context_spelled is) v e;
        });
        answered = λ texts v there.
            want_on (λ v read. record { context = context; on_line = is; read = read }) r
            (exact.1 v (subst (λ c. program_value form (line_cells c) v)
            (same_context given texts known there.context context there.on_line is) there.read));
      }
  answers_as_program program (Err f)
      (none_there at_word number context told none line name renders) = record {
        sound = tt;
        answered = λ texts v there. absurd (never_without known given texts there.context
            there.on_line at_word number none);
      }
  answers_as_program program (Err f) wanted = grind arith

-- Each answer to words keeps to the fields of a flat record.
module _ {T : Type 0} {outcome : Outcome T} (describes : Shape → Type 0) (info : RunInfo)
    (known : Known) (g : Grammar T) {words : List (List ℕ)} (given : Given)
    (law : FormLaw given.env outcome (keys_of g true) words (program_form g given.env)) where
  -- that of a record
  abbrev form : ProgramForm T
  form = program_form g given.env

  -- it keeps to them
  pub answers_by_fields : is_record form ≡ true → (r : Result T ParseFailure)
      → RunsWords T outcome describes info known given r → AnswersByFields T known g given r
  answers_by_fields flat r (ran context answer t is run) =
      let roles : Roles = product_roles (whole_program form) in
      let exact = runs_exactly flat context (law_on describes info known given law is) (answer_of r)
      (run_ran T outcome describes info (beginning context) t r run) in
      let here = λ (texts : All IsUtf8 given.words) (line : PiecesOf known form given). subst
      (λ c. Cut roles (line_cells c) line.cut_into)
      (same_context given texts known line.context context line.on_line is) line.cut in
      record {
        whole = sound_on r (λ v e. let read = exact.sound v e in record {
          is_value = record { context = context; on_line = is; read = read };
          together = cut_holds_together roles (record_law flat law).named (line_cells context)
              read.cut_into read.cut;
          no_surplus = has_no_surplus g given.env v read.cut read.read;
        });
        complete = λ texts line each. want_on
            (λ v read. record { context = context; on_line = is; read = read }) r
            (exact.complete line.cut_into (here texts line) each);
        refused = λ texts line none. sound_on r
            (exact.refused line.cut_into (here texts line) none);
      }
  answers_by_fields flat (Err f) (none_there at_word number context told none line name renders) =
      record {
        whole = tt;
        complete = λ texts there each. absurd (never_without known given texts there.context
            there.on_line at_word number none);
        refused = λ texts there none_has. tt;
      }
  answers_by_fields flat (Err f) wanted = record {
    whole = tt;
    complete = λ texts there each. refl;
    refused = λ texts there none_has. tt;
  }

-- options that are a flat record have a parser that is one
pub is_flat_form : {T : Type 0} (form : ProgramForm T) (names : List Names) (info : RunInfo)
    → is_flat_record form names info ≡ true → is_record form ≡ true
is_flat_form form names info e = (and_parts (is_record form) _ e).0

-- options that are a flat record are a program
pub flat_is_whole : {T : Type 0} (form : ProgramForm T) (names : List Names) (info : RunInfo)
    → is_flat_record form names info ≡ true → is_whole_program form names info ≡ true
flat_is_whole x names info e = grind (arith, and_parts)

-- options that are a program have a parser that is one
pub is_program_form : {T : Type 0} (form : ProgramForm T) (names : List Names) (info : RunInfo)
    → is_whole_program form names info ≡ true → is_program form ≡ true
is_program_form form names info e = (and_parts (is_program form) _ e).0

-- a value of an exact answer says what its parser says
pub tells_of_words : {T : Type 0} (known : Known) (g : Grammar T) (given : Given)
    (r : Result T ParseFailure) → AnswersAsProgram T known (program_form g given.env) given r
    → IfOk r (TellsOfWords known g given)
tells_of_words known g given (Ok v) exact = record {
  is_value = exact.sound;
  told = grammar_says_so g given.env (line_cells exact.sound.context) v exact.sound.read;
}
tells_of_words known g given (Err f) exact = tt
