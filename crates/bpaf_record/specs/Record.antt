-- Flat records and programs with commands, and their keys and words by the words that spell them.
use Rattle.std.specs.Prelude.{IsUtf8, Result, Option, false, Bool, ◌&&◌, IfOk, List, true, None, Ok}
use Rattle.bpaf_exact.specs.ProgramForm.{product_reading, product_roles, HoldsTogether, RecordValue}
use Rattle.bpaf_exact.specs.ProgramForm.{whole_program, program_value, ProgramForm, is_program}
use Rattle.bpaf_exact.specs.ProgramForm.{line_cells, RunAnswer, is_record, Accepted, NoMemory}
use Rattle.std.specs.Prelude.{Some, ◌≡◌, All, Err, not, ℕ}
use Rattle.std.specs.{List.list_all, List.Contains, Result.IfErr}
use Rattle.bpaf.specs.{Run.IsNotMemoryFailure, Marker.words_before, Info.RunInfo}
use Rattle.bpaf_base.specs.Items.{is_text_among, is_key_of, is_among}
use Rattle.bpaf_base.specs.declared.arg.Arg.{Arg}
use Rattle.bpaf_doc.specs.Names.{Names}
use Rattle.bpaf_words.specs.{Line.Spells, Line.Known, Line.Items, Arguments.Given}
use Rattle.bpaf_line.specs.{declared.failure.ParseFailure.ParseFailure, Situation.Context}
use Rattle.bpaf_line.specs.Taking.{IsContext}
use Rattle.bpaf_laws.specs.Command.{is_one_of}
use Rattle.bpaf_exact.specs.{Pieces.LinePiece, Pieces.Cut, ProgramForm.Refusal}
use Rattle.bpaf_grammar.specs.Grammar.{Grammar}
use Rattle.bpaf_record.specs.Program.{HasNoSurplus, program_form, are_unusual, scope_says}
use Rattle.bpaf_line.specs.declared.failure.ParseFailure.TheVariants as failure

-- a flat record none of whose keys shares a name with those of help and version
abbrev pub is_flat_record : {T : Type 0} → ProgramForm T → List Names → RunInfo → Bool
is_flat_record form keys info = is_record form && are_unusual keys info

-- the answer of a run, as exactness sees it: a text that was asked for is no value
abbrev pub answer_of : {T : Type 0} → Result T ParseFailure → RunAnswer T
answer_of (Ok v) = Accepted v
answer_of (Err (failure.Stdout doc full)) = Refusal
answer_of (Err (failure.Stderr doc)) = Refusal
answer_of (Err failure.Memory) = NoMemory

-- v is a value of the record on words: on their line, by the names that it knows
pub record IsValueOf {T : Type 0} (known : Known) (form : ProgramForm T) (given : Given) (v : T)
    : Type 0 where
  pub context : Context
  pub on_line : IsContext known given context
  pub read : RecordValue (product_roles (whole_program form))
      (product_reading (whole_program form)).value context v

-- v is a value of the record on words whose line, as it is cut for v, holds together and has
-- nothing too much
pub record HasWholeLine {T : Type 0} (known : Known) (g : Grammar T) (given : Given) (v : T)
    : Type 0 where
  pub is_value : IsValueOf known (program_form g given.env) given v
  pub together : HoldsTogether (product_roles (whole_program (program_form g given.env)))
      (line_cells is_value.context) is_value.read.cut_into
  pub no_surplus : HasNoSurplus g is_value.read.cut_into

-- the pieces that the line of words is cut into for the record
pub record PiecesOf {T : Type 0} (known : Known) (form : ProgramForm T) (given : Given) : Type 0
  where
    pub context : Context
    pub on_line : IsContext known given context
    pub cut_into : List LinePiece
    pub cut : Cut (product_roles (whole_program form)) (line_cells context) cut_into

-- each field of the record has a value on its portion of these
abbrev pub EachHasValue : {T : Type 0} → ProgramForm T → List LinePiece → Type 0
EachHasValue form = (product_reading (whole_program form)).each

-- an answer is one of these values, or want of memory
abbrev pub IsValueOrWant : {T : Type 0} → (T → Type 0) → Result T ParseFailure → Type 0
IsValueOrWant value (Ok v) = value v
IsValueOrWant value (Err f) = f ≡ failure.Memory

-- An answer to words, field by field. That fields have values is said of words that are texts.
pub record AnswersByFields (T : Type 0) (known : Known) (g : Grammar T) (given : Given)
    (r : Result T ParseFailure) : Type 0 where
  -- it is a value only where that is one of the record's, on a whole line
  pub whole : IfOk r (HasWholeLine known g given)
  -- where each field has a value on its portion, one made of such is answered, or want of memory
  pub complete : All IsUtf8 given.words
      → (line : PiecesOf known (program_form g given.env) given)
      → EachHasValue (program_form g given.env) line.cut_into
      → IsValueOrWant (IsValueOf known (program_form g given.env) given) r
  -- where a field has none, it is no value
  pub refused : All IsUtf8 given.words → (line : PiecesOf known (program_form g given.env) given)
      → ¬ (EachHasValue (program_form g given.env) line.cut_into) → IfOk r (λ v. ⊥)

-- a program none of whose own keys shares a name with those of help and version
abbrev pub is_whole_program : {T : Type 0} → ProgramForm T → List Names → RunInfo → Bool
is_whole_program form keys info = is_program form && are_unusual keys info

-- v is a value of the program on words: on their line, by the names that it knows
pub record IsProgramValueOf {T : Type 0} (known : Known) (form : ProgramForm T) (given : Given)
    (v : T) : Type 0 where
  pub context : Context
  pub on_line : IsContext known given context
  pub read : program_value form (line_cells context) v

-- v is a value of the program on words, and says so of the cells of their line
pub record TellsOfWords {T : Type 0} (known : Known) (g : Grammar T) (given : Given) (v : T)
    : Type 0 where
  pub is_value : IsProgramValueOf known (program_form g given.env) given v
  pub told : scope_says g given.env (line_cells is_value.context) v

-- An answer to words is exact. That words have a value is said of words that are texts.
pub record AnswersAsProgram (T : Type 0) (known : Known) (form : ProgramForm T) (given : Given)
    (r : Result T ParseFailure) : Type 0 where
  -- it is a value only where that is one of the program's
  pub sound : IfOk r (IsProgramValueOf known form given)
  -- where the program has a value, it is one of its values, or want of memory
  pub answered : All IsUtf8 given.words → (v : T) → IsProgramValueOf known form given v
      → IsValueOrWant (IsProgramValueOf known form given) r

-- all that is said of an answer of a run of a program
pub record ProgramRan {T : Type 0} (agrees : Type 0)
    (answers spared answers_exactly : Result T ParseFailure → Type 0)
    (refuses : ParseFailure → Type 0) (deals tells : T → Type 0) (r : Result T ParseFailure)
    : Type 0 where
  pub outcome : answers r
  pub named : IfErr r refuses
  pub dealt : IfOk r deals
  pub memory_is_never_caught : IsNotMemoryFailure r → spared r
  pub fields : agrees → IfOk r tells
  pub exact : agrees → answers_exactly r

-- an answer is None only where it isn't so; else it is, and this is said of the answer
abbrev pub NoneUnless : {T : Type 0} → Bool → (Result T ParseFailure → Type 0)
    → Result (Option T) ParseFailure → Type 0
NoneUnless is said (Ok None) = is ≡ false
NoneUnless is said (Ok (Some v)) = (is ≡ true) × said (Ok v)
NoneUnless is said (Err f) = (is ≡ true) × said (Err f)

-- an item that passes a test is one of the items that a word spells
pub record SpellsItem (known : Known) (test : Arg → Bool) (word : List ℕ) : Type 0 where
  pub items : List Arg
  pub spells : Spells known word (Items items)
  pub key : Arg
  pub among : Contains items key
  pub is_key : test key ≡ true

-- one of the words before the first `--` spells such an item
pub record IsSpelledItem (known : Known) (test : Arg → Bool) (words : List (List ℕ)) : Type 0
  where
    pub word : List ℕ
    pub before : Contains (words_before words) word
    pub spells : SpellsItem known test word

-- one of them spells a key with one of these names, by what a program knows
abbrev pub WasSpelled : Known → Names → List (List ℕ) → Type 0
WasSpelled known names words = IsSpelledItem known (is_key_of names) words

-- one of the words before the first `--` spells a word that opens a command of these words, by what
-- a program knows
abbrev pub WasCalled : Known → List (List ℕ) → List (List ℕ) → Type 0
WasCalled known opening words = IsSpelledItem known (is_one_of opening) words

-- none of the short names is one of the others
abbrev pub has_no_short : List ℕ → List ℕ → Bool
has_no_short others own = list_all (λ name. not (is_among others name)) own

-- none of the long names is one of the others
abbrev pub has_no_long : List (List ℕ) → List (List ℕ) → Bool
has_no_long others own = list_all (λ name. not (is_text_among others name)) own
