-- Parsers of programs all of whose values on the same words look alike.
use Rattle.std.proofs.Common.{◌≡◌, ◌∙◌, All, Bool, IsUtf8, List, Option, ap, arith, map}
use Rattle.bpaf_record.proofs.LookAlike.{IsSeen, agrees_seen, argument_seen, closed_seen}
use Rattle.bpaf_record.proofs.LookAlike.{fallback_seen, flag_seen, product_seen, repeat_seen}
use Rattle.bpaf_program.specs.KnownParser.{IsValueBy, MeansText, known_con, known_default}
use Rattle.bpaf_program.specs.KnownParser.{known_guard, known_many, known_map, known_switch, makes}
use Rattle.std.proofs.Common.{string_bytes, sym, true≢false, ℕ}
use Rattle.bpaf_doc.specs.{declared.doc.Piece.Piece, Names.Names}
use Rattle.bpaf_words.specs.{Arguments.Given}
use Rattle.bpaf_text.specs.{Meaning.SpellsUnsigned, Named.KeyWithValue}
use Rattle.bpaf_exact.proofs.OneView.{number_one, values_look_one}
use Rattle.bpaf_exact.specs.{ProgramForm.ProgramForm, ProgramForm.program_value, Pieces.Cells}
use Rattle.bpaf_exact.specs.Says.{Alike, Respects}
use Rattle.bpaf_grammar.specs.Grammar.{FieldsGrammar, Grammar, argument, word}
use Rattle.bpaf_grammar.specs.declared.position.Position.{Position}
use Rattle.bpaf_record.specs.Record.{IsProgramValueOf}
use Rattle.bpaf_record.proofs.{LookAlike.view_seen, LookAlike.word_seen, Running.same_context}
use Rattle.bpaf_record.proofs.FormLaws.{law_of}
use Rattle.bpaf_program.specs.KnownParser.{program_names}

-- a switch
pub switch_seen : {names : Names} {help : Option (List Piece)}
    → IsSeen (λ b. b) (known_switch names help)
switch_seen = flag_seen (λ value v w a b. a ∙ sym b)

-- of a text its bytes are seen
one_text : (text : List ℕ) → Alike string_bytes (MeansText text)
one_text text v w a b = a ∙ sym b

-- an argument that is a text
pub text_seen : {key : KeyWithValue} → IsSeen string_bytes (argument MeansText key)
text_seen = argument_seen one_text

-- one that is a number
pub number_seen : {bits : ℕ} {key : KeyWithValue}
    → IsSeen (λ n. n) (argument (SpellsUnsigned bits) key)
number_seen {bits} = argument_seen (number_one bits)

-- a word that is a text
pub text_word_seen : {position : Position} {metavar : List ℕ} {help : Option (List Piece)}
    → IsSeen string_bytes (word MeansText position metavar help)
text_word_seen = word_seen one_text

module _ {T X : Type 0} {see : T → X} {g : Grammar T} (is : IsSeen see g) where
  -- a repeat
  pub many_seen : IsSeen (λ values. map see values.items) (known_many g)
  many_seen = repeat_seen (record {
    same = λ x y v w e f g. ap (map see) f ∙ (e ∙ sym (ap (map see) g));
    apart = λ x y v e f n. n;
  }) is

  -- what is this value where it is left out
  pub default_seen : (value : T) → IsSeen see (known_default value g)
  default_seen value = fallback_seen (λ v w a b. ap see (a ∙ sym b)) tt is

  -- a guard, which checks what is seen
  pub guard_seen : (check : X → Bool) {message : List ℕ}
      → IsSeen see (known_guard see check message g)
  guard_seen check = closed_seen (record {
    same = λ x y v w e f g. ap see f.0 ∙ (e ∙ sym (ap see g.0));
    apart = λ x y v e f n. absurd (true≢false (f.1 ∙ (ap check e ∙ sym n)));
  }) is

-- all values of the program on the same words look alike
pub program_looks_one : {T X : Type 0} {see : T → X} (g : Grammar T) → IsSeen see g
    → (given : Given) → All IsUtf8 given.words → Alike see (IsValueBy g given)
program_looks_one {T} {see = see} g is given texts = on_one_line (values_look_one see
    (law_of g (agrees_seen is) given.env) (view_seen is given.env)) texts
  where
    on_one_line : {form : ProgramForm T} → ((cs : Cells) → Alike see (program_value form cs))
        → All IsUtf8 given.words → Alike see (IsProgramValueOf (program_names g) form given)
    on_one_line = grind (arith, same_context)

module _ {A B X Y : Type 0} {see : A → X} (make : A → B) (look : B → Y)
    (same : (x y : A) → see x ≡ see y → look (make x) ≡ look (make y)) where
  -- what is made of what looks alike does
  made_alike : Respects A B X Y see look (makes make)
  made_alike = record {
    same = λ x y v w e f g. ap look f ∙ (same x y e ∙ sym (ap look g));
    apart = λ x y v e f n. n;
  }

  -- by `map`
  pub map_seen : {g : Grammar A} → IsSeen see g → IsSeen look (known_map make g)
  map_seen is = closed_seen made_alike is

  -- by a constructor
  pub con_seen : {g : FieldsGrammar A} → IsSeen see g → IsSeen look (known_con make g)
  con_seen is = product_seen made_alike is
