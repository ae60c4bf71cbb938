-- A word that is read before `--` is one of the words that stand there.
use Rattle.std.proofs.Common.{◌≡◌, ℕ, List, Option, ap, Bool, true, Some, subst, not}
use Rattle.std.proofs.Common.{option_and_then, refl, false}
use Rattle.std.specs.{Prelude.option_map, List.Contains}
use Rattle.bpaf_base.specs.declared.arg.Arg.TheVariants.{Word}
use Rattle.bpaf_base.specs.{declared.arg.Arg.Arg, Items.word_text}
use Rattle.bpaf_words.specs.{Line.Known, Line.IsKnownAs, Arguments.Given}
use Rattle.bpaf_line.specs.{Situation.Context, Situation.item_in, Taking.IsContext}
use Rattle.bpaf_laws.specs.Reading.{Share}
use Rattle.bpaf.specs.{Marker.words_before, Positional.PositionalReads}
use Rattle.bpaf_grammar.specs.declared.position.Position.TheVariants.{NonStrict}
use Rattle.bpaf.proofs.Sides.{all_spelled}
use Rattle.bpaf_record.proofs.Running.{each_at}

-- an item that reads as a word on the left side of `--` is that word
left_word : (at : Option Arg) (strict : Bool) (text : List ℕ)
    → option_and_then word_text at ≡ Some (strict, text) → not strict ≡ true → at ≡ Some (Word text)
left_word (Some (Word word)) strict text is left = ap (option_map (λ read. Word read.1)) is
left_word at strict text is left =
    let side = ap (option_map (λ (read : Bool × List ℕ). read.0)) is in cc

-- the text of a word that is read before `--` is one of the words there
pub word_before : {T : Type 0} {means : List ℕ → T → Type 0} (known : Known)
    → ((c : ℕ) → ¬ (IsKnownAs false true known.names c))
    → (given : Given) {context : Context} {share : Share} {v : T} → IsContext known given context
    → (read : PositionalReads T means NonStrict context share v)
    → Contains (words_before given.words) read.text
word_before known none given {context = context} is read =
    let before = words_before given.words in
    let IsAmong : Arg → Type 0 =
    λ item. (text : List ℕ) → item ≡ Word text → Contains before text in
    each_at IsAmong is
    (λ word among items. all_spelled IsAmong known word (λ c attached rest e text other. cc)
    (λ c text other. cc) (λ name attached rest e text other. cc) (λ value text other. cc)
    (λ text same. let own : word ≡ text = cc in subst (Contains before) own among)
    (λ c text is. absurd (none c is)) items) (λ behind text other. cc) read.place (Word read.text)
    (left_word (item_in context read.place) read.strict read.text read.is read.accepted) read.text
    refl
