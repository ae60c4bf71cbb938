use Rattle.std.proofs.Common.{sym, arith, ◌∙◌, ap, ap₂, take, true}
use Rattle.std.proofs.lemmas.List.{take_all}
use Rattle.bpaf_exact.specs.{ProgramForm.are_words_apart, Pieces.are_all_apart}
use Rattle.bpaf_grammar.specs.Grammar.{choice, choices_of, command_words, keys_of}
use Rattle.bpaf_record.specs.{Part.chosen_part, Part.form_part, Program.program_form}
use Rattle.bpaf_record.proofs.Parts.{choices_keys, choices_words, one_more, choice_part_is}
use Rattle.bpaf_record.proofs.choices.join_rest.Goals as goal

pub loop-index-preserved : goal.loop-index-preserved
loop-index-preserved g c = (
  omega arith,
  λ variables. let of = g.P.Parser.grammar in let ps = c.args.parsers.now in let i =
      c.loop-index.index in let d = c.index-parsers-index.result in let before = choices_of of
      (take i ps) in c.or_else-part.ensures ∙ (ap₂
      (λ keys words. chosen_part keys words c.loop-index.part c.part.result)
      (c.all_keys_of-keys_apart.ensures ∙ ap (λ names. are_all_apart names (keys_of (of d) true))
      (sym (choices_keys of (take i ps) true))) (c.all_words_of-words_apart.ensures ∙ ap
      (λ words. are_words_apart words (command_words (of d))) (sym (choices_words of (take i ps))))
      ∙ (ap₂ (chosen_part (are_all_apart (keys_of before true) (keys_of (of d) true))
      (are_words_apart (command_words before) (command_words (of d))))
      (c.loop-index.invariant.1 variables) (c.part.ensures variables)
      ∙ (choice_part_is before (of d)
      variables ∙ ap
      (λ g. form_part (program_form g variables)) (ap (λ p. choice before (of p))
      c.index-parsers-index.is ∙ sym
      (one_more of ps i d c.loop-index.invariant.0 c.loop-index-test.true))))),
)

pub returns : goal.returns
returns g c variables = grind (arith, take_all)
