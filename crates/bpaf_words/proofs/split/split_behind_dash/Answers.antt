use Rattle.std.proofs.Common.{◌≡◌, [], ◌∷◌, true, false, sym, subst, ◌∙◌}
use Rattle.bpaf_base.specs.declared.arg.Arg.TheVariants.{Word}
use Rattle.bpaf_words.specs.Line.{IsNumber, number_word}
use Rattle.bpaf_words.proofs.LineLemmas.{alone_by_any}
use Rattle.bpaf_words.proofs.split.split_behind_dash.Goals.{else-numbers-via-then-numbers+else-is_number}
use Rattle.bpaf_words.proofs.split.split_behind_dash.Goals.{else-numbers-via-else-numbers}
use Rattle.bpaf_words.proofs.split.split_behind_dash.Goals as goal

pub returns-then-is_number : goal.returns-then-is_number
returns-then-is_number c names = (
  Word c.args.word.now ∷ [],
  number_word (c.if-numbers.true, subst IsNumber (sym c.requires.dashed) c.if-is_number.ensures),
  c.in_ok-push_word.ensures,
)

pub returns : goal.returns
returns c = alone_by_any c.args.numbers c.args.word.now _ _ _
    (λ is. elim c.else-numbers.branch [
      | else-numbers-via-then-numbers+else-is_number w ↦ w.if-is_number.ensures
          (subst IsNumber c.requires.dashed is.1)
      | else-numbers-via-else-numbers w ↦
          (let e : false ≡ true = sym w.if-numbers.false ∙ is.0 in cc)
    ])
    c.split_dashed.ensures
