use Rattle.std.proofs.Common.{[], ◌∷◌}
use Rattle.bpaf_base.specs.declared.arg.Arg.TheVariants.{Word}
use Rattle.bpaf_words.specs.Line.{by_dash, plain, Items}
use Rattle.bpaf_words.proofs.split.split_alone.Goals as goal

pub returns-in_ok-push_word-in-None : goal.returns-in_ok-push_word-in-None
returns-in_ok-push_word-in-None c names = (
  Word c.args.word.now ∷ [],
  by_dash (Items (Word c.args.word.now ∷ []))
      (λ is. c.in-None.ensures is.1.digits is.1.is) (plain c.in-None.ensures),
  c.in_ok-push_word-in-None.ensures,
)
