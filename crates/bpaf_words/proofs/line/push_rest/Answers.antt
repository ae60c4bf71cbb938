use Rattle.bpaf_words.specs.Arguments.{words_in}
use Rattle.std.proofs.Common.{ap, ◌∙◌, ◌++◌, [], ◌∷◌}
use Rattle.bpaf_base.specs.declared.arg.Arg.TheVariants.{PosWord}
use Rattle.bpaf_words.proofs.LineLemmas.{rest_moved, texts_more}
use Rattle.bpaf_words.proofs.line.push_rest.Goals as goal

-- src/line.rt:43:5
pub loop-index-preserved : goal.loop-index-preserved
loop-index-preserved c = (
  rest_moved (words_in c.args.words) c.loop-index.index c.at.result.now _ _ _ c.at.ensures
      c.loop-index.invariant.0 (c.in_ok-push.ensures.items
      ∙ ap (λ t. c.loop-index.items.items ++ PosWord t ∷ []) c.in_ok-new.ensures),
  texts_more (words_in c.args.words) c.args.from c.loop-index.index c.at.result.now
      c.loop-index.invariant.1 c.at.ensures c.at.utf8,
)
