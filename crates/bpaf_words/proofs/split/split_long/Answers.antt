use Rattle.std.proofs.Common.{rules, [], ◌∷◌, ◌++◌, codes, true, false, ap, ◌∙◌}
use Rattle.std.proofs.lemmas.Result.{on_ok_weaker}
use Rattle.bpaf_words.specs.Line.{long, long_value}
use Rattle.bpaf_base.specs.declared.arg.Arg.TheVariants.{Long, ArgWord}
use Rattle.bpaf_words.proofs.LineLemmas.{no_equals, at_equals}
use Rattle.bpaf_words.proofs.split.split_long.Goals as goal

pub returns-in_ok-push-in-None : goal.returns-in_ok-push-in-None
returns-in_ok-push-in-None c names = (
  Long c.args.name.now false c.args.word.now ∷ [],
  long c.args.name.now c.requires.word c.requires.name
      (no_equals c.args.name.now c.in-None.ensures.cases),
  search rules,
)

pub returns-in_ok-new-in-Some-2 : goal.returns-in_ok-new-in-Some-2
returns-in_ok-new-in-Some-2 c =
    let parts = at_equals c.args.name.now c.in-Some.front c.in-Some.value c.in-Some.ensures.cases in
    on_ok_weaker c.push_attached.result
    (λ e names. (
      Long c.in-Some.front.now true c.args.word.now ∷ ArgWord c.in-Some.value.now ∷ [],
      long_value c.in-Some.front.now c.in-Some.value.now
          (c.requires.word ∙ ap (λ x. codes "--" ++ x) parts.0) parts.1,
      search rules,
    ))
    c.push_attached.ensures
