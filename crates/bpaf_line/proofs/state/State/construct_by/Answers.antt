use Rattle.std.proofs.Common.{refl, subst, All, IsUtf8}
use Rattle.bpaf_words.specs.{Arguments.env_of, Arguments.given_name, Line.known_at, Line.IsLine}
use Rattle.bpaf_words.proofs.LineLemmas.{marker_of_line}
use Rattle.bpaf_line.specs.Situation.{Context}
use Rattle.bpaf_line.proofs.state.State.construct_by.Goals.{In_ok-of_line}
use Rattle.bpaf_line.proofs.state.State.construct_by.Goals as goal

-- the context of the line that was read
context_is : In_ok-of_line → Context
context_is c = record {
  line = c.in_ok-line.line.items.items;
  marker = c.in_ok-line.line.marker;
  env = env_of c.args.args;
  name = given_name c.args.args;
}

pub of_line-requires : goal.of_line-requires
of_line-requires c = marker_of_line _ _ _ _ c.in_ok-line.ensures.answer

pub returns-clause-texts : goal.returns-clause-texts
returns-clause-texts c = subst (All IsUtf8) c.words.ensures c.in_ok-line.ensures.texts

pub returns-clause-answer : goal.returns-clause-answer
unfolding context_is
returns-clause-answer c = (
  context_is c,
  record {
    is_line = subst
        (λ words. IsLine (known_at c.args.numbers
        (record { flags = c.args.short_flags.now; arguments = c.args.short_args.now })) words
        (context_is c).line (context_is c).marker) c.words.ensures c.in_ok-line.ensures.answer;
    env = refl;
    name = refl;
  },
  c.in_ok-of_line.ensures,
)
