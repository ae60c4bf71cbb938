use Rattle.std.proofs.Common.{List, None, Option, Some, rules, ℕ}
use Rattle.bpaf_exact.proofs.Leaves.{owns}
use Rattle.bpaf_record.proofs.Answered.{answer_says, both_spelled, closed_turn, some_turn}
use Rattle.bpaf_record.proofs.Answered.{value_line}
use Rattle.bpaf_program.proofs.OfCommands as of
use Rattle.bpaf_program.specs.OfCommands.{IsValueBy}
use Rattle.example_guide.specs.Login as login
use Rattle.example_guide.specs.declared.login.Login.{Login}
use Rattle.example_guide.proofs.login.read_login.Goals as goal

-- where someone logs in, the line has a piece of both keys, which a word spells
both_given : {words : List (List ℕ)} {v : Option Login}
    → IsValueBy login.login_parser (login.login_given words) v → login.IsByBoth words v
both_given {v = None} value some = absurd cc
both_given {v = Some x} value some = both_spelled (value_line value) (owns login.user_key)
    (owns login.password_key) (λ x a. a) (λ x a. a) (closed_turn _ (some_turn value.read.turn)).1

pub run_program-requires-clause-can : goal.run_program-requires-clause-can
run_program-requires-clause-can c = (
  search rules,
  of.optional_known (of.con_known login.login_of _ (of.both_known _ _
      (of.argument_known of.MeansText login.user_key (search rules)) (of.last_known _
      (of.argument_known of.MeansText login.password_key (search rules)))) (λ x v e. search rules))
      (search rules),
)

pub returns-clause-exact : goal.returns-clause-exact
returns-clause-exact c = of.exact_for login.login_parser (c.run_program.ensures.exact tt)
    c.into_options.ensures.info (search rules) (of.are_texts c.args.words.now)

pub returns-clause-by_both : goal.returns-clause-by_both
returns-clause-by_both c = answer_says _ (of.exact_for login.login_parser
    (c.run_program.ensures.exact tt) c.into_options.ensures.info (search rules)
    (of.are_texts c.args.words.now)).sound (λ v value. both_given value)
