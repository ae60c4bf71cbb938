use Rattle.std.proofs.Common.{arith}
use Rattle.std.specs.contracts.prelude.UnitClone.TheImpl.{is_clone-value}
use Rattle.bpaf_batteries.proofs.Counting.{keys_counted}
use Rattle.bpaf_batteries.proofs.counts.KeyCountsParserTuple2UsizeUsize.eval.Goals as goal

pub returns-clause-outcome : goal.returns-clause-outcome
returns-clause-outcome c = grind arith

pub returns-clause-keys_are_counted : goal.returns-clause-keys_are_counted
returns-clause-keys_are_counted c = keys_counted is_clone-value.it c.args.self.now c.args.state.now
    c.set_current.new.self c.eval_fields-counts.result (returns-clause-outcome c)
