-- The names that the loop has passed are not set.
use Rattle.std.proofs.Common.{◌≡◌, drop}
use Rattle.bpaf_laws.specs.Reading.{first_set}
use Rattle.bpaf_keys.proofs.environment.first_set.Given as goal

abbrev pub invariant-loop-name : goal.invariant-loop-name
invariant-loop-name l =
    first_set l.state.context.env (drop l.name-index l.names) ≡ first_set l.state.context.env
    l.names
