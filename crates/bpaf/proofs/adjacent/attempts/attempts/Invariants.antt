-- All is as before, and the next attempt ends where the one before says.
use Rattle.bpaf_grammar.specs.Grammar.{outcome_of}
use Rattle.std.proofs.Common.{◌≡◌, ◌≤◌, length}
use Rattle.bpaf_laws.specs.Adjacent.{Narrowed}
use Rattle.bpaf.proofs.adjacent.attempts.attempts.Given as goal

abbrev pub invariant-loop-value : goal.invariant-loop-value
invariant-loop-value g l = record {
  same : l.state ≡ l.fn.state;
  narrowed : Narrowed g.row.T.Denot (outcome_of (g.P.Parser.grammar l.parser)) l.fn.state l.place
      l.end;
  inside : l.end ≤ length l.fn.state.context.line;
}

abbrev pub decreases-loop-value : goal.decreases-loop-value
decreases-loop-value g l = l.end
