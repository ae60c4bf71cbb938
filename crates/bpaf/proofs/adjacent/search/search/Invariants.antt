-- All is as before, and the places before this one were tried in vain.
use Rattle.bpaf_grammar.specs.Grammar.{outcome_of}
use Rattle.std.proofs.Common.{◌≡◌, ◌≤◌, ◌-◌}
use Rattle.bpaf_doc.specs.Shape.{part_of}
use Rattle.bpaf.specs.Remembering.{IsRemembered}
use Rattle.bpaf.proofs.Remembering.{InVain}
use Rattle.bpaf.proofs.adjacent.search.search.Given as goal

abbrev pub invariant-loop-places : goal.invariant-loop-places
invariant-loop-places g l = record {
  same : l.state ≡ l.fn.state;
  begun : l.fn.state.start ≤ l.from;
  sound : IsRemembered l.fn.state l.best;
  vain : InVain g.row.T.Denot (outcome_of (g.P.Parser.grammar l.parser)) l.fn.state
      (part_of l.first) l.from
      l.best;
}

abbrev pub decreases-loop-places : goal.decreases-loop-places
decreases-loop-places g l = l.fn.state.end - l.from
