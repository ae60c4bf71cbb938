use Rattle.bpaf_grammar.specs.Grammar.{outcome_of}
use Rattle.std.proofs.Common.{rules}
use Rattle.bench_rows.proofs.Grouping.{nested_by}
use Rattle.bench_rows.proofs.several.nested.Goals as goal

pub returns : goal.returns
returns g c = nested_by (outcome_of (g.F.Fields.grammar c.args.fields)) g.V.Told.told
    c.args.state.now
    c.tell.new.state c.tell.result c.tell.ensures (λ x y e. search rules)
