use Rattle.bpaf_grammar.specs.Grammar.{fast_outcome_of}
use Rattle.std.proofs.Common.{rules}
use Rattle.bpaf_doc.specs.Shape.{part_of}
use Rattle.bench_rows.specs.Levels.{begun, headless, wanted}
use Rattle.bench_rows.proofs.Grouping.{begun_by}
use Rattle.bench_rows.proofs.groups.grouped.Goals as goal

pub returns-in-Ok : goal.returns-in-Ok
returns-in-Ok g c =
    begun c.in-Ok.group.first _ _ c.in-Ok.ensures.first
    (begun_by (fast_outcome_of (g.F.Fields.grammar c.args.fields)) g.V.Told.told
    (part_of c.in-Ok.group.first)
    c.args.state.now c.tell.new.state c.tell.result (rw c.in-Ok.ensures.inner at c.tell.ensures)
    (λ x y e. search rules))

pub returns-in-Err-NoFirstItem : goal.returns-in-Err-NoFirstItem
returns-in-Err-NoFirstItem g c = headless _ _ (search rules) (search rules)

pub returns-in-Err-Memory : goal.returns-in-Err-Memory
returns-in-Err-Memory g c = wanted _ (search rules)
