use Rattle.bench_rows.proofs.Grouping.{accepted_by}
use Rattle.bench_rows.proofs.one_text.OneText.eval_by.Goals as goal

pub returns : goal.returns
returns g c = accepted_by c.args.self.now.text c.requires.accepts c.in_ok-copy.ensures
    c.args.self.now.anywhere c.args.state.now _ _ c.eval.ensures
