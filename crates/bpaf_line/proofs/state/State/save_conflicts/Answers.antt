use Rattle.std.proofs.Common.{◌∙◌, ◌++◌, ap, sym, subst, not, ◌&&◌, if◌then◌else◌, Some, None}
use Rattle.bpaf_line.specs.Situation.{is_on, is_taken, with_conflicts}
use Rattle.bpaf_line.specs.{Marks.undone, Marks.redone, Taking.ConflictsSaved, Inside.situation_of}
use Rattle.bpaf_line.proofs.Marks.{conflicts_saved, excluded_there}
use Rattle.std.proofs.lemmas.Result.{on_ok_weaker}
use Rattle.bpaf_line.proofs.state.State.save_conflicts.Goals as goal

pub returns-clause-ok : goal.returns-clause-ok
returns-clause-ok c = on_ok_weaker c.exclude-saved.result (λ made mark.
    let s = c.args.self.now in
    let pairs = made.0 in
    let taken = c.as_slice.ensures ∙ ap (λ steps. steps.taken) c.loser.view_is in
    let kept = ap (λ held. held.items ++ pairs) c.replace-conflicts.ensures.value in
    let saved = ap (λ xs. record (situation_of c.self.inside) { conflicts = xs })
    (made.1 ∙ kept) ∙ ap (λ t. with_conflicts t pairs) c.self.view_is in
    subst (ConflictsSaved s (redone c.args.loser.now (undone mark s)) c.args.winner) (sym saved)
    (conflicts_saved s (redone c.args.loser.now (undone mark s)) c.args.winner pairs
    (λ p. made.2 p
    ∙ (ap (λ places. if not (is_taken (situation_of c.self.inside) p) && is_on places p
    then Some c.args.winner else None) taken
    ∙ (ap (λ t. if not (is_taken t p) && is_on c.args.loser.now.taken p
    then Some c.args.winner else None) c.self.view_is
    ∙ excluded_there s mark c.args.loser.now c.args.winner p)))))
    c.exclude-saved.ensures.ok
