use Rattle.std.proofs.Common.{ap, subst, ◌∙◌}
use Rattle.bpaf_line.specs.{Taking.IsWinner, Taking.ConflictsSaved, Marks.undone, Marks.redone}
use Rattle.bpaf_laws.proofs.ChoiceLaws.{first_wins, second_wins}
use Rattle.bpaf_laws.specs.Choice.{branch_of}
use Rattle.bpaf_choice.proofs.table.value_of_winner.Goals as goal

pub returns-then-here-clause-ok : goal.returns-then-here-clause-ok
returns-then-here-clause-ok g c =
    let s = c.args.state.now in
    let mark = c.args.mark in
    let this = redone c.args.this (undone mark s) in
    let place = c.in-Some.place in
    let t = c.save_conflicts.new.self in
    let winner =
    subst (IsWinner s this) (λ i. (c.if-here.true i, c.in-Some.is i))
    c.pick_winner-here.ensures.winner in
    let saved =
    subst (λ m. ConflictsSaved m (redone c.args.this (undone mark m)) place t)
    c.pick_winner-here.ensures.same (c.in_ok-save_conflicts.ensures.ok mark) in
    second_wins (branch_of c.args.x this) (branch_of c.args.y s) place t winner saved

pub returns-clause-ok : goal.returns-clause-ok
returns-clause-ok g c =
    let s = c.args.state.now in
    let mark = c.args.mark in
    let this = redone c.args.this (undone mark s) in
    let place = c.in-Some.place in
    let t = c.save_conflicts-2.new.self in
    let same = c.pick_winner-here.ensures.same in
    let winner =
    subst (IsWinner s this) (λ i. (c.if-here.false i, c.in-Some.is i))
    c.pick_winner-here.ensures.winner in
    let resumed = c.in_ok-resume-2.ensures.ok ∙ ap (λ m. redone c.args.this (undone mark m)) same in
    let that =
    ap (redone c.in_ok-that.that) c.in_ok-resume-2.ensures.back
    ∙ (c.in_ok-that.ensures.again ∙ same) in
    let saved =
    subst (λ loser. ConflictsSaved this loser place t) that
    (subst (λ m. ConflictsSaved m (redone c.in_ok-that.that (undone mark c.resume-2.new.state))
    place t) resumed
    (c.in_ok-save_conflicts-2.ensures.ok mark)) in
    first_wins (branch_of c.args.x this) (branch_of c.args.y s) place t winner saved
