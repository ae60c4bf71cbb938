use Rattle.bpaf.proofs.Remembering.{now_remembered, not_remembered}
use Rattle.bpaf.proofs.adjacent.failures.Remembered.keep.Goals as goal

pub returns-then-self-left-clause-ok : goal.returns-then-self-left-clause-ok
returns-then-self-left-clause-ok c =
    not_remembered c.args.mark.now c.requires.keeps c.args.error c.requires.sound c.requires.start
    c.requires.end
    c.count_present-left.ensures.count c.if-self-left.true

pub returns-in-Ok-clause-ok : goal.returns-in-Ok-clause-ok
returns-in-Ok-clause-ok c =
    now_remembered c.args.mark.now c.requires.keeps c.args.error c.requires.sound c.requires.start
    c.requires.end
    c.count_present-left.ensures.count c.count_present-left.ensures.same c.if-self-left.false
    c.in-Ok.ensures.fit c.in-Ok.ensures.again c.replace.ensures
