use Rattle.bpaf_grammar.specs.Laws.{lawful_of}
use Rattle.std.proofs.Common.{refl, sym, ap, ◌∙◌}
use Rattle.bpaf_line.specs.Situation.{Situation}
use Rattle.bpaf.specs.Remembering.{failure_of, skipped, found}
use Rattle.bpaf.proofs.Remembering.{attempts_gone, back_at, wanted_at, failed_at}
use Rattle.bpaf.proofs.adjacent.search.try_at.Goals as goal

pub returns-in_err-takes_item-clause-tried : goal.returns-in_err-takes_item-clause-tried
returns-in_err-takes_item-clause-tried g c =
    wanted_at _ c.takes_item.ensures.same c.in_err-takes_item.ensures.takes c.from_residual.ensures
    refl

pub returns-then-not-branch-clause-tried : goal.returns-then-not-branch-clause-tried
returns-then-not-branch-clause-tried g c = rw c.takes_item.ensures.same
    (skipped (rw c.if-not-branch.true at c.in_ok-takes_item.ensures.takes))

pub returns-in-Ok-clause-tried : goal.returns-in-Ok-clause-tried
returns-in-Ok-clause-tried g c =
    found _ _ (rw c.if-not-branch.false at c.in_ok-takes_item.ensures.takes)
    (rw (c.takes_item.ensures.same, c.in-Ok.is) at c.attempts.ensures)

pub keep-kept-requires : goal.keep-kept-requires
keep-kept-requires g c =
    let back = attempts_gone (lawful_of (g.P.Parser.grammar c.args.parser.now))
    c.takes_item.ensures.same
    c.mark-mark.ensures.fits c.mark-mark.ensures.back c.attempts.ensures in
    let same = c.takes_item.ensures.same ∙ sym back.back in
    record {
      sound = rw back.back c.requires.sound;
      fits = back.fits;
      keeps = back.keeps;
      start = c.scope-scope.ensures.start ∙ ap (λ (x : Situation). x.start) same;
      end = c.scope-scope.ensures.stop ∙ ap (λ (x : Situation). x.end) same;
    }

pub undo-requires : goal.undo-requires
undo-requires g c =
    let back = attempts_gone (lawful_of (g.P.Parser.grammar c.args.parser.now))
    c.takes_item.ensures.same
    c.mark-mark.ensures.fits c.mark-mark.ensures.back c.attempts.ensures in
    rw c.keep-kept.ensures.same back.fits

pub returns-in_err-kept-in-Err-clause-tried : goal.returns-in_err-kept-in-Err-clause-tried
returns-in_err-kept-in-Err-clause-tried g c =
    let back = attempts_gone (lawful_of (g.P.Parser.grammar c.args.parser.now))
    c.takes_item.ensures.same
    c.mark-mark.ensures.fits c.mark-mark.ensures.back c.attempts.ensures in
    wanted_at _ (back_at back c.keep-kept.ensures.same c.undo.ensures.undone)
    c.in_err-kept-in-Err.ensures.told c.from_residual-in_err-kept-in-Err.ensures
    (ap (failure_of c.args.state.now) c.in_err-kept-in-Err.ensures.err)

pub returns-in_ok-kept-in-Err : goal.returns-in_ok-kept-in-Err
returns-in_ok-kept-in-Err g c =
    let back = attempts_gone (lawful_of (g.P.Parser.grammar c.args.parser.now))
    c.takes_item.ensures.same
    c.mark-mark.ensures.fits c.mark-mark.ensures.back c.attempts.ensures in
    let kept = rw back.back at c.in_ok-kept-in-Err.ensures.ok in
    record {
      tried = failed_at c.takes_item.ensures.same c.if-not-branch.false
          c.in_ok-takes_item.ensures.takes c.in-Err.is c.attempts.ensures
          c.in_ok-kept-in-Err.ensures.told kept.longer
          (back_at back c.keep-kept.ensures.same c.undo.ensures.undone);
      sound = kept.sound;
    }
