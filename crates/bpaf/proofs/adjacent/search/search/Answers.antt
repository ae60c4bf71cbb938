use Rattle.std.proofs.Common.{◌≤◌, ap, refl, ◌∙◌, arith, Ok}
use Rattle.bpaf.proofs.Remembering.{refused_at, search_ends, vain_begins, vain_on, value_found}
use Rattle.bpaf.proofs.adjacent.search.search.Goals as goal

pub returns-in-Err : goal.returns-in-Err
returns-in-Err g c = refused_at c.loop-places.invariant.same c.loop-places.invariant.vain
    c.place_count-width.ensures c.in-Some.ensures.start c.try_at.new.best c.try_at.ensures.tried
    c.in-Err.is

pub returns-in-Ok-Some : goal.returns-in-Ok-Some
returns-in-Ok-Some g c = value_found c.loop-places.invariant.same c.loop-places.invariant.vain
    c.place_count-width.ensures c.in-Some.ensures.start c.try_at.new.best c.try_at.ensures.tried
    (c.in-Ok-Some.is ∙ ap Ok c.in-Ok-Some.field-0-is)

pub loop-places-init : goal.loop-places-init
loop-places-init g c =
    let at = c.scope-from.ensures.start in
    record {
      same = refl;
      begun = omega arith;
      sound = c.nothing-best.ensures.sound;
      vain = vain_begins at c.nothing-best.ensures.none;
    }

pub loop-places-preserved : goal.loop-places-preserved
loop-places-preserved g c =
    let next = c.in-Some.ensures.start.0.next.from in
    let begun : c.args.state.now.start ≤ c.loop-places.from = c.loop-places.invariant.begun in
    let on = vain_on c.loop-places.invariant.same c.loop-places.invariant.vain
    c.place_count-width.ensures c.in-Some.ensures.start _ c.try_at.ensures.tried
    (c.in-Ok-None.is ∙ ap Ok c.in-Ok-None.field-0-is) in
    record {
      same = on.0;
      begun = omega arith;
      sound = rw c.loop-places.invariant.same at c.try_at.ensures.sound;
      vain = on.1;
    }

pub returns : goal.returns
returns g c = search_ends c.loop-places.invariant.same c.loop-places.invariant.vain
    c.place_count-width.ensures c.in_default.ensures.start c.end.ensures
