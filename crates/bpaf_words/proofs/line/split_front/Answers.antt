use Rattle.std.proofs.Common.{◌≡◌, arith, None}
use Rattle.bpaf_words.specs.{Arguments.words_in, Line.known_at}
use Rattle.bpaf_words.proofs.LineLemmas.{begins_more, not_marker}
use Rattle.bpaf_words.proofs.line.split_front.Goals as goal

pub loop-index-preserved : goal.loop-index-preserved
loop-index-preserved c names =
    let none : c.in_ok-_letters.field-0 ≡ None = search in
    let spelled = (rw none at c.in_ok-_letters.ensures) names in
    begins_more (known_at c.args.numbers names) (words_in c.args.words) c.loop-index.index _ _ _
    c.at-word.result.now (c.loop-index.invariant names) c.at-word.ensures c.at-word.utf8
    (not_marker _ c.if-eq.ensures) spelled.1 spelled.2

pub returns-in-Some : goal.returns-in-Some
returns-in-Some c names = rw (rw c.in-Some.is at c.in_ok-_letters.ensures).2
    (c.loop-index.invariant names)

pub returns : goal.returns
returns c names =
    let whole : c.loop-index.index ≡ c.len.result = omega (
      arith,
      c.loop-index-test.false,
      c.loop-index.auto.index-end,
      c.len.ensures,
      c.len-index-end.ensures,
    ) in
    rw whole at (c.loop-index.invariant names)
