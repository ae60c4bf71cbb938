use Rattle.bpaf_words.proofs.LineLemmas.{begins_more, no_line, not_marker}
use Rattle.bpaf_words.proofs.line.split_words.Goals as goal

pub returns-in-Err-Ambiguous : goal.returns-in-Err-Ambiguous
returns-in-Err-Ambiguous c =
    rw (c.in_ok-new-in-Err-Ambiguous.ensures, c.in-Err-Ambiguous.number-is)
    (no_line _ _ _ _ _ _ c.loop-index.invariant c.at-word.ensures (not_marker _ c.if-eq.ensures)
    (rw c.in-Err-Ambiguous.field-0-is at c.in-Err-Ambiguous.ensures))

pub loop-index-preserved : goal.loop-index-preserved
loop-index-preserved c =
    begins_more _ _ _ _ _ _ _ c.loop-index.invariant c.at-word.ensures c.at-word.utf8
    (not_marker _ c.if-eq.ensures) c.in-Ok.ensures.1 c.in-Ok.ensures.2
