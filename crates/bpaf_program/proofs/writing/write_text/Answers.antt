use Rattle.std.proofs.Common.{rules}
use Rattle.bpaf_program.proofs.Running.{part_written, some_left, written_nothing, written_on}
use Rattle.bpaf_program.proofs.Running.{written_still}
use Rattle.bpaf_program.proofs.writing.write_text.Goals as goal

pub returns-in-Ok-eq0-clause-part : goal.returns-in-Ok-eq0-clause-part
returns-in-Ok-eq0-clause-part g c =
    let left = some_left c.is_empty.ensures (search rules) in
    part_written
    (written_nothing c.loop-rest.invariant c.in-Ok-eq0.field-0-test c.in-Ok-eq0.ensures.bytes) left
    (record {
      before = _;
      bytes = _;
      answer = _;
      answered = c.in-Ok-eq0.ensures.answered;
      failed = (c.in-Ok-eq0.field-0-test, left);
    })

pub loop-rest-preserved : goal.loop-rest-preserved
loop-rest-preserved g c = written_on c.loop-rest.invariant _ c.in-Ok.ensures.bytes

pub returns-in-Err-clause-part : goal.returns-in-Err-clause-part
returns-in-Err-clause-part g c =
    part_written (written_still c.loop-rest.invariant c.in-Err.ensures.bytes)
    (some_left c.is_empty.ensures (search rules)) (record {
      before = _;
      bytes = _;
      answer = _;
      answered = c.in-Err.ensures.answered;
      failed = tt;
    })
