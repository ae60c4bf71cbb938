use Rattle.bpaf_program.proofs.Running.{kept_then}
use Rattle.bpaf_program.proofs.sink.AnySink.write_once.Goals as goal

pub returns-in-Ok-clause-bytes : goal.returns-in-Ok-clause-bytes
returns-in-Ok-clause-bytes g c = kept_then _ _ _ _ c.loop.invariant c.in-Ok.ensures.bytes
