use Rattle.std.proofs.Common.{rules}
use Rattle.bpaf.proofs.product.BothFieldsTuple2.eval_fields.Goals as goal

pub returns-in-Ok-eval_fields : goal.returns-in-Ok-eval_fields
returns-in-Ok-eval_fields g c = search rules

pub returns-in-Err-eval_fields : goal.returns-in-Err-eval_fields
returns-in-Err-eval_fields g c = search rules

pub returns-in-Err : goal.returns-in-Err
returns-in-Err g c = search rules
