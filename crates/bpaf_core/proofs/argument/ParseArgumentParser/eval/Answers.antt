use Rattle.bpaf_laws.proofs.ArgumentLaws.{value_read}
use Rattle.bpaf_core.proofs.argument.ParseArgumentParser.eval.Goals as goal

pub returns : goal.returns
returns g c =
    value_read _ _ _ _ _ _ c.in_ok-text.ensures (rw c.as_str.ensures at c.read_text.ensures)
