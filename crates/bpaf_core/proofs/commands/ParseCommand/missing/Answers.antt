use Rattle.std.proofs.Common.{inr}
use Rattle.bpaf_doc.specs.Shape.{part_of}
use Rattle.bpaf_core.proofs.commands.ParseCommand.missing.Goals as goal

pub returns-in-Ok-missing : goal.returns-in-Ok-missing
returns-in-Ok-missing g c =
    let missed = c.in-Ok-missing.ensures in
    inr (part_of c.in-Ok.item, missed.0, c.in-Ok.ensures, missed.1, missed.2)
