use Rattle.std.proofs.Common.{rules}
use Rattle.example_demo.proofs.print.text_of.Goals as goal

pub returns : goal.returns
returns c = search rules
