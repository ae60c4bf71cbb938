use Rattle.std.proofs.Common.{codes, refl, rules}
use Rattle.bpaf_program.proofs.OfCommands as of
use Rattle.example_notes.specs.Notes as notes
use Rattle.example_notes.proofs.options.list.Goals as goal

pub returns : goal.returns
returns c = of.command_known (codes "list") _ c.plain_command.ensures refl
    (of.default_known (of.argument_known (of.SpellsUnsigned 64) notes.max_key (search rules))
    (λ own v same. same) 10 (search rules) (search rules))
