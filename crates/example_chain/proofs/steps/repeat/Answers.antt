use Rattle.std.proofs.Common.{codes, refl, rules}
use Rattle.bpaf_program.proofs.OfCommands as of
use Rattle.example_chain.proofs.steps.repeat.Goals as goal

pub returns : goal.returns
returns c =
    let command = c.in_ok-command.command in
    let times : of.IsWord of.Unrestricted (codes "N") (codes "How many times") command.inner =
    search rules in
    of.called_known _ command (search rules) (search rules) (search rules) (search rules) refl
    (of.word_known (of.SpellsUnsigned 64) _ (codes "N") _ times.position_is times.metavar_is
    times.help_is)
