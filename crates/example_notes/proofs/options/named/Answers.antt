use Rattle.std.proofs.Common.{codes, None, refl, rules}
use Rattle.bpaf_program.proofs.OfCommands as of
use Rattle.example_notes.proofs.options.named.Goals as goal

pub returns : goal.returns
returns c = of.command_known c.args.word.now _ c.plain_command.ensures refl (of.word_known
    of.MeansText of.Unrestricted (codes "NAME") None (search rules) (search rules) (search rules))
