use Rattle.std.proofs.Common.{codes, None, refl, rules}
use Rattle.bpaf_program.proofs.OfCommands as of
use Rattle.example_notes.specs.Notes as notes
use Rattle.example_notes.proofs.options.add.Goals as goal

pub returns : goal.returns
returns c = of.command_known (codes "add") _ c.plain_command.ensures refl
    (of.con_known _ _ (of.both_known _ _ (of.many_known
    (of.argument_known of.MeansText notes.tag_key (search rules)) (search rules))
    (of.last_known _ (of.many_known (of.word_known of.MeansText of.Unrestricted (codes "TEXT") None
    (search rules) (search rules) (search rules)) (search rules)))) (λ x v e. e))
