use Rattle.std.proofs.Common.{codes, refl, rules}
use Rattle.bpaf_program.proofs.OfCommands as of
use Rattle.example_chain.specs.Running.{left_names}
use Rattle.example_chain.proofs.steps.turn.Goals as goal

pub returns : goal.returns
returns c =
    let command = c.in_ok-command.command in
    let degrees : of.IsWord of.Unrestricted (codes "DEGREES") (codes "How far to turn")
    command.inner.fields.rest.last = search rules in
    of.called_known _ command (search rules) (search rules) (search rules) (search rules) refl
    (of.con_known _ _ (of.both_known _ _
    (of.switch_known left_names (of.help_of (codes "To the left")) (search rules) (search rules)
    (search rules)) (of.last_known _ (of.word_known (of.SpellsUnsigned 64) _ (codes "DEGREES") _
    degrees.position_is degrees.metavar_is degrees.help_is))) (λ x v e. e))
