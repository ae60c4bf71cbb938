use Rattle.std.proofs.Common.{codes, refl, rules}
use mir.Syntax.{w64}
use Rattle.bpaf_program.proofs.OfCommands as of
use Rattle.example_chain.proofs.steps.go.Goals as goal

pub returns : goal.returns
returns c =
    let command = c.in_ok-command.command in
    let dx : of.IsWord of.Unrestricted (codes "DX") (codes "How far to the right")
    command.inner.fields.first = search rules in
    let dy : of.IsWord of.Unrestricted (codes "DY") (codes "How far up")
    command.inner.fields.rest.last = search rules in
    of.called_known _ command (search rules) (search rules) (search rules) (search rules) refl
    (of.con_known _ _ (of.both_known _ _
    (of.word_known (of.SpellsSigned w64) _ (codes "DX") _ dx.position_is dx.metavar_is dx.help_is)
    (of.last_known _ (of.word_known (of.SpellsSigned w64) _ (codes "DY") _ dy.position_is
    dy.metavar_is dy.help_is))) (λ x v e. e))
