use Rattle.bpaf_batteries.proofs.Toggling.{toggle_wins}
use Rattle.bpaf_batteries.proofs.toggle.ToggleFlagParserOption.eval.Goals as goal

pub returns-in-Ok-clause-last_toggle_wins : goal.returns-in-Ok-clause-last_toggle_wins
returns-in-Ok-clause-last_toggle_wins g c = toggle_wins g.T.Clone.is_clone
    c.args.self.now.toggles.catch _ (c.in-Ok.values, c.in-Ok.ensures, c.last_of.ensures)
