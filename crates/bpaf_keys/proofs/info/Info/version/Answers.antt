use Rattle.std.proofs.Common.{rules}
use Rattle.bpaf_keys.proofs.Looking.{version_asked, version_unasked, version_wanting}
use Rattle.bpaf_keys.proofs.info.Info.version.Goals as goal

pub returns-in_err-copy : goal.returns-in_err-copy
returns-in_err-copy c =
    version_wanting c.args.self.now c.args.state.now {key = c.in_ok-key.key} c.is_present.result _
    c.is_present.ensures (search rules) {text = c.in-Some.version} (search rules) _
    c.from_residual-in_err-copy.ensures

pub returns-then-is_present : goal.returns-then-is_present
returns-then-is_present c =
    version_asked c.args.self.now c.args.state.now {key = c.in_ok-key.key} c.is_present.result _
    c.is_present.ensures (search rules) {text = c.in-Some.version} (search rules) (search rules)
    (search rules)

pub returns : goal.returns
returns c =
    version_unasked c.args.self.now c.args.state.now {key = c.in_ok-key.key} c.is_present.result _
    c.is_present.ensures (search rules) {text = c.in-Some.version} (search rules) (search rules)
