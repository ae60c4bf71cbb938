use Rattle.std.proofs.Common.{arith}
use Rattle.bpaf_keys.proofs.Looking.{help_asked, help_unknown, then_neither, then_version}
use Rattle.bpaf_keys.proofs.Looking.{version_refused}
use Rattle.bpaf_keys.proofs.info.Info.look.Goals as goal

pub returns-in_err-help : goal.returns-in_err-help
returns-in_err-help c = help_unknown _ _ _ c.from_residual.ensures

pub returns-then-is_present : goal.returns-then-is_present
returns-then-is_present c = grind (arith, help_asked)

pub returns-in_err-version : goal.returns-in_err-version
returns-in_err-version c =
    version_refused _ _ _ _ c.is_present.ensures c.in_ok-help.ensures c.if-is_present.false _
    c.in_err-version.ensures _ c.from_residual-in_err-version.ensures

pub returns-in-Some : goal.returns-in-Some
returns-in-Some c = grind (arith, then_version)

pub returns : goal.returns
returns c = grind (arith, then_neither)
