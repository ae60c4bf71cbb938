use Rattle.std.proofs.Common.{codes}
use Rattle.bpaf_pages.proofs.Paging.{three_behind}
use Rattle.bpaf_pages.proofs.lines.Lines.push_lists.Goals as goal

pub returns : goal.returns
returns c =
    three_behind (codes "\n") _ _ _ _ _ _ _ _ _ _ c.in_ok-words.ensures c.in_ok-glue.ensures
    c.in_ok-options.ensures c.in_ok-glue-2.ensures c.in_ok-commands.ensures c.in_ok-glue-3.ensures
