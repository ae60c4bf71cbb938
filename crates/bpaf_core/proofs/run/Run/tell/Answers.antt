use Rattle.std.proofs.Common.{sym, ◌∙◌}
use Rattle.bpaf_grammar.specs.Ending.{shown, told, wanting}
use Rattle.bpaf_core.proofs.run.Run.tell.Goals as goal

pub returns-in-Ok-Help : goal.returns-in-Ok-Help
returns-in-Ok-Help g c = shown c.in-Ok-Help.field-0 _ _ c.in-Ok-Help.ensures
    (rw c.in-Ok-Help.field-0-is c.help.ensures)

pub returns-in-Ok-Version : goal.returns-in-Ok-Version
returns-in-Ok-Version g c = shown c.in-Ok-Version.field-0 _ _ c.in-Ok-Version.ensures
    (rw c.in-Ok-Version.field-0-is c.version_page.ensures)

pub returns-then-is_memory : goal.returns-then-is_memory
returns-then-is_memory g c =
    wanting _ _ c.in-Err.ensures (sym c.is_memory.ensures ∙ c.if-is_memory.true)

pub returns-else-is_memory : goal.returns-else-is_memory
returns-else-is_memory g c =
    told _ _ _ c.in-Err.ensures (sym c.is_memory.ensures ∙ c.if-is_memory.false) c.render.ensures
