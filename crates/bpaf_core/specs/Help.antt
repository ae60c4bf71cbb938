-- The help that is shown of a command.
use Rattle.std.specs.Prelude.{List, Option}
use Rattle.bpaf_doc.specs.declared.doc.Piece.{Piece}
use Rattle.bpaf_grammar.specs.Command.{help_or_descr}
use Rattle.bpaf_core.specs.declared.commands.ParseCommand.{ParseCommand}

-- that of this command
abbrev pub shown_help : {T P : Type 0} → ParseCommand T P → Option (List Piece)
shown_help command = help_or_descr command.help command.info
