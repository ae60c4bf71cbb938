-- All that a field is which a function of a program makes: without a help, or with one of some
-- text.
use Rattle.std.specs.Prelude.{◌≡◌, Bool, true, false, ℕ, List, Option, Some, None}
use Rattle.bpaf_doc.specs.{Print.text_pieces, Names.Names}
use Rattle.bpaf_text.specs.Named.{KeyWithValue, key_named, with_help}
use Rattle.bpaf_text.specs.declared.params.ParseFlag.{ParseFlag}
use Rattle.bpaf_laws.specs.Command.{named_only}
use Rattle.bpaf_core.specs.declared.commands.ParseCommand.{ParseCommand}
use Rattle.bpaf.specs.{declared.leaves.positional.ParsePositional.ParsePositional, Info.plain_info}
use Rattle.bpaf_grammar.specs.declared.position.Position.{Position}
use Rattle.bpaf.proofs.LeafLemmas.{key_with_help}

-- a flag with these names, its present value and perhaps an absent one, and no help
abbrev pub plain_flag : {T : Type 0} → Names → T → Option T → ParseFlag T
plain_flag names present absent =
    record { named = key_named names; present = present; absent = absent }

-- a switch with these names, and no help
abbrev pub plain_switch : Names → ParseFlag Bool
plain_switch names = plain_flag names true (Some false)

-- an argument with these names and this metavar, and no help
abbrev pub plain_argument : Names → List ℕ → KeyWithValue
plain_argument names metavar =
    record { named = key_named names; metavar = metavar; adjacent = false; last = false }

-- a switch with these names, and a help of this text
abbrev pub helped_switch : Names → List ℕ → ParseFlag Bool
helped_switch names text = record {
  named = with_help (key_named names) (text_pieces text);
  present = true;
  absent = Some false;
}

-- an argument of this key, with a help of this text
abbrev pub helped_argument : KeyWithValue → List ℕ → KeyWithValue
helped_argument key text = key_with_help key (text_pieces text)

-- a word at this position, of this metavar, with a help of this text
pub record IsWord {T : Type 0} (position : Position) (metavar text : List ℕ)
    (word : ParsePositional T) : Type 0 where
  pub position_is : word.position ≡ position
  pub metavar_is : word.metavar.0.now ≡ metavar
  pub help_is : word.help ≡ Some (text_pieces text)

-- a command of one word over a parser, without a help or texts of its own
pub record IsPlainCommand {T P : Type 0} (word : List ℕ) (parser : P) (command : ParseCommand T P)
    : Type 0 where
  pub inner : command.inner ≡ parser
  pub names : command.names ≡ named_only word
  pub help : command.help ≡ None
  pub adjacent : command.adjacent ≡ false
  pub info : command.info ≡ plain_info
