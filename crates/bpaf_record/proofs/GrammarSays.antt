-- Of what each grammar owns and says: its keys are those with its names, and its values say so.
use Rattle.bpaf_exact.proofs.OwnedKeys.{default_owns, dressed_owns, program_either_owns}
use Rattle.bpaf_exact.proofs.OwnedKeys.{closed_owns, repeat_owns, alone_owns, field_owns, both_owns}
use Rattle.bpaf_exact.proofs.OwnedKeys.{none_owned, only_owns, con_owns, key_owns, OwnsKeys}
use Rattle.bpaf_exact.proofs.ProgramSays.{program_fallback_says, program_optional_says, alone_says}
use Rattle.bpaf_exact.proofs.ProgramSays.{program_command_says, program_dressed_says, program_says}
use Rattle.bpaf_exact.proofs.ProgramSays.{program_either_says, program_closed_says, field_says}
use Rattle.bpaf_exact.proofs.ProgramSays.{program_repeat_says, program_last_says, program_con_says}
use Rattle.bpaf_exact.proofs.ProgramSays.{only_says, both_say, or_part_say, or_part_says}
use Rattle.bpaf_exact.specs.ProgramForm.{program_value, CommandValue, is_program, are_plain}
use Rattle.bpaf_exact.specs.ProgramForm.{commands, CellsValue, ProgramForm, after_parts}
use Rattle.bpaf_exact.specs.ProgramForm.{before_commands, no_program, part, whole_program}
use Rattle.bpaf_exact.specs.ProgramForm.{last_choice, DefaultCommands, OptionalCommands}
use Rattle.bpaf_exact.specs.ProgramForm.{RepeatCommands}
use Rattle.bpaf_grammar.specs.Grammar.{own, made, stretch, command_words, FieldsGrammar, GrammarOf}
use Rattle.bpaf_grammar.specs.Grammar.{argument, fallback, optional, command, dressed, Grammar}
use Rattle.bpaf_grammar.specs.Grammar.{both, keys_of, product, choice, closed, repeat, alone, flag}
use Rattle.bpaf_grammar.specs.Grammar.{kept, last, only, word}
use Rattle.bpaf_record.specs.Program.{catches, default_closure, repeat_closure, step_closure}
use Rattle.bpaf_record.specs.Program.{ends_in_commands, program_form, are_unusual, scope_says}
use Rattle.bpaf_record.specs.Program.{cells_say, said_kind, says, part_form}
use Rattle.std.proofs.Common.{false, Bool, true, ◌&&◌, ◌||◌, not, [], true≢false, List}
use Rattle.std.proofs.lemmas.Bool.{and_parts}
use Rattle.std.specs.Option.{is_none}
use Rattle.bpaf_base.specs.Items.{is_key_of}
use Rattle.bpaf_laws.specs.{Command.opening_words, Combinators.is_nil}
use Rattle.bpaf.specs.Positional.{accepts}
use Rattle.bpaf_exact.proofs.Says.{argument_says, word_by_says, flag_says}
use Rattle.bpaf_exact.proofs.{OwnedKeys.if_owns, OwnedKeys.or_part_owns, Places.test_owns}
use Rattle.bpaf_exact.proofs.Leaves.{pure_says}
use Rattle.bpaf_exact.specs.Says.{FieldsSay, IsSaid, Said, SaidKind, Says, scope_told}
use Rattle.bpaf_exact.specs.Flat.{FallbackValue, Variables, OwnList, LastOf, map_closure}
use Rattle.bpaf_exact.specs.Flat.{OptionalValue}
use Rattle.bpaf_exact.specs.Pieces.{WithNext, Alone}
use Rattle.bpaf_doc.specs.Names.{Names}
use Rattle.bpaf_record.proofs.Makes.{made_said}

-- its own keys are those with its names
pub grammar_owns : {fields : Bool} {T : Type 0} (g : GrammarOf fields T) (variables : Variables)
    → OwnsKeys (keys_of g true) (program_form g variables)
grammar_owns (flag clones key present absent) variables =
    key_owns (not (is_nil key.envs)) (is_nil key.envs && is_none absent) _ _ _
    (test_owns Alone (λ k e. e))
grammar_owns (argument means key) variables =
    key_owns (key.adjacent || not (is_nil key.named.envs))
    (is_nil key.named.envs && not key.last) _ _ _
    (test_owns WithNext (λ k e. (and_parts (is_key_of key.named.names k) _ e).0))
grammar_owns (word means position metavar help) variables = record { by = none_owned [] }
grammar_owns (kept clones value) variables = record { by = none_owned [] }
grammar_owns (own o) variables = record { by = tt }
grammar_owns (made makes g) variables = record { by = tt }
grammar_owns (stretch first g) variables = record { by = tt }
grammar_owns (closed f g) variables =
    or_part_owns _ (closed_owns (step_closure f) _ (grammar_owns g variables))
grammar_owns (dressed look g) variables = dressed_owns _ (grammar_owns g variables)
grammar_owns (optional {T = T} catch g) variables =
    or_part_owns _ (if_owns (not catch) (default_owns _ (grammar_owns g variables)
    (OptionalValue T) (OptionalCommands T)))
grammar_owns (fallback {T = T} shown d g) variables =
    or_part_owns _ (default_owns _ (grammar_owns g variables)
    (λ group gap. FallbackValue T group gap (default_closure d))
    (DefaultCommands T ((default_closure d).yes tt)))
grammar_owns (repeat {A = A} f g) variables = or_part_owns _ (if_owns (not (catches f))
    (closed_owns (repeat_closure f) _
    (repeat_owns _ (grammar_owns g variables) (OwnList A) (RepeatCommands A))))
grammar_owns (last {T = T} g) variables =
    or_part_owns _ (repeat_owns _ (grammar_owns g variables) (LastOf T) (λ value. value))
grammar_owns (choice g h) variables = or_part_owns _ (program_either_owns (command_words g)
    (command_words h) (part_form g variables) (part_form h variables) _ _
    (grammar_owns g variables) (grammar_owns h variables))
grammar_owns (only g) variables = or_part_owns _ (only_owns _ (grammar_owns g variables))
grammar_owns (command {T = T} adjacent called info help g) variables = if_owns
    (((not adjacent && are_unusual (keys_of g false) info) && are_plain (opening_words called))
    && is_program (program_form g variables))
    {s = commands false (CommandValue T (opening_words called)
    (program_value (program_form g variables)))} (record { by = tt })
grammar_owns (alone g) variables = alone_owns _ (field_owns _ (grammar_owns g variables))
grammar_owns (both g h) variables = or_part_owns _
    (both_owns _ _ (field_owns _ (grammar_owns g variables)) (grammar_owns h variables))
grammar_owns (product makes g) variables =
    or_part_owns _ (con_owns (map_closure makes) _ (grammar_owns g variables))

-- what is said of commands implies
says_more : {T : Type 0} {names : List Names} {s : ProgramForm T} {kind : SaidKind} {said : Said T}
    {in_cells others : CellsValue T} → Says names s kind true said in_cells
    → IsSaid in_cells others → Says names s kind true said others
says_more {s = commands may value} h more =
    record { by = (h.by.0, λ cs v m. more cs v (h.by.1 cs v m)) }
says_more {s = before_commands value} h more =
    record { by = (h.by.0, λ cs v m. more cs v (h.by.1 cs v m)) }
says_more {s = no_program} h more = record { by = tt }
says_more {s = part p} h more = record { by = tt }
says_more {s = last_choice p c value} h more = record { by = tt }
says_more {s = after_parts value} h more = record { by = tt }
says_more h more = record { by = absurd (true≢false h.by.0) }

mutual
  -- a value of a parser says so
  pub grammar_says : {T : Type 0} (g : Grammar T) (variables : Variables)
      → Says (keys_of g true) (program_form g variables) (said_kind g variables)
      (ends_in_commands g) (says g variables) (cells_say g variables)
  grammar_says (flag clones key present absent) variables =
      flag_says clones present key absent variables
  grammar_says (argument means key) variables = argument_says means key variables
  grammar_says (word means position metavar help) variables = word_by_says (accepts position) means
  grammar_says (kept clones value) variables = pure_says (clones value)
  grammar_says (own o) variables = record { by = tt }
  grammar_says (made makes g) variables = record { by = tt }
  grammar_says (stretch first g) variables = record { by = tt }
  grammar_says (closed f g) variables =
      or_part_says _ (program_closed_says (step_closure f) (grammar_says g variables))
  grammar_says (dressed look g) variables = program_dressed_says (grammar_says g variables)
  grammar_says (optional catch g) variables =
      or_part_says _ (program_optional_says (grammar_says g variables) catch)
  grammar_says (fallback shown d g) variables =
      or_part_says _ (program_fallback_says (grammar_says g variables) (default_closure d))
  grammar_says (repeat f g) variables = or_part_says _
      (program_repeat_says (grammar_says g variables) (catches f) (repeat_closure f))
  grammar_says (last g) variables = or_part_says _ (program_last_says (grammar_says g variables))
  grammar_says (choice g h) variables = or_part_says _
      (program_either_says (keys_of g true) (keys_of h true) (command_words g) (command_words h)
      (part_form g variables) (part_form h variables) (grammar_says g variables)
      (grammar_says h variables))
  grammar_says (only g) variables = or_part_says _ (only_says (grammar_says g variables))
  grammar_says (command {T = T} adjacent called info help g) variables =
      let more : IsSaid (scope_told (whole_program (program_form g variables)) (ends_in_commands g)
      (says g variables) (cells_say g variables)) (scope_says g variables) = made_said g variables
      (ends_in_commands g) (says g variables) (cells_say g variables) in
      says_more (program_command_says adjacent (are_unusual (keys_of g false) info) called
      (grammar_owns g variables) (grammar_says g variables))
      (λ cs v m. (m.0, m.1, more m.0 v m.2))
  grammar_says (product makes g) variables =
      or_part_says _ (program_con_says (map_closure makes) (fields_say g variables))

  -- the values of fields say so
  pub fields_say : {V : Type 0} (g : FieldsGrammar V) (variables : Variables)
      → FieldsSay (keys_of g true) (program_form g variables) (ends_in_commands g)
      (says g variables) (cells_say g variables)
  fields_say (alone g) variables = let owns = grammar_owns g variables in
      alone_says (field_owns _ owns) (field_says owns (grammar_says g variables))
  fields_say (both g h) variables = let owns = grammar_owns g variables in
      or_part_say _ (both_say (field_owns _ owns) (grammar_owns h variables)
      (field_says owns (grammar_says g variables)) (fields_say h variables))

-- a value of a program on cells says so of them
pub grammar_says_so : {T : Type 0} (g : Grammar T) (variables : Variables)
    → IsSaid (program_value (program_form g variables)) (scope_says g variables)
grammar_says_so g variables cs v m = made_said g variables (ends_in_commands g) (says g variables)
    (cells_say g variables) cs v (program_says (program_form g variables)
    (grammar_owns g variables) (grammar_says g variables) cs v m)
