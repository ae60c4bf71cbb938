-- Each parser keeps to the law of the form that its grammar has: what it answers and takes depends
-- on what is its own alone.
use Rattle.bpaf_grammar.specs.Grammar.{Default, FieldsGrammar, GrammarOf, Look, Repeat, Step, alone}
use Rattle.bpaf_grammar.specs.Grammar.{answered, argument, both, choice, cloned, closed, collect}
use Rattle.bpaf_grammar.specs.Grammar.{command, command_words, count, default_gives, describes_of}
use Rattle.bpaf_grammar.specs.Grammar.{dressed, fallback, flag, stretch, guarded, hide, kept}
use Rattle.bpaf_grammar.specs.Grammar.{keys_of, last, look_outcome, made, many, mapped, only}
use Rattle.bpaf_grammar.specs.Grammar.{optional, outcome_of, own, parsed, product, repeat}
use Rattle.bpaf_grammar.specs.Grammar.{repeat_outcome, some, step_outcome, word, Grammar}
use Rattle.bpaf_exact.proofs.ProgramForm.{choice_only_law, collect_law, count_law, fallback_law}
use Rattle.bpaf_exact.proofs.ProgramForm.{fallback_with_law, guard_law, hide_law, many_law, map_law}
use Rattle.bpaf_exact.proofs.ProgramForm.{optional_law, parse_law, program_alone_law}
use Rattle.bpaf_exact.proofs.ProgramForm.{program_both_law, program_either_law, program_con_law}
use Rattle.bpaf_exact.proofs.ProgramForm.{program_dressed_law, program_field_law, program_last_law}
use Rattle.bpaf_exact.proofs.ProgramForm.{some_law, or_part_law, named_law, unnamed, unnamed_law}
use Rattle.bpaf_exact.specs.Flat.{Closure, guard_closure, parse_closure, list_closure, map_closure}
use Rattle.bpaf_exact.specs.Flat.{Variables, Gap, Groups}
use Rattle.bpaf_exact.specs.Parts.{PartForm, PartFormLaw, of_part, part_closed, part_default}
use Rattle.bpaf_exact.specs.ProgramForm.{Agrees, AgreesRound, FormLaw, ProgramForm, program_closed}
use Rattle.bpaf_exact.specs.ProgramForm.{program_dressed, program_if, program_field, key_field}
use Rattle.bpaf_exact.specs.ProgramForm.{program_default, program_repeat}
use Rattle.bpaf_exact.proofs.PartForms.{both_part_law, choice_form_part_law, collect_part_law}
use Rattle.bpaf_exact.proofs.PartForms.{con_part_law, count_part_law, fallback_part_law}
use Rattle.bpaf_exact.proofs.PartForms.{fallback_with_part_law, guard_part_law, hide_part_law}
use Rattle.bpaf_exact.proofs.PartForms.{kept_form_part_law, last_form_part_law, many_part_law}
use Rattle.bpaf_exact.proofs.PartForms.{map_part_law, optional_form_part_law, parse_part_law}
use Rattle.bpaf_exact.proofs.PartForms.{some_form_part_law}
use Rattle.bpaf_record.specs.Program.{agrees_of, are_unusual, catches, default_agrees}
use Rattle.bpaf_record.specs.Program.{default_closure, program_form, repeat_closure, step_agrees}
use Rattle.bpaf_record.specs.Program.{part_form, repeated_part, step_closure}
use Rattle.std.specs.Prelude.{Bool, List, [], length, not, true, false, ℕ}
use Rattle.bpaf_record.proofs.{Parts.parts_fit}
use Rattle.bpaf_exact.specs.{ProgramForm.program_field}
use Rattle.bpaf_doc.specs.Names.{Names}
use Rattle.bpaf_laws.specs.{Combinators.FallbackOutcome, Command.CommandPart}
use Rattle.bpaf_laws.specs.Reading.{Outcome}
use Rattle.bpaf_exact.proofs.{PartLast.argument_part_form_law, PartForms.some_form_part_law}
use Rattle.bpaf_exact.proofs.PartFlags.{flag_part_form_law}
use Rattle.std.proofs.Common.{arith, ◌≡◌}
use Rattle.bpaf_exact.specs.{Flat.Variables, Parts.part_default}
use Rattle.bpaf_record.specs.Commands.{either_command_law, positional_law}
use Rattle.bpaf_exact.proofs.PartReads.{FormReads, argument_reads, dressed_reads, flag_reads}
use Rattle.bpaf_exact.proofs.PartReads.{if_reads, kept_reads, only_reads, or_reads, reads_agree}
use Rattle.bpaf_exact.proofs.PartMade.{alone_reads, both_reads, choice_reads, closed_reads}
use Rattle.bpaf_exact.proofs.PartMade.{con_reads, default_reads, last_value_reads, optional_reads}
use Rattle.bpaf_exact.proofs.PartMade.{repeat_reads, some_reads, either_reads}
use Rattle.bpaf_exact.proofs.{PartLast.argument_part_form_law, PartFlags.flag_part_form_law}
use Rattle.bpaf_exact.specs.Pieces.{LinePiece, Roles}
use Rattle.bpaf_record.proofs.Parts.{parts_fit}
use Rattle.bpaf_laws.specs.{Combinators.FallbackOutcome, Command.CommandPart, Reading.Outcome}

-- what agrees round a parser agrees on its form
form_agrees : {A B : Type 0} (f : Closure A B) (s : ProgramForm A) (p : PartForm A)
    → AgreesRound f s p → Agrees f s
form_agrees f s p a = grind arith

-- a closure round a parser that does
step_law : {A B : Type 0} (f : Step A B) (g : Grammar A) {inner : Outcome A} {names : List Names}
    {words : List (List ℕ)} {premise : Type 0} (variables : Variables)
    → (premise → FormLaw variables inner names words (program_form g variables))
    → step_agrees f g premise → FormLaw variables (step_outcome f inner) names words
    (unnamed (program_closed (step_closure f) (program_form g variables)))
step_law (mapped answers) g variables law a = map_law (law a) answers
step_law (parsed answers shown) g variables law a = parse_law (law a.0) answers shown
    (form_agrees (parse_closure answers) (program_form g variables) (part_form g variables)
    (a.1.by variables))
step_law (guarded checks message) g variables law a = guard_law (law a.0) checks message
    (form_agrees (guard_closure checks) (program_form g variables) (part_form g variables)
    (a.1.by variables))

-- a closure round a named part keeps to its law
part_step_law : {A B : Type 0} (f : Step A B) (g : Grammar A) {inner : Outcome A}
    {names : List Names} {premise : Type 0} (variables : Variables)
    → FormReads names (program_form g variables) (part_form g variables)
    → (premise → PartFormLaw variables inner names (part_form g variables))
    → step_agrees f g premise → PartFormLaw variables (step_outcome f inner) names
    (of_part (λ p. part_closed p (step_closure f)) (part_form g variables))
part_step_law (mapped answers) g variables reads law a = map_part_law (law a) answers
part_step_law (parsed answers shown) g variables reads law a =
    parse_part_law (law a.0) answers shown (reads_agree (parse_closure answers)
    (parts_fit g variables) (law a.0) reads (a.1.by variables))
part_step_law (guarded checks message) g variables reads law a =
    guard_part_law (law a.0) checks message (reads_agree (guard_closure checks)
    (parts_fit g variables) (law a.0) reads (a.1.by variables))

-- a repeat
repeat_law : {A B : Type 0} (f : Repeat A B) {env : Variables} {inner : Outcome A}
    {names : List Names} {words : List (List ℕ)} {form : ProgramForm A}
    → FormLaw env inner names words form
    → FormLaw env (repeat_outcome f inner) names [] (unnamed (program_if (not (catches f))
    (program_closed (repeat_closure f) (program_repeat form))))
repeat_law (many catch) law = many_law law catch
repeat_law (some catch message) law = some_law law catch message
repeat_law (collect catch fills) law = collect_law law catch fills
repeat_law count law = count_law law

-- of a named part
part_repeat_law : {A B : Type 0} (f : Repeat A B) {env : Variables} {inner : Outcome A}
    {names : List Names} {part : PartForm A} → PartFormLaw env inner names part
    → PartFormLaw env (repeat_outcome f inner) names (repeated_part f part)
part_repeat_law (many catch) law = many_part_law law catch
part_repeat_law (some catch message) law = some_form_part_law law catch message
part_repeat_law (collect catch fills) law = collect_part_law law catch fills
part_repeat_law count law = count_part_law law

-- a default of one
part_default_law : {T : Type 0} (d : Default T) {env : Variables} {inner : Outcome T}
    {names : List Names} {part : PartForm T} {premise : Type 0}
    → (premise → PartFormLaw env inner names part) → default_agrees d premise
    → PartFormLaw env (FallbackOutcome inner (default_gives d)) names
    (of_part (λ p. part_default p (default_closure d)) part)
part_default_law (cloned clones value) law a = fallback_part_law (law a) clones value
part_default_law (answered answers shown) law a =
    fallback_with_part_law (law a.0) answers shown (λ u v y n. a.1 v n.0 y n.1)

-- a default
default_law : {T : Type 0} (d : Default T) {env : Variables} {inner : Outcome T}
    {names : List Names} {words : List (List ℕ)} {form : ProgramForm T} {premise : Type 0}
    → (premise → FormLaw env inner names words form) → default_agrees d premise
    → FormLaw env (FallbackOutcome inner (default_gives d)) names []
    (unnamed (program_default (default_closure d) form))
default_law (cloned clones value) law a = fallback_law (law a) clones value
default_law (answered answers shown) law a =
    fallback_with_law (law a.0) answers shown (λ u v y n. a.1 v n.0 y n.1)

-- another look
look_law : {T : Type 0} (look : Look) {env : Variables} {inner : Outcome T} {names : List Names}
    {words : List (List ℕ)} {form : ProgramForm T} → FormLaw env inner names words form
    → FormLaw env (look_outcome look inner) names words (program_dressed form)
look_law hide law = hide_law law
look_law _ law = program_dressed_law law

-- of a named part
part_look_law : {T : Type 0} (look : Look) {env : Variables} {inner : Outcome T}
    {names : List Names} {part : PartForm T} → PartFormLaw env inner names part
    → PartFormLaw env (look_outcome look inner) names part
part_look_law hide law = hide_part_law law
part_look_law _ law = law

-- what is made of a list of entries reads as the form of a repeat
repeat_reads_of : {A B : Type 0} (f : Repeat A B) {names : List Names} {form : ProgramForm A}
    {part : PartForm A} → FormReads names form part
    → FormReads names (program_if (not (catches f))
    (program_closed (repeat_closure f) (program_repeat form)))
    (repeated_part f part)
repeat_reads_of (many {T = T} catch) l = if_reads (not catch) (repeat_reads l (list_closure T))
repeat_reads_of (some catch message) l = if_reads (not catch) (some_reads l)
repeat_reads_of (collect catch fills) l =
    if_reads (not catch) (repeat_reads l (map_closure fills))
repeat_reads_of count l = repeat_reads l (map_closure (λ values n. n ≡ length values))

-- the entries of a parser's part read as its form does
pub reads_of : {fields : Bool} {T : Type 0} (g : GrammarOf fields T) (variables : Variables)
    → FormReads (keys_of g true) (program_form g variables) (part_form g variables)
reads_of (flag clones key present absent) variables =
    flag_reads clones key present absent variables
reads_of (argument means key) variables = argument_reads means key variables
reads_of (kept clones value) variables = kept_reads (clones value)
reads_of (closed f g) variables =
    or_reads (closed_reads (step_closure f) (reads_of g variables))
reads_of (dressed look g) variables = dressed_reads (reads_of g variables)
reads_of (optional catch g) variables =
    or_reads (if_reads (not catch) (optional_reads (reads_of g variables)))
reads_of (fallback shown d g) variables =
    or_reads (default_reads (default_closure d) (reads_of g variables))
reads_of (repeat f g) variables = or_reads (repeat_reads_of f (reads_of g variables))
reads_of (last g) variables = or_reads (last_value_reads (reads_of g variables))
reads_of (choice g h) variables = or_reads (either_reads (keys_of g true) (keys_of h true)
    (command_words g) (command_words h) (part_form g variables) (part_form h variables)
    (program_form g variables) (program_form h variables) _
    (choice_reads (command_words g) (command_words h) (reads_of g variables)
    (reads_of h variables)))
reads_of (only g) variables = or_reads (only_reads (reads_of g variables))
reads_of (command adjacent called info help g) variables = grind arith
reads_of (alone g) variables = alone_reads (program_form g variables) (part_form g variables)
reads_of (both g h) variables = or_reads (both_reads (keys_of g true) (keys_of h true)
    (program_field (program_form g variables)) (program_form h variables))
reads_of (product makes g) variables =
    or_reads (con_reads (map_closure makes) (program_form g variables))
reads_of _ variables = record { by = tt }

-- the part that a parser is, or fields together
pub part_law_of : {fields : Bool} {T : Type 0} (g : GrammarOf fields T) → agrees_of g
    → (variables : Variables)
    → PartFormLaw variables (outcome_of g) (keys_of g true) (part_form g variables)
part_law_of (flag {T = T} clones key present absent) a variables =
    flag_part_form_law clones key present absent variables
part_law_of (argument {T = T} means key) a variables =
    argument_part_form_law variables T means key
part_law_of (kept {T = T} clones value) a variables = kept_form_part_law T clones value
part_law_of (closed f g) a variables = part_step_law f g variables (reads_of g variables)
    (λ premise. part_law_of g premise variables) a
part_law_of (dressed look g) a variables = part_look_law look (part_law_of g a variables)
part_law_of (optional catch g) a variables =
    optional_form_part_law (part_law_of g a variables) catch
part_law_of (fallback shown d g) a variables =
    part_default_law d (λ premise. part_law_of g premise variables) a
part_law_of (repeat f g) a variables = part_repeat_law f (part_law_of g a variables)
part_law_of (last g) a variables = last_form_part_law (part_law_of g a variables)
part_law_of (choice g h) a variables =
    choice_form_part_law (part_law_of g a.0 variables) (part_law_of h a.1 variables)
part_law_of (only g) a variables = part_law_of g a variables
part_law_of (alone g) a variables = part_law_of g a variables
part_law_of (both g h) a variables =
    both_part_law (part_law_of g a.0 variables) (part_law_of h a.1 variables)
part_law_of (product makes g) a variables = con_part_law (part_law_of g a variables) makes
part_law_of _ a variables = record { by = tt }

-- fields are opened by no command's word
pub fields_law : {V : Type 0} (g : FieldsGrammar V) {variables : Variables} → FormLaw variables
    (outcome_of g) (keys_of g true) (command_words g) (program_form g variables)
    → FormLaw variables (outcome_of g) (keys_of g true) [] (program_form g variables)
fields_law (alone g) law = law
fields_law (both g h) law = law

-- a key is a named field
key_unnamed : {T : Type 0} {env : Variables} {outcome : Outcome T} {names : List Names}
    {words : List (List ℕ)} (wide may : Bool) (q : Roles) (each : LinePiece → T → Type 0)
    (group : Groups T) (gap : Gap T)
    → FormLaw env outcome names words (unnamed (key_field wide may q each group gap))
key_unnamed wide true q each group gap = record { by = tt }
key_unnamed wide false q each group gap = record { by = tt }

-- what is no named field but one keeps to the law of its part
leaf_law : {T : Type 0} (g : Grammar T) (variables : Variables) → agrees_of g
    → FormLaw variables (outcome_of g) (keys_of g true) (command_words g)
    (unnamed (program_form g variables))
    → FormLaw variables (outcome_of g) (keys_of g true) (command_words g)
    (program_form g variables)
leaf_law g variables a l = named_law _ _ (reads_of g variables) l (part_law_of g a variables)

-- every parser, and fields
pub law_of : {fields : Bool} {T : Type 0} (g : GrammarOf fields T) → agrees_of g
    → (variables : Variables) → FormLaw variables (outcome_of g) (keys_of g true)
    (command_words g) (program_form g variables)
law_of (flag clones key present absent) a variables =
    leaf_law (flag clones key present absent) variables a (key_unnamed _ _ _ _ _ _)
law_of (argument means key) a variables =
    leaf_law (argument means key) variables a (key_unnamed _ _ _ _ _ _)
law_of (word {T = T} means position metavar help) a variables =
    positional_law variables T means position metavar
law_of (kept clones value) a variables =
    leaf_law (kept clones value) variables a (record { by = tt })
law_of (own o) a variables = record { by = tt }
law_of (closed f g) a variables = or_part_law _ _ (reads_of (closed f g) variables)
    (step_law f g variables (λ premise. law_of g premise variables) a)
    (part_law_of (closed f g) a variables)
law_of (made makes g) a variables = record { by = tt }
law_of (dressed look g) a variables = look_law look (law_of g a variables)
law_of (optional catch g) a variables = or_part_law _ _
    (reads_of (optional catch g) variables) (optional_law (law_of g a variables) catch)
    (part_law_of (optional catch g) a variables)
law_of (fallback shown d g) a variables = or_part_law _ _
    (reads_of (fallback shown d g) variables)
    (default_law d (λ premise. law_of g premise variables) a)
    (part_law_of (fallback shown d g) a variables)
law_of (repeat f g) a variables =
    or_part_law _ _ (reads_of (repeat f g) variables) (repeat_law f (law_of g a variables))
    (part_law_of (repeat f g) a variables)
law_of (last g) a variables =
    or_part_law _ _ (reads_of (last g) variables) (program_last_law (law_of g a variables))
    (part_law_of (last g) a variables)
law_of (choice g h) a variables = or_part_law _ _ (reads_of (choice g h) variables)
    (program_either_law (law_of g a.0 variables) (law_of h a.1 variables)
    (part_law_of g a.0 variables) (part_law_of h a.1 variables))
    (part_law_of (choice g h) a variables)
law_of (only g) a variables =
    or_part_law _ _ (reads_of (only g) variables)
    (unnamed_law (choice_only_law (law_of g a variables))) (part_law_of (only g) a variables)
law_of (command adjacent called info help g) a variables = either_command_law (describes_of g) info
    called (CommandPart called help (describes_of g)) adjacent
    (are_unusual (keys_of g false) info) (law_of g a variables)
law_of (stretch first g) a variables = record { by = tt }
law_of (alone g) a variables = program_alone_law (program_field_law (law_of g a variables))
law_of (both g h) a variables = or_part_law _ _ (reads_of (both g h) variables)
    (unnamed_law (program_both_law (program_field_law (law_of g a.0 variables))
    (fields_law h (law_of h a.1 variables)))) (part_law_of (both g h) a variables)
law_of (product makes g) a variables = or_part_law _ _ (reads_of (product makes g) variables)
    (unnamed_law (program_con_law makes (fields_law g (law_of g a variables))))
    (part_law_of (product makes g) a variables)
