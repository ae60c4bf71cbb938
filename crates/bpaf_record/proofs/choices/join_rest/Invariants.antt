use Rattle.std.proofs.Common.{◌≡◌, ◌≤◌, take}
use Rattle.bpaf_exact.specs.Flat.{Variables}
use Rattle.bpaf_grammar.specs.Grammar.{choices_of}
use Rattle.bpaf_record.specs.{Program.program_form, Part.form_part}
use Rattle.bpaf_record.proofs.choices.join_rest.Given as goal

abbrev pub invariant-loop-index : goal.invariant-loop-index
invariant-loop-index g l = (1 ≤ l.index) × ((variables : Variables) → l.part ≡ form_part
    (program_form (choices_of g.P.Parser.grammar (take l.index l.fn.parsers)) variables))
