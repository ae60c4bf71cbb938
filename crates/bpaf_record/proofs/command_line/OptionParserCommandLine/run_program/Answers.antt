use Rattle.bpaf_grammar.specs.{Grammar.describes_of, Grammar.keys_of, Words.names_of}
use Rattle.std.proofs.Common.{arith, false}
use Rattle.bpaf_words.specs.Arguments.{given_of}
use Rattle.bpaf_record.proofs.Running.{answers_as_program, is_program_form, tells_of_words}
use Rattle.bpaf_record.proofs.FormLaws.{law_of}
use Rattle.bpaf_record.specs.Program.{program_form}
use Rattle.bpaf_record.proofs.command_line.OptionParserCommandLine.run_program.Goals as goal

pub returns-clause-each_exact : goal.returns-clause-each_exact
returns-clause-each_exact g c agrees r o =
    let parser = c.args.self.now.inner in
    let grammar = g.P.Parser.grammar parser in
    let given = given_of c.args.args in
    answers_as_program (describes_of grammar) c.args.self.now.info
    (names_of grammar c.args.self.now.info) given
    (law_of grammar agrees given.env)
    (is_program_form (program_form grammar given.env) (keys_of grammar false)
    c.args.self.now.info c.requires.program) r o

pub returns-clause-exact : goal.returns-clause-exact
returns-clause-exact g c agrees = returns-clause-each_exact g c agrees _ c.run_inner.ensures.outcome

pub returns-clause-fields : goal.returns-clause-fields
returns-clause-fields g c agrees = grind (arith, returns-clause-exact, tells_of_words)
