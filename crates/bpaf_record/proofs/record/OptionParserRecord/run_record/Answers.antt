use Rattle.bpaf_grammar.specs.{Grammar.describes_of, Grammar.keys_of, Words.names_of}
use Rattle.std.proofs.Common.{false}
use Rattle.bpaf_words.specs.Arguments.{given_of}
use Rattle.bpaf_record.proofs.{Running.answers_by_fields, Running.is_flat_form, FormLaws.law_of}
use Rattle.bpaf_record.specs.Program.{program_form}
use Rattle.bpaf_record.proofs.record.OptionParserRecord.run_record.Goals as goal

pub returns-clause-by_fields : goal.returns-clause-by_fields
returns-clause-by_fields g c agrees r o =
    let parser = c.args.self.now.inner in
    let grammar = g.P.Parser.grammar parser in
    let given = given_of c.args.args in
    answers_by_fields (describes_of grammar) c.args.self.now.info
    (names_of grammar c.args.self.now.info) grammar given
    (law_of grammar agrees given.env)
    (is_flat_form (program_form grammar given.env) (keys_of grammar false)
    c.args.self.now.info c.requires.record) r o
