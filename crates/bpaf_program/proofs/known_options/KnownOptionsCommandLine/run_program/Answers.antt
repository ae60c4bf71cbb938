use Rattle.std.proofs.Common.{◌≡◌, ap, refl}
use Rattle.bpaf_words.specs.Arguments.{given_of}
use Rattle.bpaf.specs.Run.{known_names}
use Rattle.bpaf_record.proofs.Running.{answers_as_program, tells_of_words}
use Rattle.bpaf_grammar.specs.{Grammar.describes_of, Words.names_of}
use Rattle.bpaf_program.proofs.KnownParser.{also_dealt, also_said, asks_for_page, refused_so}
use Rattle.bpaf_program.proofs.known_options.KnownOptionsCommandLine.run_program.Goals as goal

pub returns-clause-each_exact : goal.returns-clause-each_exact
returns-clause-each_exact g c agrees r o =
    let known = c.requires.can.1 in
    let parser = g.P.Parser.grammar c.args.self.now.options.inner in
    let grammar = g.K.KnownProgram.grammar in
    let given = given_of c.args.args in
    answers_as_program (describes_of parser) c.args.self.now.options.info
    (names_of grammar c.args.self.now.options.info) given
    (known.law given.env) (g.K.KnownProgram.whole given.env) r (rw known.shown at o)

pub returns-clause-exact : goal.returns-clause-exact
returns-clause-exact g c agrees = returns-clause-each_exact g c agrees _ c.run_inner.ensures.outcome

pub returns-clause-fields : goal.returns-clause-fields
returns-clause-fields g c agrees =
    tells_of_words (names_of g.K.KnownProgram.grammar c.args.self.now.options.info)
    g.K.KnownProgram.grammar (given_of c.args.args) _ (returns-clause-exact g c agrees)

pub returns-clause-named : goal.returns-clause-named
returns-clause-named g c =
    let info = c.args.self.now.options.info in
    refused_so _ _ _ c.run_inner.ensures.named (λ plain. asks_for_page g.K.KnownProgram.grammar
    (given_of c.args.args) c.run_inner.ensures.outcome c.requires.can.1 (λ other. other ≡ info) refl
    plain refl)

pub returns-clause-dealt : goal.returns-clause-dealt
returns-clause-dealt g c =
    let known = c.requires.can.1 in
    also_said _ _ _ c.run_inner.ensures.dealt (also_dealt known.also _ c.run_inner.ensures.dealt
    (ap (known_names c.args.self.now.options.info) known.shown) refl)
