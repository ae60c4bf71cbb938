-- What the definitions of a program cite, in one place.
pub use Rattle.bpaf_doc.specs.declared.doc.Piece.{Piece}
pub use Rattle.bpaf_doc.specs.{Names.Names, Print.printed, Print.text_pieces}
pub use Rattle.bpaf_text.specs.{Meaning.SpellsSigned, Meaning.SpellsUnsigned}
pub use Rattle.bpaf_text.specs.Named.{KeyWithValue, key_named}
pub use Rattle.bpaf_words.specs.Arguments.{Given}
pub use Rattle.bpaf_line.specs.declared.failure.ParseFailure.{ParseFailure}
pub use Rattle.bpaf_laws.specs.Command.{named_only}
pub use Rattle.bpaf_grammar.specs.declared.position.Position.TheVariants.{NonStrict, Strict}
pub use Rattle.bpaf_grammar.specs.declared.position.Position.TheVariants.{Unrestricted}
pub use Rattle.bpaf_grammar.specs.Grammar.{FieldsGrammar, Grammar, alone, argument, both, choice}
pub use Rattle.bpaf_grammar.specs.Grammar.{command, word}
pub use Rattle.bpaf.specs.{Asked.IfShown, Info.RunInfo, Info.plain_info, Info.short_descr}
pub use Rattle.bpaf.specs.{Marker.words_before, Marker.words_behind}
pub use Rattle.bpaf_program.specs.Fields.{IsWord, helped_argument, helped_switch, plain_argument}
pub use Rattle.bpaf_program.specs.KnownParser.{IsDealtBy, IsExactFor, IsKnownParser, IsPageOf}
pub use Rattle.bpaf_program.specs.KnownParser.{IsValueBy, MeansText, String, help_of, known_command}
pub use Rattle.bpaf_program.specs.KnownParser.{known_con, known_default, known_guard, known_many}
pub use Rattle.bpaf_program.specs.KnownParser.{known_map, known_optional, known_switch}
pub use Rattle.bpaf_program.specs.Ending.{AnswersByText, AnswersText, IsTextOf, OrPage}
pub use Rattle.bpaf_program.specs.Ending.{PrintsTextOf, Written, line, line_each, truth}
