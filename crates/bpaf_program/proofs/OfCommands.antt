-- What the proofs of a program with commands cite, in one place.
pub use Rattle.bpaf_words.specs.Arguments.{given_of}
pub use Rattle.bpaf.specs.{Positional.accepts, Run.known_names}
pub use Rattle.bpaf_exact.specs.Says.{Alike, pair_view}
pub use Rattle.bpaf_program.specs.KnownParser.{program_names}
pub use Rattle.bpaf_program.specs.OfCommands.{AnswersText, IsWord, MeansText, NonStrict}
pub use Rattle.bpaf_program.specs.OfCommands.{ParseFailure, SpellsSigned, SpellsUnsigned, Strict}
pub use Rattle.bpaf_program.specs.OfCommands.{String, Unrestricted, alone, choice, help_of}
pub use Rattle.bpaf_program.specs.OfCommands.{helped_argument, helped_switch, known_map, line}
pub use Rattle.bpaf_program.specs.OfCommands.{line_each, plain_info, truth, words_before}
pub use Rattle.bpaf_program.specs.OfCommands.{words_behind}
pub use Rattle.bpaf_program.proofs.KnownParser.{argument_known, default_known, many_known}
pub use Rattle.bpaf_program.proofs.KnownParser.{optional_known, switch_known, word_known}
pub use Rattle.bpaf_program.proofs.KnownParser.{both_known, choice_known, command_known, con_known}
pub use Rattle.bpaf_program.proofs.KnownParser.{asks_for_page, called_known, dealt_by, exact_for}
pub use Rattle.bpaf_program.proofs.KnownParser.{guard_known, last_known, map_known, page_asked}
pub use Rattle.bpaf_program.proofs.KnownParser.{also_dealt}
pub use Rattle.bpaf_program.proofs.Running.{are_texts, given_text, handed_on, prints_text}
pub use Rattle.bpaf_program.proofs.Running.{refusal_answers, refused_page, runs_to, text_answers}
pub use Rattle.bpaf_program.proofs.{Texts.texts_are, WordsBefore.word_before}
pub use Rattle.bpaf_record.proofs.LookAlike.{alone_seen, both_seen, choice_seen, command_seen}
pub use Rattle.bpaf_record.proofs.LookAlike.{optional_seen}
pub use Rattle.bpaf_program.proofs.LookAlike.{con_seen, default_seen, many_seen, map_seen}
pub use Rattle.bpaf_program.proofs.LookAlike.{guard_seen, number_seen, program_looks_one}
pub use Rattle.bpaf_program.proofs.LookAlike.{switch_seen, text_seen, text_word_seen}
