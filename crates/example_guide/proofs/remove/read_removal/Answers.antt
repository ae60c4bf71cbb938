use Rattle.std.proofs.Common.{refl, None, codes, rules, map, string_bytes}
use Rattle.bpaf.specs.Info.{plain_info}
use Rattle.bpaf_record.proofs.Answered.{answer_says, of_line, switch_spelled, told_of_line}
use Rattle.bpaf_program.proofs.OfCommands as of
use Rattle.bpaf_program.specs.KnownParser.{HasOtherTexts}
use Rattle.example_guide.specs.Remove as remover
use Rattle.example_guide.proofs.remove.read_removal.Goals as goal

pub returns-clause-forced : goal.returns-clause-forced
returns-clause-forced c =
    answer_says c.run_record.result (c.run_record.ensures.fields (tt, (tt, tt))) (λ removal told.
    told_of_line told refl remover.removal_known (search rules) (map string_bytes c.args.words.now)
    (search rules) (λ os line said. switch_spelled (of_line line) said.fields.1.0 (search rules)
    (search rules) remover.force_names (search rules) removal.force (search rules)))

pub returns-clause-page : goal.returns-clause-page
returns-clause-page c = of.asks_for_page remover.removal_parser _ c.run_record.ensures.outcome
    (of.con_known remover.removal_of remover.fields (of.both_known _ _ (of.optional_known
    (of.argument_known (of.SpellsUnsigned 64) remover.depth_key (search rules)) (search rules))
    (of.both_known _ _ (of.switch_known remover.force_names None (search rules) (search rules)
    (search rules)) (of.last_known _ (of.many_known (of.word_known of.MeansText of.Unrestricted (codes "FILE") None (search rules) (search rules) (search rules)) (search rules))))) (λ x v e. search rules)) (HasOtherTexts plain_info)
    (search rules) (search rules) (search rules)
