use Rattle.std.proofs.Common.{refl, None, codes, rules, map, string_bytes, ◌≡◌}
use Rattle.bpaf.specs.Info.{plain_info}
use Rattle.bpaf_exact.proofs.Says.{argument_needs}
use Rattle.bpaf_record.proofs.Answered.{answer_says, of_line, optional_spelled, told_of_line}
use Rattle.bpaf_program.proofs.OfCommands as of
use Rattle.example_guide.specs.Head as spec
use Rattle.example_guide.proofs.head.read_head.Goals as goal

pub returns-clause-by_bytes : goal.returns-clause-by_bytes
returns-clause-by_bytes c =
    answer_says c.run_record.result (c.run_record.ensures.fields (tt, tt)) (λ head told some.
    told_of_line told refl spec.head_known (search rules) (map string_bytes c.args.words.now)
    (search rules) (λ os line said. optional_spelled (of_line line) (argument_needs (search rules))
    said.fields.0 head.bytes (search rules) some spec.bytes_names (search rules)))

pub returns-clause-page : goal.returns-clause-page
returns-clause-page c = of.asks_for_page spec.head_parser _ c.run_record.ensures.outcome
    (of.con_known spec.head_of spec.fields (of.both_known _ _ (of.optional_known
    (of.argument_known (of.SpellsUnsigned 64) spec.bytes_key (search rules)) (search rules))
    (of.last_known _ (of.many_known (of.word_known of.MeansText of.Unrestricted (codes "FILE") None (search rules) (search rules) (search rules))
    (search rules)))) (λ x v e. search rules)) (λ info. info ≡ plain_info) (search rules)
    (search rules) (search rules)
