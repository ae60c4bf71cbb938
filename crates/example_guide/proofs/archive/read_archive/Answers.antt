use Rattle.std.proofs.Common.{arith, rules, codes, map, refl, string_bytes, [], ◌∷◌}
use Rattle.bpaf_exact.proofs.Says.{argument_needs, flag_needs, last_needs, made_needs}
use Rattle.bpaf_record.proofs.Answered.{answer_says, of_line, argument_spelled, fallback_spelled}
use Rattle.bpaf_record.proofs.Answered.{flag_spelled, optional_spelled, repeat_spelled}
use Rattle.bpaf_record.proofs.Answered.{spelled_optional, spelled_repeat, spelled_switch}
use Rattle.bpaf_record.proofs.Answered.{value_spelled, told_of_line, long_is_spelled}
use Rattle.bpaf_record.proofs.Answered.{flags_are_spelled, short_is_spelled, value_is_spelled}
use Rattle.bpaf_program.proofs.Running.{are_texts}
use Rattle.example_guide.specs.Archive as archive
use Rattle.example_guide.proofs.archive.read_archive.Goals as goal

pub returns-clause-told : goal.returns-clause-told
returns-clause-told c =
    answer_says c.run_record.result
    (c.run_record.ensures.fields (tt, (tt, (tt, (tt, (tt, (tt, (tt, tt))))))))
    (λ v told. told_of_line told refl archive.archive_known (search rules)
    (map string_bytes c.args.words.now) (search rules) (λ os line said.
    let fields = said.fields in
    let agreed = flag_spelled (of_line line) fields.0 (search rules) (search rules) archive.agree
    (search rules) in
    let without = fields.1.1.1.1.1.0 in
    let verbose = fields.1.1.1.1.1.1.0 in
    record {
      agreed = (search rules, agreed.1);
      out = argument_spelled (of_line line) fields.1.0 (search rules) archive.out (search rules);
      root = value_spelled (of_line line) (last_needs (argument_needs (search rules)))
          fields.1.1.0 archive.root (search rules);
      level = λ some. optional_spelled (of_line line) (made_needs (argument_needs (search rules)))
          fields.1.1.1.0 v.level (search rules) some archive.level (search rules);
      jobs = λ other. fallback_spelled (of_line line) (argument_needs (search rules))
          fields.1.1.1.1.0 (λ kept. other (search rules)) archive.jobs (search rules);
      without = λ some. repeat_spelled (of_line line) (argument_needs (search rules))
          without.told v.without.items (search rules) some archive.without (search rules);
      verbose = λ some. repeat_spelled (of_line line) (flag_needs (search rules) (search rules))
          verbose.told verbose.from refl (λ empty. some (search rules)) archive.verbose
          (search rules);
    }))

pub returns-clause-spelled : goal.returns-clause-spelled
returns-clause-spelled c =
    let words = map string_bytes c.args.words.now in
    let texts = are_texts c.args.words.now in
    answer_says c.run_record.result
    (c.run_record.ensures.fields (tt, (tt, (tt, (tt, (tt, (tt, (tt, tt))))))))
    (λ v told. told_of_line told refl archive.archive_known (search rules) words (search rules)
    (λ os line said.
    let fields = said.fields in
    let without = fields.1.1.1.1.1.0 in
    record {
      level = λ typed. spelled_optional line fields.1.1.1.0 v.level (search rules)
          archive.level (search rules) texts
          (long_is_spelled _ archive.level words (codes "level") typed refl refl);
      without = λ typed. spelled_repeat line without.told v.without.items (search rules)
          archive.without (search rules) texts
          (long_is_spelled _ archive.without words (codes "without") typed refl refl);
      quiet = λ typed. spelled_switch line fields.1.1.1.1.1.1.1 (search rules) v.quiet
          (search rules) archive.quiet (search rules) texts
          (short_is_spelled _ (search rules) archive.quiet words 113 typed (omega arith)
          (λ dash. cc) refl);
      quiet_joined = λ typed. spelled_switch line fields.1.1.1.1.1.1.1 (search rules) v.quiet
          (search rules) archive.quiet (search rules) texts
          (flags_are_spelled archive.archive_known refl archive.quiet words 118 113 [] typed
          (λ dash. cc) refl refl refl);
      without_joined = λ typed. spelled_repeat line without.told v.without.items
          (search rules) archive.without (search rules) texts
          (value_is_spelled archive.archive_known refl archive.without words 113 120 (49 ∷ [])
          (113 ∷ []) 120 (49 ∷ []) refl typed (λ dash. cc) refl refl refl refl refl);
    }))
