use Rattle.std.proofs.Common.{None, codes, rules, ◌≡◌}
use Rattle.bpaf_program.proofs.OfCommands as of
use Rattle.example_guide.specs.Share as share
use Rattle.example_guide.proofs.share.read_share.Goals as goal

pub run_program-requires-clause-can : goal.run_program-requires-clause-can
run_program-requires-clause-can c =
    let add : c.into_options.result.inner.fields.rest.last.inner ≡ c.plain_command-add.result =
    search rules in (
      search rules,
      of.con_known share.share_of _ (of.both_known _ _
          (of.guard_known share.has_bytes of.text_seen
          (of.argument_known of.MeansText share.user_key (search rules)) (λ x b e. search rules)
          (search rules)) (of.last_known _
          (of.guard_known share.has_bytes (of.command_seen of.text_word_seen)
          (of.command_known (codes "add") _ c.plain_command-add.ensures add
          (of.word_known of.MeansText of.Unrestricted (codes "FILE") None (search rules)
          (search rules) (search rules))) (λ x b e. search rules) (search rules))))
          (λ x v e. search rules),
    )

pub returns : goal.returns
returns c = of.exact_for share.share_parser (c.run_program.ensures.exact tt)
    c.into_options.ensures.info (search rules) (of.are_texts c.args.words.now)
