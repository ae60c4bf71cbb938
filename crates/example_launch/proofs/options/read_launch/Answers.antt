use Rattle.std.proofs.Common.{◌≡◌, ap, codes, rules}
use Rattle.bpaf_program.proofs.OfCommands as of
use Rattle.example_launch.specs.Running as launch
use Rattle.example_launch.proofs.Dealing.{launch_asked}
use Rattle.example_launch.proofs.options.read_launch.Goals as goal

pub run_program-requires-clause-can : goal.run_program-requires-clause-can
run_program-requires-clause-can c =
    let parts = c.into_options.result.inner.fields in
    let positionals = parts.rest.rest in
    let verbose : parts.first ≡ of.helped_switch launch.verbose_names (codes "Print more") =
    search rules in
    let dry_run : parts.rest.first ≡ of.helped_switch launch.dry_run_names (codes "Start nothing") =
    search rules in
    let name : of.IsWord of.NonStrict (codes "NAME") (codes "Program to start") positionals.first =
    search rules in
    let passed : of.IsWord of.Strict (codes "WORD") (codes "Words to pass on")
    positionals.rest.last.inner = search rules in (
      search rules,
      of.con_known launch.launch_of launch.fields (of.both_known _ _
          (of.switch_known launch.verbose_names (of.help_of (codes "Print more"))
          (ap (λ s. s.named) verbose) (ap (λ s. s.present) verbose) (ap (λ s. s.absent) verbose))
          (of.both_known _ _
          (of.switch_known launch.dry_run_names (of.help_of (codes "Start nothing"))
          (ap (λ s. s.named) dry_run) (ap (λ s. s.present) dry_run) (ap (λ s. s.absent) dry_run))
          (of.both_known _ _ (of.word_known of.MeansText of.NonStrict (codes "NAME")
          (of.help_of (codes "Program to start")) name.position_is name.metavar_is name.help_is)
          (of.last_known _ (of.many_known (of.word_known of.MeansText of.Strict (codes "WORD")
          (of.help_of (codes "Words to pass on")) passed.position_is passed.metavar_is
          passed.help_is) (search rules)))))) (λ x v e. search rules),
    )

pub returns : goal.returns
returns c =
    let info = c.into_options.ensures.info in
    let exact : launch.AnswersLaunch _ c.run_program.result =
    of.exact_for launch.launcher (c.run_program.ensures.exact tt) info (search rules)
    (of.are_texts c.args.words.now) in
    record {
      exact = exact;
      launch = launch_asked _ _
          (of.dealt_by _ launch.launcher _ _ c.run_program.ensures.dealt info (search rules)) exact;
      asked = of.page_asked _ launch.launcher _ _ c.run_program.ensures.named info (search rules);
    }
