use Rattle.std.proofs.Common.{None, [], codes, rules}
use Rattle.bpaf_program.proofs.KnownParser.{switch_known}
use Rattle.test_programs.proofs.known_rows.known_options_run_as_programs.Goals as goal

pub run_program-requires-clause-can : goal.run_program-requires-clause-can
run_program-requires-clause-can c = (
  tt,
  switch_known (record { shorts = codes "v"; longs = [] }) None (search rules) (search rules)
      (search rules),
)
