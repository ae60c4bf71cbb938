use Rattle.std.proofs.Common.{◌≡◌, [], ◌∷◌, codes, map, rules, string_bytes, subst}
use Rattle.bpaf_record.proofs.Answered.{answer_says, switch_spelled, command_called, of_either}
use Rattle.bpaf_record.proofs.Answered.{of_field, told_line, without_field}
use Rattle.example_guide.specs.Remove.{force_names}
use Rattle.example_guide.specs.{declared.clean.Task.TheVariants.List, Clean.IsRemoval, Clean.cleaning_known}
use Rattle.example_guide.proofs.clean.read_cleaning.Goals as goal

pub returns-clause-forced : goal.returns-clause-forced
returns-clause-forced c =
    answer_says c.run_program.result (c.run_program.ensures.fields (tt, (tt, tt)))
    (λ cleaning told. let force = told.told.read in let own = force.told in
    let line = told_line told cleaning_known (search rules) (map string_bytes c.args.words.now)
    (search rules) in
    switch_spelled (of_field line force.owns own.taken) own.own (search rules) (search rules)
    force_names (search rules) cleaning.force (search rules))

pub returns-clause-called : goal.returns-clause-called
returns-clause-called c =
    answer_says c.run_program.result (c.run_program.ensures.fields (tt, (tt, tt)))
    (λ cleaning told is. let force = told.told.read.told in
    of_either force.left
    (λ list. let made : cleaning.task ≡ List list.2.told.from = search rules in
    absurd (subst IsRemoval made is))
    (λ remove. let line = told_line told cleaning_known (search rules) (map string_bytes c.args.words.now)
    (search rules) in
    command_called (without_field line force.taken) remove.1 (codes "remove" ∷ []) (search rules)))
