use Rattle.std.proofs.Common.{refl, rules, map, string_bytes}
use Rattle.bpaf_exact.proofs.Says.{argument_needs, made_needs}
use Rattle.bpaf_program.proofs.LookAlike.{number_seen}
use Rattle.bpaf_record.proofs.LookAlike.{closed_once, decides_once}
use Rattle.bpaf_record.proofs.Answered.{answer_says, of_line, value_spelled, told_of_line}
use Rattle.example_guide.specs.Dim.{dimming_known, percent_names}
use Rattle.example_guide.proofs.dim.read_dimming.Goals as goal

pub returns : goal.returns
returns c =
    answer_says c.run_record.result (c.run_record.ensures.fields (
      (
        (tt, decides_once (λ x v made refused. search rules) number_seen),
        decides_once (λ x v made refused. search rules) (closed_once
            (λ x v made refused. search rules) (λ x v w one other. search rules) number_seen),
      ),
      (
        (tt, decides_once (λ x v made refused. search rules) number_seen),
        (tt, λ v fault made refused. search rules),
      ),
    ))
    (λ dimming told. told_of_line told refl dimming_known (search rules) (map string_bytes c.args.words.now) (search rules)
    (λ os line said. let percent = said.fields.0 in (
      value_spelled (of_line line) (made_needs (made_needs (argument_needs (search rules)))) percent
          percent_names (search rules),
      (let lit = percent.made in let made = said.made in search rules),
      (let lit = percent.made in let checked = percent.told.made in let made = said.made in
          search rules),
    )))
