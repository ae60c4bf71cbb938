use Rattle.std.proofs.Common.{ap, ap₂, map, ◌∙◌, ◌++◌}
use Rattle.std.proofs.lemmas.List.{map-append}
use Rattle.bpaf_doc.specs.Shape.{Or, members, shape_of}
use Rattle.bpaf_doc.proofs.Folding.{or_shape}
use Rattle.bpaf_choice.proofs.table.or_meta.Goals as goal

pub returns : goal.returns
returns c =
    or_shape c.append.new.self ∙ ap (λ all. Or (members all)) (ap (map shape_of)
    c.in_ok-append.ensures.items ∙ (map-append shape_of _ _
    ∙ ap₂ (λ xs ys. xs ++ ys) c.in_ok-all.ensures c.in_ok-others.ensures))
