use Rattle.std.proofs.Common.{[], ◌∷◌, ◌++◌, codes, true}
use Rattle.bpaf_doc.specs.Print.{printed}
use Rattle.bpaf_program.proofs.Running.{part_behind, part_of_more, on_err, on_err_then}
use Rattle.bpaf_program.proofs.writing.write_message.Goals as goal

pub returns-in_err-write_text-clause-part : goal.returns-in_err-write_text-clause-part
returns-in_err-write_text-clause-part g c =
    on_err _ (part_of_more (printed true c.args.doc.now ++ 10 ∷ [])
    (rw c.as_bytes.ensures.value at c.in_err-write_text.ensures.part))

pub returns-in_err-write_doc-clause-part : goal.returns-in_err-write_doc-clause-part
returns-in_err-write_doc-clause-part g c =
    on_err _ (part_behind (codes "Error: ")
    (rw c.as_bytes.ensures.value at c.in_ok-write_text.ensures.whole)
    (part_of_more (10 ∷ []) c.in_err-write_doc.ensures.part))

pub returns-clause-part : goal.returns-clause-part
returns-clause-part g c =
    on_err_then c.write_text-2.result
    (λ part. part_behind (codes "Error: ")
    (rw c.as_bytes.ensures.value at c.in_ok-write_text.ensures.whole)
    (part_behind (printed true c.args.doc.now)
    c.in_ok-write_doc.ensures.whole part))
    (rw c.as_bytes-2.ensures.value at c.write_text-2.ensures.part)
