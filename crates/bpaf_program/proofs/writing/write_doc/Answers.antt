use Rattle.std.proofs.Common.{sym, ◌∙◌}
use Rattle.bpaf_program.proofs.Running.{on_err, part_of_next, written_next, printed_behind}
use Rattle.bpaf_program.proofs.writing.write_doc.Goals.{then-is_shown+in_ok-write_text}
use Rattle.bpaf_program.proofs.{writing.write_doc.Goals.else-is_shown, Running.printed_here}
use Rattle.bpaf_program.proofs.writing.write_doc.Goals as goal

pub returns-in_err-write_text-clause-part : goal.returns-in_err-write_text-clause-part
returns-in_err-write_text-clause-part g c =
    let here =
    printed_here c.args.full _ c.loop-piece-test.true c.piece-item.is
    (sym c.is_shown.ensures ∙ c.if-is_shown.true) in
    on_err _ (part_of_next _ (rw here at c.loop-piece.invariant)
    (rw (c.as_bytes.ensures.value, c.as_str.ensures) at c.in_err-write_text.ensures.part))

pub loop-piece-preserved : goal.loop-piece-preserved
loop-piece-preserved g c =
    elim c.if-is_shown.branch [
      | then-is_shown+in_ok-write_text w ↦
          let here =
          printed_here c.args.full _ c.loop-piece-test.true c.piece-item.is
          (sym c.is_shown.ensures ∙ w.if-is_shown.true) in
          rw w.out-is (written_next _ (rw here at c.loop-piece.invariant)
          (rw (w.as_bytes.ensures.value, w.as_str.ensures) at w.in_ok-write_text.ensures.whole))
      | else-is_shown w ↦
          let behind =
          printed_behind c.args.full _ c.loop-piece-test.true c.piece-item.is
          (sym c.is_shown.ensures ∙ w.if-is_shown.false) in
          rw w.out-is (rw behind at c.loop-piece.invariant)
    ]
