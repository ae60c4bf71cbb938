use Rattle.std.proofs.Common.{map}
use Rattle.bpaf_pages.specs.InsideLine.{line_of}
use Rattle.bpaf_pages.proofs.Paging.{section_step}
use Rattle.bpaf_pages.proofs.lines.Lines.push_sections.Goals as goal

pub loop-number-preserved : goal.loop-number-preserved
loop-number-preserved c =
    let all = map line_of c.args.self.now.all.items in
    let same = c.deref-title-items.ensures.value in
    let within = c.loop-number-test.true in
    let told = c.in_ok-section.ensures in
    let put = c.in_ok-glue.ensures in
    let number = c.loop-number.number in
    section_step c.args.width all _ _ number c.title-item.result _ _ _ _
    same within c.title-item.is told put c.loop-number.invariant
