use Rattle.std.proofs.Common.{map, string_bytes}
use Rattle.bpaf_doc.specs.Shape.{shape_of}
use Rattle.bpaf_pages.specs.{Help.help_text, Help.usage_text, InsideHelp.given_by}
use Rattle.bpaf_pages.proofs.Paging.{page_put}
use Rattle.bpaf_pages.proofs.help.render_help.Goals as goal

pub returns : goal.returns
unfolding help_text
returns c =
    let path = map string_bytes c.args.path.now in
    let given = given_by c.args.texts in
    let usage = usage_text (shape_of c.args.meta.now) in
    let gathered = c.in_ok-lines.ensures in
    page_put path given usage _ _ _ _ _ _ _ _ _ _ _
    gathered.all gathered.titles c.in_ok-width.ensures c.new-page.ensures
    c.in_ok-push_opening.ensures c.in_ok-push_sections.ensures c.in_ok-push_lists.ensures
    c.in_ok-footer.ensures c.in_ok-glue.ensures
