use Rattle.std.proofs.{Common.Some, lemmas.Str.Pattern.split_text_parts}
use Rattle.bpaf_doc.specs.Print.{empty_line}
use Rattle.bpaf_doc.proofs.Folding.{text_whole, text_cut}
use Rattle.bpaf_doc.proofs.fold.pieces_of_lines.Goals as goal

pub returns-in_ok-push-in-None : goal.returns-in_ok-push-in-None
returns-in_ok-push-in-None c =
    let lacks = c.in-None.ensures.cases in
    let shown = c.in_ok-folded-in-None.ensures in
    let put = c.in_ok-push-in-None.ensures.items in
    text_whole _ _ _ _ lacks shown c.in_ok-all.ensures.items put

pub returns-in_ok-push-in-Some-2 : goal.returns-in_ok-push-in-Some-2
returns-in_ok-push-in-Some-2 c =
    let found = c.in-Some.ensures.cases in
    let cut = Some (c.in-Some.first, c.in-Some.rest) in
    let is_cut = split_text_parts empty_line c.args.text.now cut found in
    let shown = c.in_ok-folded-in-Some.ensures in
    let shown_as_detail = c.in_ok-folded_below-in-Some.ensures in
    let none = c.in_ok-all.ensures.items in
    let put = c.in_ok-push-in-Some.ensures.items in
    let put_detail = c.in_ok-push-in-Some-2.ensures.items in
    let lacks = found.2.0 in
    let ends = found.6 in
    text_cut _ _ _ _ _ found.0 _ _ _ is_cut lacks ends shown shown_as_detail none put put_detail
