use Rattle.bpaf_grammar.specs.{Grammar.describes_of, Laws.shows_of}
use Rattle.std.proofs.Common.{◌∙◌, [], ap, subst, rules}
use Rattle.bpaf_doc.specs.Shape.{shape_of}
use Rattle.bpaf_core.proofs.Running.{read_by_shown}
use Rattle.bpaf_core.proofs.options.OptionParser.line.Goals as goal

pub is_whole-requires : goal.is_whole-requires
is_whole-requires g c = (c.in_ok-front.ensures.front (record { flags = []; arguments = [] })).bound

pub returns : goal.returns
returns g c =
    let same = c.self.view_is in
    read_by_shown (shows_of (g.P.Parser.grammar c.args.self.now.inner)) c.args.self.now.info _ _
    (c.in_ok-front.ensures.setting ∙ ap (λ options. options.info.numbers) same)
    (subst (λ options. describes_of (g.P.Parser.grammar options.inner) (shape_of c.in_ok-meta.meta))
    same
    c.in_ok-meta.ensures) (search rules) (search rules)
    (rw (c.deref.ensures.value, c.deref-2.ensures.value) at c.line_by.ensures.answer)
