use Rattle.std.proofs.Common.{◌≡◌, ◌+◌, ◌++◌, ◌∷◌, [], take, sym, ◌∙◌, subst, refl}
use Rattle.std.proofs.lemmas.List.{take_more}
use Rattle.bpaf_laws.specs.Choice.{Nested}
use Rattle.bpaf_laws.proofs.Keeping.{keeps_of}
use Rattle.bpaf_grammar.specs.{Grammar.choice, Grammar.outcome_of, Laws.lawful_of}
use Rattle.bpaf_grammar.proofs.Choices.{answer_more}
use Rattle.bpaf_choice.proofs.Branching.{answered_choice, start_kept}
use Rattle.bpaf.proofs.choices.choose_from.Goals as goal

pub or_parser-answer-requires-clause-start : goal.or_parser-answer-requires-clause-start
or_parser-answer-requires-clause-start g c =
    let of = g.P.Parser.grammar in
    let law = lawful_of (Nested choice of (of c.args.first.now)
    (take c.loop-parser.parser-index c.args.rest.now)) in
    start_kept c.of-start.ensures.start c.of-start.ensures.back (keeps_of law c.args.state.now
    c.loop-parser.answer c.loop-parser.state c.loop-parser.invariant).marks

pub loop-parser-preserved : goal.loop-parser-preserved
loop-parser-preserved g c =
    let of = g.P.Parser.grammar in
    let first = c.args.first.now in
    let i = c.loop-parser.parser-index in
    let ps = take i c.args.rest.now in
    let p = c.parser-item.result in
    let s = c.args.state.now in
    let r = c.or_parser-answer.result in
    let t = c.or_parser-answer.new.state in
    let before = Nested choice of (of first) ps in
    let more : take (i + 1) c.args.rest.now ≡ ps ++ p ∷ [] =
    take_more c.args.rest.now i p c.loop-parser-test.true ∙ (rw (sym c.parser-item.is) refl) in
    subst (λ all. outcome_of (Nested choice of (of first) all) s r t) (sym more)
    (answer_more of (of first) ps p s r t
    (answered_choice c.of-start.ensures.start c.of-start.ensures.back
    (outcome_of before) (outcome_of (of p)) r t c.loop-parser.invariant
    (keeps_of (lawful_of before) s c.loop-parser.answer c.loop-parser.state
    c.loop-parser.invariant).marks c.or_parser-answer.ensures))
