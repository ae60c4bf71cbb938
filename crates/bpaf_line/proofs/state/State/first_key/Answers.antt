use Rattle.std.proofs.Common.{◌∙◌, ap, length, min, subst}
use Rattle.bpaf_base.specs.Items.{is_argument_key}
use Rattle.bpaf_doc.specs.Names.{Names}
use Rattle.bpaf_line.proofs.Places.{key_found, none_among, none_past}
use Rattle.bpaf_line.specs.Inside.{IsSoundAt}
use Rattle.bpaf_line.proofs.state.State.first_key.Goals as goal

pub returns-in_default : goal.returns-in_default
returns-in_default c =
    let names : Names = record { shorts = c.args.shorts.now; longs = c.args.longs.now } in
    key_found (is_argument_key names c.args.adjacent) c.args.self.now c.min-end.result
    c.first_in_turn-place.result c.then_some.result
    (λ q past. none_past names c.args.adjacent c.args.self.now c.self.inside.keys_end
    c.min-end.result q (subst (IsSoundAt c.self.inside) c.self.view_is c.self.invariant).keyless
    (c.min-end.ensures ∙ ap (λ s. min s.end c.self.inside.keys_end) c.self.view_is) past)
    c.first_in_turn-place.ensures.none c.first_in_turn-place.ensures.found c.then_some.ensures

pub returns : goal.returns
returns c =
    let names : Names = record { shorts = c.args.shorts.now; longs = c.args.longs.now } in
    key_found (is_argument_key names c.args.adjacent) c.args.self.now c.min-end-2.result
    c.first_chained-place.result c.then_some-2.result
    (λ q past. none_past names c.args.adjacent c.args.self.now (length c.in-Some.chains.now.classes)
    c.min-end-2.result q c.in-Some.ensures.keyless (c.min-end-2.ensures
    ∙ (ap (λ t. min t.end c.len.result) c.self.view_is
    ∙ ap (min c.args.self.now.end) c.len.ensures)) past)
    (none_among names c.args.adjacent c.args.self.now c.min-end-2.result
    c.first_chained-place.result
    c.first_chained-place.ensures) c.first_chained-place.ensures.matches c.then_some-2.ensures
