use Rattle.std.proofs.Common.{arith}
use Rattle.bpaf_base.specs.Items.{is_positional}
use Rattle.bpaf_line.proofs.Places.{no_word_along, none_past_taken}
use Rattle.bpaf_line.proofs.state.State.look_for_word.Goals as goal

pub returns-in_default : goal.returns-in_default
returns-in_default c = none_past_taken is_positional c.args.self.now _ _
    c.first_in_turn.ensures.none c.past_taken.ensures

pub returns : goal.returns
returns c = none_past_taken is_positional c.args.self.now _ _
    (no_word_along c.args.self.now c.in-Some.chains.now c.first_word.result c.len.result
    c.first_along-place.result c.in-Some.ensures c.first_word.ensures (omega (arith, c.len.ensures))
    c.first_along-place.ensures) c.past_taken-2.ensures
