use Rattle.std.proofs.Common.{sym, ◌∙◌}
use Rattle.bpaf_laws.proofs.Keeping.{reading_told}
use Rattle.bpaf.proofs.LeafLemmas.{word_read, word_misplaced}
use Rattle.bpaf_line.proofs.Places.{match_is_open}
use Rattle.bpaf_base.specs.Items.{is_positional}
use Rattle.bpaf.proofs.leaves.positional.ParsePositionalParser.eval.Goals as goal

pub take-requires : goal.take-requires
take-requires g c = match_is_open is_positional c.args.state.now c.in_ok-place.place
    c.in_ok-place.ensures.0.matches

pub take-requires-2 : goal.take-requires-2
take-requires-2 g c = match_is_open is_positional c.args.state.now c.in_ok-place.place
    c.in_ok-place.ensures.0.matches

pub returns-then-not-accepts : goal.returns-then-not-accepts
returns-then-not-accepts g c =
    let word = c.in_ok-place.ensures in
    word_misplaced _ _ _ (record { first = word.0; is = word.1; taken = c.take.ensures.taken }) _
    (sym c.accepts.ensures ∙ c.if-not-accepts.true) c.in_ok-misplaced.ensures

pub returns : goal.returns
returns g c =
    let word = c.in_ok-place.ensures in
    word_read _ _ _ (record { first = word.0; is = word.1; taken = c.take-2.ensures.taken }) _
    (sym c.accepts.ensures ∙ c.if-not-accepts.false)
    (reading_told g.T.FromText.means c.in_ok-place.text.now _ _ _
    (rw c.as_str.ensures at c.from_text-read.ensures) c.value_or_refusal.ensures)
