-- The copies so far are of the texts that the loop has passed.
use Rattle.std.proofs.Common.{◌≡◌, take}
use Rattle.bpaf_text.proofs.named.copy_texts.Given as goal

abbrev pub invariant-loop-text : goal.invariant-loop-text
invariant-loop-text l = l.copies.items ≡ take l.text-index l.texts
