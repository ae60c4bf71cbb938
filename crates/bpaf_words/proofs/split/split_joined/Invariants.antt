use Rattle.std.specs.Str.Iter.{chars_rest}
use Rattle.bpaf_words.proofs.LineLemmas.{Walked}
use Rattle.bpaf_words.proofs.split.split_joined.Given as goal

abbrev pub invariant-loop-c : goal.invariant-loop-c
invariant-loop-c l = Walked (record { flags = l.flags; arguments = l.arguments }) l.word l.letters
    l.initial.items.items l.items.items l.count (chars_rest l.rest)
