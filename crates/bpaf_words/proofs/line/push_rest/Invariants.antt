use Rattle.std.proofs.Common.{◌≡◌, ◌++◌, drop, map, IsUtf8}
use Rattle.std.specs.List.{AllWithin}
use Rattle.bpaf_base.specs.declared.arg.Arg.TheVariants.{PosWord}
use Rattle.bpaf_words.specs.Arguments.{words_in}
use Rattle.bpaf_words.proofs.line.push_rest.Given as goal

abbrev pub invariant-loop-index : goal.invariant-loop-index
invariant-loop-index l = (l.items.items ++ map PosWord (drop l.index (words_in l.words))
    ≡ l.initial.items.items ++ map PosWord (drop l.from (words_in l.words)))
    × AllWithin IsUtf8 (words_in l.words) l.from l.index
