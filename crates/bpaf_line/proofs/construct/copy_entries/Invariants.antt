use Rattle.std.proofs.Common.{◌≡◌, ◌++◌, map, string_bytes}
use Rattle.bpaf_words.specs.Arguments.{entries_of}
use Rattle.bpaf_line.proofs.construct.copy_entries.Given as goal

abbrev pub invariant-loop-name : goal.invariant-loop-name
invariant-loop-name l = l.entries.items ++ map (λ e. (string_bytes e.0, string_bytes e.1))
    l.name-iterator ≡ entries_of l.env
