use Rattle.std.proofs.Common.{◌≡◌, ◌++◌, List, ℕ, drop, map, string_bytes, codes}
use Rattle.std.specs.List.{flat_map}
use Rattle.bpaf_pages.proofs.help.usage_words.Given as goal

-- the entries so far, and the others behind them
abbrev pub invariant-loop-entry : goal.invariant-loop-entry
invariant-loop-entry l =
    let spaced = λ (path : List (List ℕ)). flat_map (λ entry. codes " " ++ entry) path in
    string_bytes l.text ++ spaced (map string_bytes (drop l.entry-index l.path))
    ≡ codes "Usage:" ++ spaced (map string_bytes l.path)
