use Rattle.std.proofs.Common.{◌≡◌, ◌++◌, drop, string_bytes}
use Rattle.std.specs.Prelude.{encode_utf8_all}
use Rattle.bpaf_messages.proofs.ambiguity.push_letters.Given as goal

abbrev pub invariant-loop-letter : goal.invariant-loop-letter
invariant-loop-letter l =
    string_bytes l.text ++ encode_utf8_all (drop l.letter-index l.letters)
    ≡ string_bytes l.initial.text ++ encode_utf8_all l.letters
