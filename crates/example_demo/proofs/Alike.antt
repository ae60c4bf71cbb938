-- All values of the program on words print the same lines.
use Rattle.std.proofs.Common.{◌++◌, ℕ, Bool, List, All, IsUtf8, ap, codes}
use Rattle.std.specs.Fmt.{decimal}
use Rattle.bpaf_program.proofs.OfCommands as of
use Rattle.example_demo.specs.Running.{IsOptionsOf, file_lines, lines, options_of}
use Rattle.example_demo.specs.Running.{program_given, record_of}

-- of options the lines are seen
pub same_lines : (words : List (List ℕ)) → All IsUtf8 words → of.Alike lines (IsOptionsOf words)
same_lines words =
    of.program_looks_one record_of
    (of.con_seen options_of lines
    (λ x y same. ap (λ (seen : Bool × (ℕ × List (List ℕ))).
    of.line (codes "verbose: " ++ of.truth seen.0) ++ of.line (codes "num: " ++ decimal seen.1.0)
    ++ file_lines seen.1.1) same)
    (of.both_seen of.switch_seen
    (of.both_seen of.number_seen (of.alone_seen (of.many_seen of.text_word_seen)))))
    (program_given words)
