-- All values of the program on the same words print the same lines.
use Rattle.std.proofs.Common.{List, ap, map, refl, string_bytes}
use Rattle.bpaf_program.proofs.OfCommands as of
use Rattle.example_notes.specs.Notes.{lines, tag_lines, task_lines}
use Rattle.example_notes.specs.declared.options.Tag.TheVariants as tag
use Rattle.example_notes.specs.declared.options.Task.TheVariants as task
use Rattle.example_notes.specs.Notes as notes

-- of all values the lines are seen
pub same_lines : (words : List of.String)
    → of.Alike lines (notes.IsNotesOf (map string_bytes words))
same_lines words =
    of.program_looks_one notes.notes_parser (of.con_seen notes.notes_of lines
    (λ x y same. rw (ap (λ p. p.0) same, ap (λ p. p.1.0) same, ap (λ p. p.1.1) same) refl)
    (of.both_seen of.switch_seen (of.both_seen (of.optional_seen of.text_seen) (of.alone_seen
    (of.choice_seen (of.map_seen notes.add_of task_lines
    (λ x y same. rw (ap (λ p. p.0) same, ap (λ p. p.1) same) refl)
    (of.command_seen (of.con_seen (λ values. values)
    (of.pair_view (λ values. map string_bytes values.items)
    (λ values. map string_bytes values.items))
    (λ x y same. same) (of.both_seen (of.many_seen of.text_seen)
    (of.alone_seen (of.many_seen of.text_word_seen))))))
    (of.choice_seen (of.map_seen task.List task_lines (λ x y same. cc)
    (of.command_seen (of.default_seen of.number_seen 10)))
    (of.map_seen task.Tag task_lines (λ x y same. same) (of.command_seen
    (of.choice_seen
    (of.map_seen tag.Add tag_lines (λ x y same. cc) (of.command_seen of.text_word_seen))
    (of.map_seen tag.Remove tag_lines (λ x y same. cc)
    (of.command_seen of.text_word_seen)))))))))))
    (notes.program_given (map string_bytes words)) (of.are_texts words)
