use Rattle.example_notes.proofs.print.push_tag.Goals as goal

pub returns-in-Remove : goal.returns-in-Remove
returns-in-Remove c =
    rw (c.in-Remove.is, ← c.as_str-in-Remove.ensures.value) c.push_line-in-Remove.ensures
