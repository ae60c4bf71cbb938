use Rattle.std.proofs.Common.{is_some, rules, map, string_bytes}
use Rattle.example_guide.proofs.Telling.{tells_files}
use Rattle.example_guide.proofs.head.lines_of.Goals as goal

pub returns-clause-lines : goal.returns-clause-lines
returns-clause-lines c =
    let head = c.in_ok-head in
    tells_files (map string_bytes head.head.files.items) (is_some head.head.bytes) (search rules)
    head.ensures.by_bytes
