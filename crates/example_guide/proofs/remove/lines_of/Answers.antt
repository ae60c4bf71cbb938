use Rattle.std.proofs.Common.{rules, map, string_bytes}
use Rattle.example_guide.proofs.Telling.{tells_files}
use Rattle.example_guide.proofs.remove.lines_of.Goals as goal

pub returns-clause-lines : goal.returns-clause-lines
returns-clause-lines c =
    let removal = c.in_ok-removal in
    tells_files (map string_bytes removal.removal.files.items) removal.removal.force (search rules)
    removal.ensures.forced
