use Rattle.std.proofs.Common.{append_assoc, codes, encode_utf8}
use Rattle.bpaf_pages.proofs.rows.key_names.Goals as goal

pub returns-in-Both : goal.returns-in-Both
returns-in-Both c =
    rw (c.in-Both.is, append_assoc (encode_utf8 c.in-Both.short) (codes ", --") c.in-Both.long)
    c.format-in-Both.ensures.ok
