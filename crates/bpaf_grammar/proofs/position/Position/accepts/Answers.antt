use Rattle.std.proofs.Common.{rules}
use Rattle.bpaf_grammar.proofs.position.Position.accepts.Goals as goal

pub returns-in-NonStrict : goal.returns-in-NonStrict
returns-in-NonStrict c = search rules
