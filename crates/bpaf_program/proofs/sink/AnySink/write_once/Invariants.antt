-- Nothing is written by the tries that were interrupted.
use Rattle.std.specs.Io.KnownBytes.{Keeps}
use Rattle.bpaf_program.proofs.sink.AnySink.write_once.Given as goal

abbrev pub invariant-loop : goal.invariant-loop
invariant-loop g l = Keeps (g.W.Write.contents l.fn.self) (g.W.Write.contents l.self)
