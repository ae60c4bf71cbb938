use Rattle.std.proofs.Common.{◌≡◌, ◌++◌, take}
use Rattle.bpaf_line.specs.Situation.{with_trail}
use Rattle.bpaf_line.proofs.state.State.put_all.Given as goal

abbrev pub invariant-loop-place : goal.invariant-loop-place
invariant-loop-place l = l.self ≡ with_trail l.fn.self
    (l.fn.self.trail ++ take l.place-index l.places)
