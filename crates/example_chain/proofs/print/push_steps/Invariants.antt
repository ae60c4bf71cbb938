-- The lines of the steps that the loop has passed are appended.
use Rattle.std.proofs.Common.{◌≡◌, ◌++◌, drop, string_bytes}
use Rattle.example_chain.specs.Running.{step_lines}
use Rattle.example_chain.proofs.print.push_steps.Given as goal

abbrev pub invariant-loop-step : goal.invariant-loop-step
invariant-loop-step l = string_bytes l.text ++ step_lines (drop l.step-index l.steps) ≡ string_bytes
    l.fn.text ++ step_lines l.steps
