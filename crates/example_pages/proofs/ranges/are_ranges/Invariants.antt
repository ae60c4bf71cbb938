use Rattle.std.proofs.Common.{◌≡◌, length}
use denote.Text.{Utf8}
use denote.Shadow.{shadow}
use Rattle.example_pages.specs.Ranges.{are_ranges}
use Rattle.example_pages.proofs.ranges.are_ranges.Given as goal

-- the whole is a list of ranges where the rest is
abbrev pub invariant-loop-part : goal.invariant-loop-part
invariant-loop-part l = (are_ranges l.fn.text ≡ are_ranges l.rest) × shadow (Utf8 l.rest)

-- the rest grows shorter
abbrev pub decreases-loop-part : goal.decreases-loop-part
decreases-loop-part l = length l.rest
