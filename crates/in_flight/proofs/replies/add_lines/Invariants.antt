use Rattle.std.proofs.Common.{◌≡◌, ◌++◌, take}
use Rattle.in_flight.specs.Table.{joined}
use Rattle.in_flight.proofs.replies.add_lines.Given as goal

abbrev pub invariant-loop-place : goal.invariant-loop-place
invariant-loop-place l = l.text.items ≡ l.initial.text.items ++ joined (take l.place l.lines.items)
