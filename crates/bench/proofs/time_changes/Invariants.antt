use Rattle.std.proofs.Common.{◌≡◌}
use Rattle.bench.proofs.time_changes.Given as goal

-- the freezer is of this queue
abbrev pub invariant-loop-number : goal.invariant-loop-number
invariant-loop-number g l = l.freezer.queue ≡ l.initial.freezer.queue
