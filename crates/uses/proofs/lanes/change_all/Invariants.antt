use Rattle.std.proofs.Common.{◌≡◌}
use Rattle.uses.proofs.lanes.change_all.Given as goal

-- the freezer is of this queue
abbrev pub invariant-loop-limits : goal.invariant-loop-limits
invariant-loop-limits g l = l.freezer.queue ≡ l.queue
