use Rattle.std.proofs.Common.{◌≡◌, false}
use Rattle.bench.proofs.leave_each.Given as goal

-- the tag is of this queue, and has left in between two requests
abbrev pub invariant-loop : goal.invariant-loop
invariant-loop g l = (l.tag.queue ≡ l.queue) × (l.tag.entered ≡ false)
