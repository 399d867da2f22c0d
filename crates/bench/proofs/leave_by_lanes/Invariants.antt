use Rattle.std.proofs.Common.{◌≡◌, false}
use Rattle.freeze_queue.specs.BiasedTags.{queue_of, in_now}
use Rattle.bench.proofs.leave_by_lanes.Given as goal

-- the tag is of this queue, and has left in between two requests
abbrev pub invariant-loop : goal.invariant-loop
invariant-loop g l = (queue_of l.tag ≡ l.queue) × (in_now l.tag ≡ false)
