use Rattle.bench.specs.Own.{IsOwn}
use Rattle.bench.proofs.through_queue.Given as goal

-- the tag is of this queue, and has left in between two batches
abbrev pub invariant-loop : goal.invariant-loop
invariant-loop g l = IsOwn l.queue l.own
