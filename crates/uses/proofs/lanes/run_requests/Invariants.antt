use Rattle.std.proofs.Common.{◌≡◌, false, map, take}
use Rattle.freeze_queue.specs.BiasedTags.{queue_of, in_now}
use Rattle.uses.specs.Lanes.{AreCut}
use Rattle.uses.proofs.lanes.run_requests.Given as goal

-- the requests so far have their commands, and the tag has left in between two of them
abbrev pub invariant-loop-request : goal.invariant-loop-request
invariant-loop-request g l = record {
  own : queue_of l.tag ≡ l.queue;
  out : in_now l.tag ≡ false;
  cut : AreCut (take l.request-index l.requests) (map (λ made. made.items) l.made.items);
}
