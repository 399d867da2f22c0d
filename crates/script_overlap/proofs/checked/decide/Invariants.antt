use Rattle.std.proofs.Common.{◌≡◌, ◌≤◌}
use Rattle.script_meaning.specs.Queue.{counted}
use Rattle.script_meaning.specs.Requests.{accepted_before, queue_at}
use Rattle.script_overlap.specs.Ordered.{NoneInVersionOne}
use Rattle.script_overlap.specs.SpanOfRequests.{OfSectors}
use Rattle.script_overlap.proofs.OrderedLines.{IsOrderedUpTo}
use Rattle.script_overlap.proofs.Written.{AreWrittenUpTo}
use Rattle.script_overlap.proofs.checked.decide.Given as goal

abbrev pub invariant-loop-position : goal.invariant-loop-position
invariant-loop-position l = record {
  stands : l.queue ≡ queue_at l.fn.script l.position;
  counts : counted l.queue ≤ l.position;
  sectors : OfSectors l.span l.queue.sectors;
  so_far : IsOrderedUpTo l.fn.script l.position l.span l.ordered.items;
  of_version : NoneInVersionOne l.fn.script l.ordered.items;
  written : AreWrittenUpTo l.fn.script l.position l.requests.items;
  so_many : l.accepted ≡ accepted_before l.fn.script l.position;
  few : l.accepted ≤ l.position;
}
