use Rattle.std.proofs.Common.{◌≡◌, ◌≤◌}
use Rattle.script_meaning.specs.Queue.{counted}
use Rattle.script_meaning.specs.Requests.{queue_at}
use Rattle.script_overlap.specs.Partners.{Finds}
use Rattle.script_overlap.proofs.checked.earliest.Given as goal

abbrev pub invariant-loop-line : goal.invariant-loop-line
invariant-loop-line l = record {
  stands : l.queue ≡ queue_at l.script l.line-index;
  counts : counted l.queue ≤ l.line-index;
  finds : Finds l.script l.line-index l.request l.found;
}
