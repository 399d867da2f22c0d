use Rattle.std.proofs.Common.{◌≡◌, ◌≤◌, ℕ}
use Rattle.freeze_queue.specs.Entering.{RefusedSteps}
use Rattle.freeze_queue.proofs.queue.BlockQueue.enter_once_thawed.Given as goal

abbrev pub invariant-loop : goal.invariant-loop
invariant-loop g l =
    (goal.iterator-loop g).can_next l.iterator' × (goal.iterator-loop g).is_finite l.iterator'
    × (l.tag ≡ record l.initial.tag { releases = l.tag.releases; seat = l.tag.seat; steps = l.tag.steps }) × (l.initial.tag.releases ≤ l.tag.releases)
    × (l.tag.seat.live_given ≡ l.initial.tag.seat.live_given) × (l.tag.seat.looks ≡ l.initial.tag.seat.looks)
    × (l.initial.tag.seat.found_dead_times ≤ l.tag.seat.found_dead_times)
    × ((refused : ℕ) × RefusedSteps l.slot refused l.initial.tag.steps l.tag.steps)
