use Rattle.std.proofs.Common.{◌≡◌, false, ℕ}
use Rattle.queue_core.specs.BiasedTags.{queue_of, in_now}
use Rattle.freeze_queue.specs.Lanes.{TriesInVain}
use Rattle.freeze_queue.proofs.queue.BlockQueue.enter_by_lane_once_thawed.Given as goal

-- each attempt so far was in vain
abbrev pub invariant-loop : goal.invariant-loop
invariant-loop g l =
    (goal.iterator-loop g).can_next l.iterator' × (goal.iterator-loop g).is_finite l.iterator'
    × (queue_of l.tag ≡ queue_of l.initial.tag) × (in_now l.tag ≡ false)
    × ((tries : ℕ) × TriesInVain l.slot l.self tries l.initial.tag l.tag)
