use Rattle.std.proofs.Common.{◌≡◌}
use Rattle.freeze_queue.proofs.freezer.Freezer.sleep_until_drained.Given as goal

abbrev pub invariant-loop : goal.invariant-loop
invariant-loop g l =
    (goal.iterator-loop g).can_next l.iterator' × (goal.iterator-loop g).is_finite l.iterator'
    × (l.self ≡ record l.initial.self { drained = l.self.drained; seat = record l.initial.self.seat { knows_zero = l.self.seat.knows_zero } })
