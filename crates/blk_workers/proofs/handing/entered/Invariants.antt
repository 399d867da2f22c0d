use Rattle.std.proofs.Common.{◌≡◌, false}
use Rattle.blk_workers.proofs.handing.entered.Given as goal

abbrev pub invariant-loop : goal.invariant-loop
invariant-loop g l =
    (goal.iterator-loop g).can_next l.iterator' × (goal.iterator-loop g).is_finite l.iterator'
    × (l.tag.value.queue ≡ g.J.Run.queue) × (l.tag.value.entered ≡ false)
