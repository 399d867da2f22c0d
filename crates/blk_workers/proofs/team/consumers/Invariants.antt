use Rattle.std.proofs.Common.{◌≡◌, ◌-◌, All, length}
use Rattle.blk_workers.specs.Progress.{IsNewConsumer}
use Rattle.blk_workers.proofs.team.consumers.Given as goal

abbrev pub invariant-loop-worker : goal.invariant-loop-worker
invariant-loop-worker g l =
    (l.source ≡ record l.initial.source { parts = l.initial.source.parts - l._worker })
    × (length l.consumers.items ≡ l._worker) × All (IsNewConsumer g.L.QueueNames.requests l.numbers_each) l.consumers.items
