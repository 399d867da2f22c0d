use Rattle.std.proofs.Common.{◌≡◌}
use Rattle.percpu_gate.specs.declared.tried.Put.TheVariants.{Last}
use Rattle.queue_core.specs.Biased.{DropsLast}
use Rattle.queue_core.proofs.freezer.Freezer.reclaim_all.Given as goal

abbrev pub invariant-loop-lane : goal.invariant-loop-lane
invariant-loop-lane l = (l.self ≡ l.fn.self) × (l.last ≡ Last → DropsLast l.fn.queue)
