use Rattle.std.proofs.Common.{◌≡◌}
use Rattle.crossbeam_queue.specs.Passes.{view, IsSamePass}
use Rattle.run_queues.proofs.ruled_queue.RuledQueue.look_as.Given as goal

abbrev pub invariant-loop-tried : goal.invariant-loop-tried
invariant-loop-tried g l = IsSamePass l.initial.pass l.pass × (view l.pass ≡ view l.initial.pass)
