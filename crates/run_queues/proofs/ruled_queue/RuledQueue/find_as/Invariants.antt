use Rattle.std.proofs.Common.{◌≡◌}
use Rattle.crossbeam_queue.specs.Passes.{view, IsSamePass}
use Rattle.run_queues.proofs.ruled_queue.RuledQueue.find_as.Given as goal

abbrev pub invariant-loop-look : goal.invariant-loop-look
invariant-loop-look g l = IsSamePass l.initial.pass l.pass × (view l.pass ≡ view l.initial.pass)
