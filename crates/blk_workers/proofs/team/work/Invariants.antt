use Rattle.std.proofs.Common.{◌≡◌, ◌<◌, All, length}
use Rattle.run_queues.specs.Numbers.{IsIncreasing}
use Rattle.script_meaning.specs.Requests.{accepted_in_all}
use Rattle.blk_workers.specs.Progress.{HasCounted}
use Rattle.blk_workers.proofs.team.work.Given as goal

abbrev pub invariant-loop : goal.invariant-loop
invariant-loop g l =
    (goal.iterator-loop g).can_next l.iterator' × (goal.iterator-loop g).is_finite l.iterator'
    × (l.consumer.queue ≡ l.initial.consumer.queue) × (accepted_in_all g.J.Run.script < l.consumer.room) × All (λ n. n < accepted_in_all g.J.Run.script) l.consumer.drawn
    × (l.acknowledgements ≡ length l.consumer.drawn) × HasCounted g.L.QueueNames.free_tags (length l.consumer.drawn) l.tags × IsIncreasing l.consumer.drawn
