use Rattle.run_queues.proofs.CompletionSteps.{collects}
use Rattle.run_queues.proofs.completions.CompletionQueue.try_collect.Goals as goal

pub pop_now_as-requires-clause-rule : goal.pop_now_as-requires-clause-rule
pop_now_as-requires-clause-rule g c = (collects _ _ _ c.collector.invariant.1, λ items views b at. tt)
