use Rattle.run_queues.proofs.CompletionSteps.{collects}
use Rattle.run_queues.proofs.completions.CompletionQueue.collect.Goals as goal

pub pop_as-requires-clause-rule : goal.pop_as-requires-clause-rule
pop_as-requires-clause-rule g c = (collects _ _ _ c.collector.invariant.1, λ items views b at. tt)
