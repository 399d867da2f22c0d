use Rattle.run_queues.proofs.CompletionSteps.{gives}
use Rattle.run_queues.proofs.completions.CompletionQueue.token.Goals as goal

pub another-seat-requires-clause-rule : goal.another-seat-requires-clause-rule
another-seat-requires-clause-rule g c = gives _ _ _ c.collector.invariant.1
