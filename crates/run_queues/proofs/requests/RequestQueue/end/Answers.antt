use Rattle.run_queues.proofs.RequestSteps.{ends}
use Rattle.run_queues.proofs.requests.RequestQueue.end.Goals as goal

pub push_as-requires-clause-rule : goal.push_as-requires-clause-rule
push_as-requires-clause-rule g c = (ends _ _ _ _ c.source.invariant.1, λ items views b at. tt)
