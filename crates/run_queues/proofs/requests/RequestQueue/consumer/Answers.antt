use Rattle.std.proofs.Common.{arith, ap}
use Rattle.run_queues.proofs.RequestSteps.{forks}
use Rattle.run_queues.proofs.requests.RequestQueue.consumer.Goals as goal

pub another-seat-requires-clause-rule : goal.another-seat-requires-clause-rule
another-seat-requires-clause-rule g c = forks _ _ _ (let parts = ap (λ s. s.parts) c.source.view_is in let many = c.requires.parts in omega arith)
