use Rattle.run_queues.proofs.RequestSteps.{begins}
use Rattle.run_queues.proofs.requests.RequestQueue.new.Goals as goal

pub new-requires-clause-rule : goal.new-requires-clause-rule
new-requires-clause-rule g c = begins g.row.T.Denot g.T.Numbered.number
