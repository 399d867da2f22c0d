use Rattle.std.proofs.Common.{arith, ap}
use Rattle.run_queues.proofs.RequestSteps.{pops}
use Rattle.run_queues.proofs.requests.RequestQueue.draw.Goals as goal

pub pop_as-drawn-requires-clause-rule : goal.pop_as-drawn-requires-clause-rule
pop_as-drawn-requires-clause-rule g c = (pops _ _ _ (let one = ap (λ v. v.parts) c.consumer.invariant.1 in omega arith), λ items views b at. tt)
