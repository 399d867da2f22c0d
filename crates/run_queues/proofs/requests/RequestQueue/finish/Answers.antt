use Rattle.std.proofs.Common.{ap, ◌∙◌}
use Rattle.run_queues.proofs.RequestSteps.{learns}
use Rattle.run_queues.proofs.requests.RequestQueue.finish.Goals as goal

pub learn_as-requires-clause-rule : goal.learn_as-requires-clause-rule
learn_as-requires-clause-rule g c =
    learns _ _ _ (ap (λ s. s.parts) c.source.view_is ∙ c.requires.parts) c.source.invariant.1 (ap (λ s. s.drained) c.source.view_is ∙ c.requires.drained)
