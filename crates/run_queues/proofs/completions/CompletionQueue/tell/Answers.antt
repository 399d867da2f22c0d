use Rattle.std.proofs.Common.{ap, sym, ◌∙◌}
use Rattle.run_queues.specs.Completions.{turn_of}
use Rattle.run_queues.proofs.CompletionSteps.{tells}
use Rattle.run_queues.proofs.completions.CompletionQueue.tell.Goals as goal

pub push_as-requires-clause-rule : goal.push_as-requires-clause-rule
push_as-requires-clause-rule g c = (tells _ _ _ _ _ (c.token.invariant.1 ∙ ap turn_of (ap (λ d. d.number) c.token.view_is ∙ sym c.requires.number)), λ items views b at. tt)
