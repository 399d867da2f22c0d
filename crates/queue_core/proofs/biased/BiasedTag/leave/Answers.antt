use Rattle.queue_core.proofs.Brought.{leaves_after}
use Rattle.queue_core.proofs.biased.BiasedTag.leave.Goals as goal

pub returns-clause-steps : goal.returns-clause-steps
returns-clause-steps c plain = leaves_after _ _ _ _ _ _ (c.leave_biased.ensures.over c.if-leave_biased.false) (c.leave_gate.ensures.steps plain)
