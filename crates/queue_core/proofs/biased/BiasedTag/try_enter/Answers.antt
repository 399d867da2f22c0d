use Rattle.queue_core.proofs.Brought.{enters_after}
use Rattle.queue_core.proofs.biased.BiasedTag.try_enter.Goals as goal

pub returns-then-try_enter_biased-clause-held : goal.returns-then-try_enter_biased-clause-held
returns-then-try_enter_biased-clause-held c _ = c.try_enter_biased.ensures.held c.if-try_enter_biased.true

pub returns-clause-steps : goal.returns-clause-steps
returns-clause-steps c plain = enters_after _ _ _ _ _ _ (c.try_enter_biased.ensures.over c.if-try_enter_biased.false) (c.enter_gate.ensures.steps plain)
