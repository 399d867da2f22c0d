use Rattle.std.proofs.Common.{sym, ap, ◌∙◌}
use Rattle.percpu_gate.proofs.Grounds.{looked_for_zero, found_zero, zero_counted, step_keeps_standing}
use Rattle.percpu_gate.proofs.pass.Pass.is_zero.Goals as goal

pub returns-clause-ground : goal.returns-clause-ground
returns-clause-ground g c = λ zero. let found = found_zero _ _ _ c.look.ensures.step (sym c.is_zero.ensures ∙ zero) in (found.0, let stands = step_keeps_standing _ _ _ c.look.ensures.step in ap (λ s. s.held) stands ∙ found.1)

pub returns-clause-step : goal.returns-clause-step
returns-clause-step g c = rw (← c.gate.view_is, ← c.self.view_is) (looked_for_zero _ _ _ _ (ap (λ s. s.pending) c.self.invariant.0) c.is_zero.ensures c.look.ensures.step)

pub returns-clause-times : goal.returns-clause-times
returns-clause-times g c = rw (← c.self.view_is) (zero_counted _ _ _ _ c.is_zero.ensures c.look.ensures.step)
