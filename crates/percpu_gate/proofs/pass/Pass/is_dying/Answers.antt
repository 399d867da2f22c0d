use Rattle.std.proofs.Common.{sym, ap, ◌∙◌}
use Rattle.percpu_gate.proofs.Grounds.{looked_for_dead, found_dead, dead_counted}
use Rattle.percpu_gate.proofs.pass.Pass.is_dying.Goals as goal

pub returns-clause-ground : goal.returns-clause-ground
returns-clause-ground g c = λ dead. found_dead _ _ _ c.look.ensures.step (sym c.is_dead.ensures ∙ dead)

pub returns-clause-step : goal.returns-clause-step
returns-clause-step g c = rw (← c.gate.view_is, ← c.self.view_is) (looked_for_dead _ _ _ _ (ap (λ s. s.pending) c.self.invariant.0) c.is_dead.ensures c.look.ensures.step)

pub returns-clause-times : goal.returns-clause-times
returns-clause-times g c = rw (← c.self.view_is) (dead_counted _ _ _ _ c.is_dead.ensures c.look.ensures.step)
