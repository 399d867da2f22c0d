use Rattle.percpu_gate.proofs.ControlGrounds.{odd_next}
use Rattle.percpu_gate.proofs.control.Control.confirm.Goals as goal

pub returns-clause-odd : goal.returns-clause-odd
returns-clause-odd g c = rw (← c.self.invariant.3) (odd_next _ _ _ (rw (← c.self.view_is) at c.requires.phase) c.confirm.ensures.step)
