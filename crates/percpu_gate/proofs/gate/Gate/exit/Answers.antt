use Rattle.std.proofs.Common.{sym, ◌∙◌}
use Rattle.percpu_gate.proofs.Ending.{ended}
use Rattle.percpu_gate.proofs.gate.Gate.exit.Goals as goal

pub returns-clause-nothing_lost : goal.returns-clause-nothing_lost
returns-clause-nothing_lost g c = rw (← c.self.view_is) (ended _ _ (rw c.into_seat.ensures.seat at c.close.ensures) c.into_seat.ensures.stands.0 c.into_seat.ensures.stands.1 (rw c.passes.ensures at (sym c.refuse_exit.ensures ∙ c.in_default.is)))
