use Rattle.std.proofs.Common.{ap, rules}
use Rattle.percpu_gate.proofs.ControlSteps.{control_at}
use Rattle.percpu_gate.proofs.KillSteps.{sets_dead}
use Rattle.percpu_gate.proofs.control_seat.ControlSeat.set_dead.Goals as goal

pub fetch_or-requires : goal.fetch_or-requires
fetch_or-requires c = (rw (← c.gate.view_is, ← c.self.view_is) at (ap (λ g. g.id) c.requires.own), search rules, sets_dead c.gate.inside.table.shared.key _ _ _ (control_at c.gate.inside.table.shared.key _ _ _ c.self.invariant (rw (← c.gate.view_is, ← c.self.view_is) at c.requires.own)) (rw (← c.self.view_is) at c.requires.enabled))
