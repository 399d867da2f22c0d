use Rattle.std.proofs.Common.{ap, rules, arith}
use Rattle.percpu_gate.proofs.ControlSteps.{control_at}
use Rattle.percpu_gate.proofs.Making.{splits}
use Rattle.percpu_gate.proofs.control_seat.ControlSeat.make_pass.Goals as goal

pub split_seat-requires : goal.split_seat-requires
split_seat-requires c = (rw (← c.gate.view_is, ← c.self.view_is) at (ap (λ g. g.id) c.requires.own), search rules, splits c.gate.inside.table.shared.key _ _ (control_at c.gate.inside.table.shared.key _ _ _ c.self.invariant (rw (← c.gate.view_is, ← c.self.view_is) at c.requires.own)) (let few = rw (← c.self.view_is) at c.requires.few in omega arith))
