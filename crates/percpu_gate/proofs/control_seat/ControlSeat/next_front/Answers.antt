use Rattle.std.proofs.Common.{ap, rules}
use Rattle.percpu_gate.proofs.ControlSteps.{control_at}
use Rattle.percpu_gate.proofs.RevivalSteps.{stores_next_front}
use Rattle.percpu_gate.proofs.control_seat.ControlSeat.next_front.Goals as goal

pub store-requires : goal.store-requires
store-requires c = (rw (← c.gate.view_is, ← c.self.view_is) at (ap (λ g. g.id) c.requires.own), search rules, stores_next_front c.gate.inside.table.shared.key _ _ _ (control_at c.gate.inside.table.shared.key _ _ _ c.self.invariant (rw (← c.gate.view_is, ← c.self.view_is) at c.requires.own)) c.args.front (rw (← c.self.view_is) at c.requires.next) (rw (← c.self.view_is) at c.requires.enabled))
