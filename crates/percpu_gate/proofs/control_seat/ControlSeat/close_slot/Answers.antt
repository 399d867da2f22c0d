use Rattle.std.proofs.Common.{ap, rules}
use Rattle.percpu_gate.proofs.ControlSteps.{control_at}
use Rattle.percpu_gate.proofs.SwitchSteps.{closes_at, closed_at}
use Rattle.percpu_gate.proofs.control_seat.ControlSeat.close_slot.Goals as goal

pub swap-found-requires : goal.swap-found-requires
swap-found-requires c = (rw (← c.gate.view_is, ← c.self.view_is) at (ap (λ g. g.id) c.requires.own), search rules, rw c.place_of-place.ensures (closes_at c.gate.inside.table.shared.key _ _ _ (control_at c.gate.inside.table.shared.key _ _ _ c.self.invariant (rw (← c.gate.view_is, ← c.self.view_is) at c.requires.own)) c.args.slot (rw (← c.self.view_is) at c.requires.next) (rw (← c.gate.view_is, ← c.self.view_is) at c.requires.enabled)))

pub returns-clause-step : goal.returns-clause-step
returns-clause-step c = rw (← c.gate.view_is, ← c.self.view_is) (closed_at c.gate.inside.table.shared.key 0 0 _ (control_at c.gate.inside.table.shared.key _ _ _ c.self.invariant (rw (← c.gate.view_is, ← c.self.view_is) at c.requires.own)) _ _ _ c.args.slot c.slot_delta.result (rw (← c.self.view_is) at c.requires.next) c.slot_delta.ensures (rw c.place_of-place.ensures at c.swap-found.ensures.2)).0

pub returns-clause-moves : goal.returns-clause-moves
returns-clause-moves c = rw (← c.self.view_is) (closed_at c.gate.inside.table.shared.key 0 0 _ (control_at c.gate.inside.table.shared.key _ _ _ c.self.invariant (rw (← c.gate.view_is, ← c.self.view_is) at c.requires.own)) c.gate.inside.table.shared.table_id _ _ c.args.slot c.slot_delta.result (rw (← c.self.view_is) at c.requires.next) c.slot_delta.ensures (rw c.place_of-place.ensures at c.swap-found.ensures.2)).1
