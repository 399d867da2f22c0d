use Rattle.std.proofs.Common.{ap, rules}
use Rattle.percpu_gate.proofs.PassSteps.{pass_at}
use Rattle.percpu_gate.proofs.SlotSteps.{slot_of_place, looks_at_slot, slot_looked_as}
use Rattle.percpu_gate.proofs.pass_seat.PassSeat.look_at_slot.Goals as goal

pub load-requires : goal.load-requires
load-requires c = (rw (← c.gate.view_is, ← c.self.view_is) at (ap (λ g. g.id) c.requires.own), search rules, rw (c.place_of-place.ensures, slot_of_place c.args.slot) (looks_at_slot c.gate.inside.table.shared.key _ _ _ (pass_at c.gate.inside.table.shared.key _ _ _ c.self.invariant (rw (← c.gate.view_is, ← c.self.view_is) at c.requires.own)) c.args.slot (rw (← c.gate.view_is, ← c.self.view_is) at c.requires.enabled)))

pub returns-clause-step : goal.returns-clause-step
returns-clause-step c = rw (← c.gate.view_is, ← c.self.view_is) (slot_looked_as c.gate.inside.table.shared.key 0 0 _ (pass_at c.gate.inside.table.shared.key _ _ _ c.self.invariant (rw (← c.gate.view_is, ← c.self.view_is) at c.requires.own)) _ _ _ c.args.slot c.slot_delta.result c.slot_delta.ensures (rw (← c.gate.view_is, ← c.self.view_is) at c.requires.enabled) (rw (c.place_of-place.ensures, slot_of_place c.args.slot) at c.load.ensures.2)).0

pub returns-clause-steps : goal.returns-clause-steps
returns-clause-steps c = rw (← c.self.view_is) (slot_looked_as c.gate.inside.table.shared.key 0 0 _ (pass_at c.gate.inside.table.shared.key _ _ _ c.self.invariant (rw (← c.gate.view_is, ← c.self.view_is) at c.requires.own)) c.gate.inside.table.shared.table_id _ _ c.args.slot c.slot_delta.result c.slot_delta.ensures (rw (← c.gate.view_is, ← c.self.view_is) at c.requires.enabled) (rw (c.place_of-place.ensures, slot_of_place c.args.slot) at c.load.ensures.2)).1
