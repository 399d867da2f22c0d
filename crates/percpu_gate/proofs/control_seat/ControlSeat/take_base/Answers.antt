use Rattle.std.proofs.Common.{ap, rules}
use Rattle.percpu_gate.proofs.ControlSteps.{control_at}
use Rattle.percpu_gate.proofs.RevivalSteps.{takes_base, base_taken_as}
use Rattle.percpu_gate.proofs.control_seat.ControlSeat.take_base.Goals as goal

pub fetch_add-requires : goal.fetch_add-requires
fetch_add-requires c = (rw (← c.gate.view_is, ← c.self.view_is) at (ap (λ g. g.id) c.requires.own), search rules, takes_base c.gate.inside.table.shared.key _ _ _ (control_at c.gate.inside.table.shared.key _ _ _ c.self.invariant (rw (← c.gate.view_is, ← c.self.view_is) at c.requires.own)) (rw (← c.self.view_is) at c.requires.enabled))

pub returns-clause-step : goal.returns-clause-step
returns-clause-step c = rw (← c.gate.view_is, ← c.self.view_is) (base_taken_as c.gate.inside.table.shared.key 0 0 _ (control_at c.gate.inside.table.shared.key _ _ _ c.self.invariant (rw (← c.gate.view_is, ← c.self.view_is) at c.requires.own)) _ _ _ c.fetch_add.ensures.2).0

pub returns-clause-moves : goal.returns-clause-moves
returns-clause-moves c = rw (← c.self.view_is) (base_taken_as c.gate.inside.table.shared.key 0 0 _ (control_at c.gate.inside.table.shared.key _ _ _ c.self.invariant (rw (← c.gate.view_is, ← c.self.view_is) at c.requires.own)) c.gate.inside.table.shared.table_id _ _ c.fetch_add.ensures.2).1
