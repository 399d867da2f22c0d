use Rattle.std.proofs.Common.{ap, rules}
use Rattle.percpu_gate.proofs.ControlSteps.{control_at}
use Rattle.percpu_gate.proofs.KillSteps.{drops_base, base_dropped_as}
use Rattle.percpu_gate.proofs.control_seat.ControlSeat.drop_base.Goals as goal

pub fetch_sub-found-requires : goal.fetch_sub-found-requires
fetch_sub-found-requires c = (rw (← c.gate.view_is, ← c.self.view_is) at (ap (λ g. g.id) c.requires.own), search rules, drops_base c.gate.inside.table.shared.key _ _ _ (control_at c.gate.inside.table.shared.key _ _ _ c.self.invariant (rw (← c.gate.view_is, ← c.self.view_is) at c.requires.own)) (rw (← c.self.view_is) at c.requires.enabled))

pub returns-clause-step : goal.returns-clause-step
returns-clause-step c = rw (← c.gate.view_is, ← c.self.view_is) (base_dropped_as c.gate.inside.table.shared.key 0 0 _ (control_at c.gate.inside.table.shared.key _ _ _ c.self.invariant (rw (← c.gate.view_is, ← c.self.view_is) at c.requires.own)) _ _ _ (rw (← c.self.view_is) at c.requires.enabled) c.fetch_sub-found.ensures.2).0

pub returns-clause-moves : goal.returns-clause-moves
returns-clause-moves c = rw (← c.self.view_is) (base_dropped_as c.gate.inside.table.shared.key 0 0 _ (control_at c.gate.inside.table.shared.key _ _ _ c.self.invariant (rw (← c.gate.view_is, ← c.self.view_is) at c.requires.own)) c.gate.inside.table.shared.table_id _ _ (rw (← c.self.view_is) at c.requires.enabled) c.fetch_sub-found.ensures.2).1
