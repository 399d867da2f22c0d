use Rattle.std.proofs.Common.{ap, rules}
use Rattle.percpu_gate.proofs.PassSteps.{pass_at, subtracts, subtracted_as}
use Rattle.percpu_gate.proofs.pass_seat.PassSeat.subtract.Goals as goal

pub fetch_sub-found-requires : goal.fetch_sub-found-requires
fetch_sub-found-requires c = (rw (← c.gate.view_is, ← c.self.view_is) at (ap (λ g. g.id) c.requires.own), search rules, subtracts c.gate.inside.table.shared.key _ _ _ (pass_at c.gate.inside.table.shared.key _ _ _ c.self.invariant (rw (← c.gate.view_is, ← c.self.view_is) at c.requires.own)) c.from-n.result (rw (← c.self.view_is, ← c.from-n.ensures) at c.requires.enabled))

pub returns-clause-step : goal.returns-clause-step
returns-clause-step c = rw (← c.gate.view_is, ← c.self.view_is, ← c.from-n.ensures)
    (subtracted_as c.gate.inside.table.shared.key 0 0 _ (pass_at c.gate.inside.table.shared.key _ _ _ c.self.invariant (rw (← c.gate.view_is, ← c.self.view_is) at c.requires.own)) _ _ _ c.from-n.result (rw (← c.self.view_is, ← c.from-n.ensures) at c.requires.enabled) c.fetch_sub-found.ensures.2).0

pub returns-clause-steps : goal.returns-clause-steps
returns-clause-steps c = rw (← c.self.view_is, ← c.from-n.ensures)
    (subtracted_as c.gate.inside.table.shared.key 0 0 _ (pass_at c.gate.inside.table.shared.key _ _ _ c.self.invariant (rw (← c.gate.view_is, ← c.self.view_is) at c.requires.own)) c.gate.inside.table.shared.table_id _ _ c.from-n.result (rw (← c.self.view_is, ← c.from-n.ensures) at c.requires.enabled) c.fetch_sub-found.ensures.2).1
