use Rattle.std.proofs.Common.{ap, rules}
use Rattle.percpu_gate.proofs.PassSteps.{pass_at, adds_get, got_as}
use Rattle.percpu_gate.proofs.pass_seat.PassSeat.add_get.Goals as goal

pub fetch_add-requires : goal.fetch_add-requires
fetch_add-requires c = (rw (← c.gate.view_is, ← c.self.view_is) at (ap (λ g. g.id) c.requires.own), search rules, adds_get c.gate.inside.table.shared.key _ _ _ (pass_at c.gate.inside.table.shared.key _ _ _ c.self.invariant (rw (← c.gate.view_is, ← c.self.view_is) at c.requires.own)) c.from.result (search rules) (rw (← c.self.view_is, ← c.from.ensures) at c.requires.enabled))

pub returns-clause-step : goal.returns-clause-step
returns-clause-step c = rw (← c.gate.view_is, ← c.self.view_is, ← c.from.ensures) (got_as c.gate.inside.table.shared.key 0 0 _ (pass_at c.gate.inside.table.shared.key _ _ _ c.self.invariant (rw (← c.gate.view_is, ← c.self.view_is) at c.requires.own)) _ _ _ c.from.result c.fetch_add.ensures.2).0

pub returns-clause-steps : goal.returns-clause-steps
returns-clause-steps c = rw (← c.self.view_is, ← c.from.ensures) (got_as c.gate.inside.table.shared.key 0 0 _ (pass_at c.gate.inside.table.shared.key _ _ _ c.self.invariant (rw (← c.gate.view_is, ← c.self.view_is) at c.requires.own)) c.gate.inside.table.shared.table_id _ _ c.from.result c.fetch_add.ensures.2).1
