use Rattle.std.proofs.Common.{ap, rules}
use Rattle.percpu_gate.proofs.PassSteps.{pass_at, looks, looked_as}
use Rattle.percpu_gate.proofs.pass_seat.PassSeat.look.Goals as goal

pub load-requires : goal.load-requires
load-requires c = (rw (← c.gate.view_is, ← c.self.view_is) at (ap (λ g. g.id) c.requires.own), search rules, looks c.gate.inside.table.shared.key _ _ _ (pass_at c.gate.inside.table.shared.key _ _ _ c.self.invariant (rw (← c.gate.view_is, ← c.self.view_is) at c.requires.own)) (rw (← c.self.view_is) at c.requires.enabled))

pub returns-clause-step : goal.returns-clause-step
returns-clause-step c = rw (← c.gate.view_is, ← c.self.view_is) (looked_as c.gate.inside.table.shared.key 0 0 _ (pass_at c.gate.inside.table.shared.key _ _ _ c.self.invariant (rw (← c.gate.view_is, ← c.self.view_is) at c.requires.own)) _ _ _ c.load.ensures.2).0

pub returns-clause-steps : goal.returns-clause-steps
returns-clause-steps c = rw (← c.self.view_is) (looked_as c.gate.inside.table.shared.key 0 0 _ (pass_at c.gate.inside.table.shared.key _ _ _ c.self.invariant (rw (← c.gate.view_is, ← c.self.view_is) at c.requires.own)) c.gate.inside.table.shared.table_id _ _ c.load.ensures.2).1
