use Rattle.std.proofs.Common.{ap, rules, refl}
use Rattle.percpu_core.specs.declared.control_event.ControlEvent.TheVariants.{ClearDead}
use Rattle.percpu_gate.proofs.ControlSteps.{control_at, done_as}
use Rattle.percpu_gate.proofs.RevivalSteps.{clears_dead}
use Rattle.percpu_gate.proofs.control_seat.ControlSeat.clear_dead.Goals as goal

pub fetch_and-requires : goal.fetch_and-requires
fetch_and-requires c = (rw (← c.gate.view_is, ← c.self.view_is) at (ap (λ g. g.id) c.requires.own), search rules, clears_dead c.gate.inside.table.shared.key _ _ _ (control_at c.gate.inside.table.shared.key _ _ _ c.self.invariant (rw (← c.gate.view_is, ← c.self.view_is) at c.requires.own)) (rw (← c.self.view_is) at c.requires.enabled))

pub returns-clause-step : goal.returns-clause-step
returns-clause-step c = rw (← c.gate.view_is, ← c.self.view_is) (done_as c.gate.inside.table.shared.key 0 0 _ (control_at c.gate.inside.table.shared.key _ _ _ c.self.invariant (rw (← c.gate.view_is, ← c.self.view_is) at c.requires.own)) _ _ _ _ _ (λ s cells. refl) c.fetch_and.ensures.2).0

pub returns-clause-moves : goal.returns-clause-moves
returns-clause-moves c = rw (← c.self.view_is) (done_as c.gate.inside.table.shared.key 0 0 _ (control_at c.gate.inside.table.shared.key _ _ _ c.self.invariant (rw (← c.gate.view_is, ← c.self.view_is) at c.requires.own)) c.gate.inside.table.shared.table_id _ _ ClearDead _ (λ s cells. refl) c.fetch_and.ensures.2).1
