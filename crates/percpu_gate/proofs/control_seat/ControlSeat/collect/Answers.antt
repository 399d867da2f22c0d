use Rattle.std.proofs.Common.{ap, rules, refl}
use Rattle.percpu_core.specs.declared.control_event.ControlEvent.TheVariants.{Collect}
use Rattle.percpu_gate.proofs.ControlSteps.{control_at, done_as}
use Rattle.percpu_gate.proofs.SwitchSteps.{collects}
use Rattle.percpu_gate.proofs.control_seat.ControlSeat.collect.Goals as goal

pub fetch_sub-requires : goal.fetch_sub-requires
fetch_sub-requires c = (rw (← c.gate.view_is, ← c.self.view_is) at (ap (λ g. g.id) c.requires.own), search rules, collects c.gate.inside.table.shared.key _ _ _ (control_at c.gate.inside.table.shared.key _ _ _ c.self.invariant (rw (← c.gate.view_is, ← c.self.view_is) at c.requires.own)) c.args.less (rw (← c.self.view_is) at c.requires.less) (rw (← c.gate.view_is, ← c.self.view_is) at c.requires.enabled))

pub returns-clause-step : goal.returns-clause-step
returns-clause-step c = rw (← c.gate.view_is, ← c.self.view_is) (done_as c.gate.inside.table.shared.key 0 0 _ (control_at c.gate.inside.table.shared.key _ _ _ c.self.invariant (rw (← c.gate.view_is, ← c.self.view_is) at c.requires.own)) _ _ _ _ _ (λ s cells. refl) c.fetch_sub.ensures.2).0

pub returns-clause-moves : goal.returns-clause-moves
returns-clause-moves c = rw (← c.self.view_is) (done_as c.gate.inside.table.shared.key 0 0 _ (control_at c.gate.inside.table.shared.key _ _ _ c.self.invariant (rw (← c.gate.view_is, ← c.self.view_is) at c.requires.own)) c.gate.inside.table.shared.table_id _ _ Collect _ (λ s cells. refl) c.fetch_sub.ensures.2).1
