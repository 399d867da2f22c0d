use Rattle.std.proofs.Common.{rules, ap, ◌∙◌}
use Rattle.percpu_gate.proofs.ControlSteps.{control_at}
use Rattle.percpu_gate.proofs.Making.{joins}
use Rattle.percpu_gate.proofs.control_seat.ControlSeat.take_in.Goals as goal

pub join_seat-requires : goal.join_seat-requires
join_seat-requires c = let own = c.requires.own.0 in let seat = c.into_seat.ensures in (
  rw (← c.gate.view_is, ← c.self.view_is) at (ap (λ g. g.id) own),
  rw (← c.gate.view_is) at (ap (λ g. g.id) (seat.0 ∙ c.requires.own.1)),
  ap (λ m. m.1) seat.1,
  search rules,
  joins c.gate.inside.table.shared.key _ _ _ _ c.args.pass.view (control_at c.gate.inside.table.shared.key _ _ _ c.self.invariant (rw (← c.gate.view_is, ← c.self.view_is) at own)) (ap (λ m. m.0.view) seat.1) c.requires.idle,
)
