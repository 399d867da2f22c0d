use Rattle.percpu_gate.proofs.Ending.{last_moment}
use Rattle.percpu_gate.proofs.table.GateTable.close.Goals as goal

pub returns : goal.returns
returns c = let last = c.close_with-closed.ensures.values.2 in rw (← c.self.view_is) (last_moment c.self.inside.table.shared.key _ _ _ c.into_seat.ensures.1 last.0 last.1)
