use Rattle.std.proofs.Common.{ap, rules}
use Rattle.percpu_gate.proofs.ControlSteps.{control_at}
use Rattle.percpu_gate.proofs.WordSteps.{stores_word}
use Rattle.percpu_gate.proofs.PassSteps.{minus_first}
use Rattle.percpu_gate.proofs.control_seat.ControlSeat.store_word.Goals as goal

pub store-requires : goal.store-requires
store-requires c = (rw (← c.gate.view_is, ← c.self.view_is) at (ap (λ g. g.id) c.requires.own), search rules, rw (minus_first c.args.k) (stores_word c.gate.inside.table.shared.key _ _ _ (control_at c.gate.inside.table.shared.key _ _ _ c.self.invariant (rw (← c.gate.view_is, ← c.self.view_is) at c.requires.own)) c.args.k c.args.v (rw (← c.self.view_is) at c.requires.zero) (rw (← c.gate.view_is, ← c.self.view_is) at c.requires.enabled)))
