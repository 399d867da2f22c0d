use Rattle.std.proofs.Common.{ap, rules}
use Rattle.percpu_gate.proofs.PassSteps.{pass_at, minus_first, loads_word, word_as}
use Rattle.percpu_gate.proofs.pass_seat.PassSeat.load_word.Goals as goal

pub load-requires : goal.load-requires
load-requires c = (rw (← c.gate.view_is, ← c.self.view_is) at (ap (λ g. g.id) c.requires.own), search rules, rw (minus_first c.args.k) (loads_word c.gate.inside.table.shared.key _ _ _ (pass_at c.gate.inside.table.shared.key _ _ _ c.self.invariant (rw (← c.gate.view_is, ← c.self.view_is) at c.requires.own)) c.args.k (rw (← c.gate.view_is, ← c.self.view_is) at c.requires.enabled)))

pub returns-clause-step : goal.returns-clause-step
returns-clause-step c = rw (← c.gate.view_is, ← c.self.view_is) (word_as c.gate.inside.table.shared.key 0 0 _ (pass_at c.gate.inside.table.shared.key _ _ _ c.self.invariant (rw (← c.gate.view_is, ← c.self.view_is) at c.requires.own)) _ _ _ c.args.k (rw (minus_first c.args.k) at c.load.ensures.2)).0

pub returns-clause-steps : goal.returns-clause-steps
returns-clause-steps c = rw (← c.self.view_is) (word_as c.gate.inside.table.shared.key 0 0 _ (pass_at c.gate.inside.table.shared.key _ _ _ c.self.invariant (rw (← c.gate.view_is, ← c.self.view_is) at c.requires.own)) c.gate.inside.table.shared.table_id _ _ c.args.k (rw (minus_first c.args.k) at c.load.ensures.2)).1
