use Rattle.std.proofs.Common.{ap, rules}
use Rattle.percpu_gate.proofs.PassSteps.{pass_at}
use Rattle.percpu_gate.proofs.SlotSteps.{gives_on_slot, given_as}
use Rattle.percpu_gate.proofs.pass_seat.PassSeat.give_on_slot.Goals as goal

pub compare_exchange-found-requires : goal.compare_exchange-found-requires
compare_exchange-found-requires c = (rw (← c.gate.view_is, ← c.self.view_is) at (ap (λ g. g.id) c.requires.own), search rules, rw c.place_of-place.ensures (gives_on_slot c.gate.inside.table.shared.key _ _ _ (pass_at c.gate.inside.table.shared.key _ _ _ c.self.invariant (rw (← c.gate.view_is, ← c.self.view_is) at c.requires.own)) c.args.slot c.args.seen c.args.n c.slot_word-expected.result c.word_of_fewer-wanted.result (search rules) (search rules) (rw (← c.gate.view_is, ← c.self.view_is) at c.requires.enabled)))

pub returns-clause-step : goal.returns-clause-step
returns-clause-step c = rw (← c.gate.view_is, ← c.self.view_is) (given_as c.gate.inside.table.shared.key 0 0 _ (pass_at c.gate.inside.table.shared.key _ _ _ c.self.invariant (rw (← c.gate.view_is, ← c.self.view_is) at c.requires.own)) _ _ _ c.args.slot c.args.seen c.args.n c.slot_word-expected.result c.word_of_fewer-wanted.result (search rules) (search rules) (rw (← c.gate.view_is, ← c.self.view_is) at c.requires.enabled) (rw c.place_of-place.ensures at c.compare_exchange-found.ensures.2)).0

pub returns-clause-steps : goal.returns-clause-steps
returns-clause-steps c = rw (← c.self.view_is) (given_as c.gate.inside.table.shared.key 0 0 _ (pass_at c.gate.inside.table.shared.key _ _ _ c.self.invariant (rw (← c.gate.view_is, ← c.self.view_is) at c.requires.own)) c.gate.inside.table.shared.table_id _ _ c.args.slot c.args.seen c.args.n c.slot_word-expected.result c.word_of_fewer-wanted.result (search rules) (search rules) (rw (← c.gate.view_is, ← c.self.view_is) at c.requires.enabled) (rw c.place_of-place.ensures at c.compare_exchange-found.ensures.2)).1
