use Rattle.std.proofs.Common.{sym, subst, ◌∙◌, w64, SFits, rules}
use Rattle.std.specs.Prelude.{ℤ}
use Rattle.std.proofs.lemmas.Int.{to_z-of_z}
use Rattle.percpu_words.specs.SlotWord.{IsDelta}
use Rattle.percpu_gate.specs.Seats.{FindsDelta, facts_of}
use Rattle.percpu_gate.proofs.SwitchCalls.{finds_delta, small_delta}
use Rattle.percpu_gate.proofs.control_seat.ControlSeat.close_next.Goals as goal

pub returns-clause-found : goal.returns-clause-found
returns-clause-found c = let fits : SFits w64 c.unwrap_or.result = search rules in subst (λ (d : ℤ). FindsDelta (facts_of c.args.gate.now) c.args.slot c.args.self.now.view d) (sym (to_z-of_z w64 _ fits ∙ c.unwrap_or.ensures))
    (finds_delta c.args.slot _ _ _ c.requires.next c.requires.there c.requires.turn c.close_slot.ensures.step)

pub returns-clause-small : goal.returns-clause-small
returns-clause-small c = let fits : SFits w64 c.unwrap_or.result = search rules in subst IsDelta (sym (to_z-of_z w64 _ fits ∙ c.unwrap_or.ensures)) (small_delta _ _ _ c.close_slot.ensures.step)
