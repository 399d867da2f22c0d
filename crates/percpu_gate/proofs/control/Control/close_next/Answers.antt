use Rattle.std.proofs.Common.{ap, refl, sym, ◌∙◌, subst, w64, SFits, rules}
use Rattle.std.specs.Prelude.{ℤ}
use Rattle.std.proofs.lemmas.Int.{to_z-of_z}
use Rattle.percpu_words.specs.SlotWord.{IsDelta}
use Rattle.percpu_core.specs.Phases.{next_slot}
use Rattle.percpu_gate.specs.Seats.{FindsDelta, facts_of}
use Rattle.percpu_gate.proofs.SwitchCalls.{keeps_closing, few_slots}
use Rattle.percpu_gate.proofs.control.Control.close_next.Goals as goal

pub invariant_of-self : goal.invariant_of-self
invariant_of-self g c = let few = few_slots (facts_of c.gate.inside.table) _ c.close_next-delta.ensures.found.moment in let left = ap (λ f. f.view) c.close_next-delta.ensures.view in
    let kept = keeps_closing c.self.inside.phase c.self.inside.kills c.self.inside.front c.in-Closing.slot _ c.self.inside.uncollected c.close_next-delta.result _ _ _
    c.self.invariant.0 c.self.invariant.2 c.self.invariant.7 c.self.invariant.8 (rw (← c.gate.view_is, ← c.self.view_is) at c.requires.closing) few (sym (ap (λ s. next_slot s.phase) c.self.invariant.0 ∙ ap next_slot c.in-Closing.is)) c.close_next-delta.ensures.small refl left in
    (kept.stands, tt, kept.room, ap (λ v. v.front) left ∙ c.self.invariant.3, ap (λ v. v.releases) left ∙ c.self.invariant.4, ap (λ v. v.words) left ∙ c.self.invariant.5, ap (λ v. v.passes) left ∙ c.self.invariant.6, kept.sum_in, kept.killing, c.self.invariant.9, c.self.invariant.10, tt)

pub returns-clause-small : goal.returns-clause-small
returns-clause-small g c = let fits : SFits w64 c.close_next-delta.result = search rules in subst IsDelta (sym (to_z-of_z w64 _ fits)) c.close_next-delta.ensures.small

pub returns-clause-found : goal.returns-clause-found
returns-clause-found g c = let fits : SFits w64 c.close_next-delta.result = search rules in
    let slot = sym (ap (λ f. next_slot f.view.standing.phase) c.self.view_is) ∙ ap (λ s. next_slot s.phase) c.self.invariant.0 ∙ ap next_slot c.in-Closing.is in rw (slot, ← c.gate.view_is, ← c.self.view_is)
    (subst (λ (d : ℤ). FindsDelta (facts_of c.gate.inside.table) c.in-Closing.slot c.self.inside.seat.view d) (sym (to_z-of_z w64 _ fits)) c.close_next-delta.ensures.found)
