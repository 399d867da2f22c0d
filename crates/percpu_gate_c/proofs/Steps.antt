-- What the closing of a slot says of an open control.
use Rattle.std.proofs.Common.{◌≡◌, ℕ, ℤ, ap, sym, subst}
use Rattle.percpu_words.specs.SlotWord.{IsDelta}
use Rattle.percpu_core.specs.Phases.{next_slot}
use Rattle.percpu_gate.specs.ControlCalls.{after_close, after_moving}
use Rattle.percpu_gate.specs.Seats.{GateFacts, ControlFacts, FindsDelta}
use Rattle.c_answers.specs.declared.drawn_number.DrawnNumber.{DrawnNumber}
use Rattle.percpu_gate_c.specs.Opened.{ControlOpened}
use Rattle.percpu_gate_c.specs.KillSteps.{ClosedSlot}

pub closed_slot : {gate : GateFacts} {number : DrawnNumber} {waiting : ℕ} {old new : ControlFacts} {before : ControlOpened} {delta told : ℤ} → before ≡ record { number = number; waiting = waiting; control = old } → gate ≡ old.gate → told ≡ delta
    → new ≡ after_moving 1 (after_close delta old.view) old → FindsDelta gate (next_slot old.view.standing.phase) old.view delta → IsDelta delta → ClosedSlot before (record { number = number; waiting = waiting; control = new }) told
closed_slot {number = number} {waiting = waiting} {old = old} {new = new} {delta = delta} {told = told} was own tells view found small =
    subst (λ (b : ControlOpened). ClosedSlot b (record { number = number; waiting = waiting; control = new }) told) (sym was)
    (subst (λ (d : ℤ). ClosedSlot (record { number = number; waiting = waiting; control = old }) (record { number = number; waiting = waiting; control = new }) d) (sym tells) (record {
      view = ap (λ (c : ControlFacts). record { number = number; waiting = waiting; control = c }) view;
      found = subst (λ (g : GateFacts). FindsDelta g (next_slot old.view.standing.phase) old.view delta) own found;
      small = small;
    }))
