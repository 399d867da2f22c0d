-- What a gate that has ended leaves, of an open control whose passes were taken in, except those that it gave out.
use Rattle.std.proofs.Common.{◌≡◌, ℕ, Bool, true, false, ◌<◌, nat_le, if◌then◌else◌, Some, None, refl, ap, sym, subst, ◌∙◌, arith}
use Rattle.std.proofs.lemmas.Bool.{leb-false}
use Rattle.std.proofs.lemmas.Option.{none-some}
use Rattle.percpu_core.specs.Phases.{is_phase, is_mid_switch}
use Rattle.percpu_core.specs.declared.phase.Phase.TheVariants.{Dead}
use Rattle.percpu_gate.specs.declared.exit.ExitWhy.TheVariants as whys
use Rattle.percpu_gate.specs.ControlCalls.{exit_refusal}
use Rattle.percpu_gate.specs.Seats.{GateFacts, ControlFacts}
use Rattle.percpu_gate.specs.Exits.{Ended}
use Rattle.c_answers.specs.declared.drawn_number.DrawnNumber.{DrawnNumber}
use Rattle.percpu_gate_c.specs.declared.life.Final.{Final}
use Rattle.percpu_gate_c.specs.Opened.{ControlOpened}
use Rattle.percpu_gate_c.specs.ControlCalls.{with_passes}
use Rattle.percpu_gate_c.specs.Life.{IsFinal}

-- a gate that may end has no pass out
none_out : (mid some : Bool) (out : ℕ) → nat_le 1 out ≡ some → (if mid then Some whys.MidSwitch else (if some then Some (whys.PassesOut out) else None)) ≡ None → out ≡ 0
none_out true some out at is = absurd (none-some _ (sym is))
none_out false true out at is = absurd (none-some _ (sym is))
none_out false false out at is = let few : out < 1 = leb-false 1 out at in omega arith

pub final_of : {gate : GateFacts} {number : DrawnNumber} {waiting : ℕ} {control over : ControlFacts} (out : ℕ) {c : ControlOpened} {f : Final} → c ≡ record { number = number; waiting = waiting; control = control } → gate ≡ control.gate
    → over ≡ with_passes out control → exit_refusal control.view.standing.phase out ≡ None
    → f.dead ≡ is_phase Dead over.view.standing.phase → f.kills ≡ over.view.standing.kills → f.releases ≡ over.view.releases → f.words ≡ over.view.words → Ended gate over.view → IsFinal c f
final_of {gate = gate} {control = control} {over = over} out {f = f} is own taken may dead kills releases words lost =
    let left : over ≡ with_passes 0 control = taken ∙ ap (λ (n : ℕ). with_passes n control) (none_out (is_mid_switch control.view.standing.phase) (nat_le 1 out) out refl may) in
    subst (λ (o : ControlOpened). IsFinal o f) (sym is) (record {
      dead = dead ∙ ap (λ (o : ControlFacts). is_phase Dead o.view.standing.phase) left;
      kills = kills ∙ ap (λ (o : ControlFacts). o.view.standing.kills) left;
      releases = releases ∙ ap (λ (o : ControlFacts). o.view.releases) left;
      words = words ∙ ap (λ (o : ControlFacts). o.view.words) left;
      nothing_lost = subst (λ (g : GateFacts). Ended g (with_passes 0 control).view) own (subst (λ (o : ControlFacts). Ended gate o.view) left lost);
    })
