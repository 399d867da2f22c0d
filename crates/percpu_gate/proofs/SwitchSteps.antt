-- The control's steps of a switch: closing slots and collecting, and adding the bias and opening them.
use Rattle.std.proofs.Common.{◌≡◌, ℕ, ◌+◌, ◌-◌, ◌%◌, ◌^◌, ◌≤◌, List, Option, Some, None, find, refl, ap, sym, ◌∙◌, subst, arith}
use Rattle.std.specs.Prelude.{ℤ, pos, ◌-ℤ◌, ◌↔◌, unwrap_or}
use Rattle.atomic_table.specs.Seated.{TableId}
use Rattle.atomic_table.specs.Table.{Me, Allows}
use Rattle.percpu_words.specs.SharedWord.{spelling, bias}
use Rattle.percpu_words.specs.SlotWord.{closed_mark, IsDelta, delta_spelling, Spells}
use Rattle.percpu_words.proofs.SharedWordSteps.{adding, subtracting}
use Rattle.percpu_core.specs.declared.control_event.ControlEvent.{ControlEvent}
use Rattle.percpu_core.specs.declared.control_event.ControlEvent.TheVariants as events
use Rattle.percpu_core.specs.declared.reply.Reply.TheVariants.{Collected}
use Rattle.percpu_core.specs.declared.sizes.Sizes.{Sizes}
use Rattle.percpu_core.specs.declared.slot.Slot.{Slot}
use Rattle.percpu_core.specs.declared.slot.Slot.TheVariants.{Closed, Open}
use Rattle.percpu_core.specs.declared.view.ControlView.{ControlView}
use Rattle.percpu_core.specs.Cells.{Cells, delta, slot_at, slot_spelling}
use Rattle.percpu_core.specs.Phases.{next_slot}
use Rattle.percpu_core.specs.ControlSteps.{hinders_control, collected, moved_by}
use Rattle.percpu_core.specs.Machine.{order, IsEnabled}
use Rattle.percpu_core.specs.StepsFit.{ControlFits}
use Rattle.percpu_core.proofs.SlotNumbers.{open_as_spelled, collecting_takes}
use Rattle.percpu_gate.specs.declared.rule.GateKey.{GateKey}
use Rattle.percpu_gate.specs.declared.rule.SeatView.{SeatView}
use Rattle.percpu_gate.specs.Layout.{shared_place, slot_place, slot_of}
use Rattle.percpu_gate.specs.Rule.{Spelled, Ruled, sizes_at, Took, control_after, shared_number, slot_number}
use Rattle.percpu_gate.specs.Seats.{control_of}
use Rattle.percpu_gate.proofs.Allowed.{ControlAt, control_allowed, sizes_are}
use Rattle.percpu_gate.proofs.Known.{ControlKnows}
use Rattle.percpu_gate.proofs.Places.{shared_written, slot_written}
use Rattle.percpu_gate.proofs.SlotSteps.{small_anywhere, slot_of_place}
use Rattle.percpu_gate.proofs.ControlSteps.{Free, Stepped, on_shared, took}

-- the delta that a slot's word encodes, if a closed one encodes none
told_delta : (t : Slot) (r : Option ℤ) → ((d : ℤ) → (r ≡ Some d) ↔ Spells (slot_spelling t) d) → IsDelta (delta t) → unwrap_or r (pos 0) ≡ delta t
told_delta Closed None told h = refl
told_delta (Open d) None told h = let is : None ≡ Some d = (told d).1 (h, refl) in cc
told_delta t (Some d) told h = ap delta (sym (open_as_spelled t d h ((told d).0 refl)))

module _ (k : GateKey) (slots id : ℕ) (me : Me (Unit {0}) SeatView) (sits : ControlAt k me) where
  abbrev c : ControlView
  c = control_of me.0.view

  -- a step that is enabled fits, whatever of ZERO
  fits : (e : ControlEvent) → ((cells : Cells) → IsEnabled (hinders_control (sizes_at k) cells.shared.zero None c.standing e)) → (cells : Cells) (ws : List ℕ) → ControlKnows cells c → Spelled k ws cells → ControlFits cells c e
  fits e free cells ws q z = q.fits None e (ap (λ (n : Sizes). find (hinders_control n cells.shared.zero None c.standing e) order) (sizes_are k cells z.slots z.guarded) ∙ free cells)

  pub adds_bias : Free k events.AddBias me → Allows (Ruled k) slots id me shared_place (λ n. (n + bias) % 2 ^ 64) (Took (control_after events.AddBias) shared_number me)
  adds_bias free = on_shared k slots id me sits events.AddBias (λ j e. cc) (λ n. (n + bias) % 2 ^ 64) (λ cells q. let small = q.small in (free, adding cells.shared bias (omega arith), refl, refl))

  pub opens_slot : (n : ℕ) → n ≡ delta_spelling (pos 0) → Free k events.OpenNext me
      → Allows (Ruled k) slots id me (slot_place (next_slot c.standing.phase)) (λ _. n) (λ _. Took (control_after events.OpenNext) (λ _. n) me n)
  opens_slot n is free = control_allowed k slots id (slot_place (next_slot c.standing.phase)) events.OpenNext (λ j e. cc) (λ _. n) (λ _. n) (λ _. n) me sits (λ cells ws q z. (
    free,
    record { found = refl; written = slot_written k ws cells z (next_slot c.standing.phase) (Open (pos 0)) n (fits events.OpenNext (λ x. free) cells ws q z).next is; same_size = refl },
  ))

  pub closes_slot : Free k events.Close me
      → Allows (Ruled k) slots id me (slot_place (next_slot c.standing.phase)) (λ _. closed_mark) (Took (control_after events.Close) (slot_number (next_slot c.standing.phase)) me)
  closes_slot free = control_allowed k slots id (slot_place (next_slot c.standing.phase)) events.Close (λ j e. cc) (λ _. closed_mark) (λ n. n) (slot_number (next_slot c.standing.phase)) me sits (λ cells ws q z.
      let there = (fits events.Close (λ x. free) cells ws q z).next in (
        free,
        record { found = z.words.slots (next_slot c.standing.phase) there; written = slot_written k ws cells z (next_slot c.standing.phase) Closed closed_mark there refl; same_size = refl },
      ))

  -- the same, of the slot that is next
  pub opens_at : (i n : ℕ) → i ≡ next_slot c.standing.phase → n ≡ delta_spelling (pos 0) → Free k events.OpenNext me
      → Allows (Ruled k) slots id me (slot_place i) (λ _. n) (λ _. Took (control_after events.OpenNext) (λ _. n) me n)
  opens_at i n is zero free = subst (λ (x : ℕ). Allows (Ruled k) slots id me (slot_place x) (λ _. n) (λ _. Took (control_after events.OpenNext) (λ _. n) me n)) (sym is) (opens_slot n zero free)

  pub closes_at : (i : ℕ) → i ≡ next_slot c.standing.phase → Free k events.Close me
      → Allows (Ruled k) slots id me (slot_place i) (λ _. closed_mark) (Took (control_after events.Close) (slot_number (slot_of (slot_place i))) me)
  closes_at i is free = subst (λ (x : ℕ). Allows (Ruled k) slots id me (slot_place i) (λ _. closed_mark) (Took (control_after events.Close) (slot_number x) me)) (sym (slot_of_place i))
      (subst (λ (x : ℕ). Allows (Ruled k) slots id me (slot_place x) (λ _. closed_mark) (Took (control_after events.Close) (slot_number x) me)) (sym is) (closes_slot free))

  -- what is taken off the shared word when the sum is collected: the bias less the sum
  takes_off : (n : ℕ) → pos n ≡ pos bias -ℤ c.standing.uncollected → Free k events.Collect me → (cells : Cells) (ws : List ℕ) → ControlKnows cells c → Spelled k ws cells
      → (n ≤ cells.shared.value) × (cells.shared.value - n ≡ moved_by c.standing.uncollected cells.shared.value - bias)
  takes_off n is free cells ws q z = collecting_takes c.standing.uncollected cells.shared.value n is (fits events.Collect (λ x. free) cells ws q z).value.0

  pub collects : (n : ℕ) → pos n ≡ pos bias -ℤ c.standing.uncollected → Free k events.Collect me
      → Allows (Ruled k) slots id me shared_place (λ w. (w + (2 ^ 64 - n)) % 2 ^ 64) (Took (control_after events.Collect) shared_number me)
  collects n is free = control_allowed k slots id shared_place events.Collect (λ j e. cc) (λ w. (w + (2 ^ 64 - n)) % 2 ^ 64) (λ w. w) shared_number me sits (λ cells ws q z.
      let off = takes_off n is free cells ws q z in let small = q.small in (
        free,
        record {
          found = z.words.shared;
          written = shared_written k ws cells z (collected c.standing.uncollected cells.shared) _ (ap (λ (w : ℕ). (w + (2 ^ 64 - n)) % 2 ^ 64) z.words.shared ∙ subtracting cells.shared n off.0 (omega arith)
              ∙ ap (λ (v : ℕ). spelling record cells.shared { value = v }) off.1);
          same_size = refl;
        },
      ))

  module _ (table : TableId) (found : ℕ) (new : Me (Unit {0}) SeatView) where
    pub slot_closed_as : (r : Option ℤ) → ((d : ℤ) → (r ≡ Some d) ↔ Spells found d) → Took (control_after events.Close) (slot_number (next_slot c.standing.phase)) me found new
        → Stepped k slots id me sits table events.Close new (Collected (unwrap_or r (pos 0)))
    slot_closed_as r told t = took k slots id me sits table events.Close (slot_number (next_slot c.standing.phase)) found new _ t (λ cells q is.
        ap Collected (told_delta (slot_at cells.slots (next_slot c.standing.phase)) r (subst (λ (w : ℕ). (d : ℤ) → (r ≡ Some d) ↔ Spells w d) is told) (small_anywhere cells.slots (next_slot c.standing.phase) q.deltas)))

    pub closed_at : (i : ℕ) (r : Option ℤ) → i ≡ next_slot c.standing.phase → ((d : ℤ) → (r ≡ Some d) ↔ Spells found d) → Took (control_after events.Close) (slot_number (slot_of (slot_place i))) me found new
        → Stepped k slots id me sits table events.Close new (Collected (unwrap_or r (pos 0)))
    closed_at i r is told t = slot_closed_as r told (subst (λ (x : ℕ). Took (control_after events.Close) (slot_number x) me found new) (slot_of_place i ∙ is) t)
