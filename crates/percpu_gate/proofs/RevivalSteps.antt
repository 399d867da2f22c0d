-- The control's steps of a revival.
use Rattle.std.proofs.Common.{◌≡◌, ℕ, ◌+◌, ◌-◌, ◌%◌, ◌^◌, [], bit_and, refl, ap, subst, arith}
use Rattle.atomic_table.specs.Seated.{TableId}
use Rattle.atomic_table.specs.Table.{Me, Allows}
use Rattle.percpu_words.specs.SharedWord.{dead_mark}
use Rattle.percpu_words.proofs.SharedWordSteps.{adding, clearing_marks}
use Rattle.percpu_core.specs.declared.control_event.ControlEvent.TheVariants as events
use Rattle.percpu_core.specs.declared.view.ControlView.{ControlView}
use Rattle.percpu_core.specs.declared.view.View.TheVariants.{OfControl}
use Rattle.percpu_gate.specs.declared.rule.GateKey.{GateKey}
use Rattle.percpu_gate.specs.declared.rule.SeatView.{SeatView}
use Rattle.percpu_gate.specs.Layout.{shared_place, front_place}
use Rattle.percpu_gate.specs.Rule.{Ruled, seated, Took, control_after, shared_number, next_front_number}
use Rattle.percpu_gate.specs.Seats.{control_of, ControlFinds}
use Rattle.percpu_gate.proofs.Allowed.{ControlAt}
use Rattle.percpu_gate.proofs.ControlSteps.{Free, at_gate, on_shared, stores_front}

module _ (k : GateKey) (slots id : ℕ) (me : Me (Unit {0}) SeatView) (sits : ControlAt k me) where
  abbrev c : ControlView
  c = control_of me.0.view

  pub takes_base : Free k events.TakeBase me → Allows (Ruled k) slots id me shared_place (λ n. (n + 1) % 2 ^ 64) (Took (control_after events.TakeBase) shared_number me)
  takes_base free = on_shared k slots id me sits events.TakeBase (λ j e. cc) (λ n. (n + 1) % 2 ^ 64) (λ cells q. let small = q.small in (free, adding cells.shared 1 (omega arith), refl, refl))

  pub clears_dead : Free k events.ClearDead me → Allows (Ruled k) slots id me shared_place (λ n. bit_and n (dead_mark - 1)) (Took (control_after events.ClearDead) shared_number me)
  clears_dead free = on_shared k slots id me sits events.ClearDead (λ j e. cc) (λ n. bit_and n (dead_mark - 1)) (λ cells q. let small = q.small in (free, clearing_marks cells.shared (omega arith), refl, refl))

  pub stores_next_front : (n : ℕ) → n ≡ c.front + 1 → Free k events.NextFront me → Allows (Ruled k) slots id me front_place (λ _. n) (λ _. Took (control_after events.NextFront) next_front_number me n)
  stores_next_front n next free = stores_front k slots id me sits events.NextFront (λ j e. cc) n next (λ cells. (free, refl, refl))

  module _ (table : TableId) (found : ℕ) (new : Me (Unit {0}) SeatView) where
    pub base_taken_as : Took (control_after events.TakeBase) shared_number me found new
        → ControlFinds (at_gate k table) events.TakeBase c (control_of new.0.view) found × (new.0.moves ≡ me.0.moves)
    base_taken_as t = let own : Took (control_after events.TakeBase) shared_number (seated k (OfControl c) me.0.steps me.0.moves, []) found new =
        subst (λ (m : Me (Unit {0}) SeatView). Took (control_after events.TakeBase) shared_number m found new) sits t in (
          record { moment = own.moment; learned = ap (λ (m : Me (Unit {0}) SeatView). control_of m.0.view) own.learned; word_found = own.word_found },
          ap (λ (m : Me (Unit {0}) SeatView). m.0.moves) own.learned,
        )
