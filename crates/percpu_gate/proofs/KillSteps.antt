-- The control's steps of a kill.
use Rattle.std.proofs.Common.{◌≡◌, ℕ, ◌+◌, ◌-◌, ◌%◌, ◌^◌, ◌≤◌, Bool, true, nat_eq, bit_or, None, refl, ap, ◌∙◌, arith}
use prog.Atomic.{either}
use Rattle.atomic_table.specs.Seated.{TableId}
use Rattle.atomic_table.specs.Table.{Me, Allows}
use Rattle.percpu_words.specs.SharedWord.{dead_mark, zero_mark}
use Rattle.percpu_words.proofs.SharedWordSteps.{subtracting, setting_dead}
use Rattle.percpu_core.specs.declared.control_event.ControlEvent.TheVariants as events
use Rattle.percpu_core.specs.declared.not_enabled.NotEnabled.TheVariants.{WrongPhase}
use Rattle.percpu_core.specs.declared.phase.Phase.{Phase}
use Rattle.percpu_core.specs.declared.phase.Phase.TheVariants.{Confirmed}
use Rattle.percpu_core.specs.declared.view.ControlView.{ControlView}
use Rattle.percpu_core.specs.Cells.{Cells, is_dead_alone}
use Rattle.percpu_core.specs.Views.{count}
use Rattle.percpu_core.specs.Phases.{holds_base}
use Rattle.percpu_core.specs.PassSteps.{minus}
use Rattle.percpu_core.specs.ControlSteps.{hinders_control}
use Rattle.percpu_core.proofs.Enabled.{no_reason, only}
use Rattle.percpu_gate.specs.declared.rule.GateKey.{GateKey}
use Rattle.percpu_gate.specs.declared.rule.SeatView.{SeatView}
use Rattle.percpu_gate.specs.Layout.{shared_place, front_place}
use Rattle.percpu_gate.specs.Rule.{Ruled, sizes_at, Took, control_after, shared_number, next_front_number}
use Rattle.percpu_gate.specs.Seats.{control_of, left, marked, put_of}
use Rattle.percpu_gate.proofs.Allowed.{ControlAt}
use Rattle.percpu_gate.proofs.Known.{ControlKnows}
use Rattle.percpu_gate.proofs.SharedWords as shared
use Rattle.percpu_gate.proofs.ControlSteps.{Free, Stepped, on_shared, stores_front, took}

module _ (k : GateKey) (slots id : ℕ) (me : Me (Unit {0}) SeatView) (sits : ControlAt k me) where
  abbrev c : ControlView
  c = control_of me.0.view

  pub sets_dead : Free k events.MarkDead me → Allows (Ruled k) slots id me shared_place (λ n. bit_or n dead_mark) (Took (control_after events.MarkDead) shared_number me)
  sets_dead free = on_shared k slots id me sits events.MarkDead (λ j e. cc) (λ n. bit_or n dead_mark) (λ cells q. let small = q.small in (free, setting_dead cells.shared (omega arith), refl, refl))

  base_in : Free k events.DropBase me → (cells : Cells) → ControlKnows cells c → 1 ≤ cells.shared.value
  base_in free cells q = let no = no_reason (hinders_control (sizes_at k) true None c.standing events.DropBase) free in
      let base = q.base in let one : count (holds_base c.standing.phase) ≡ 1 = ap (λ (x : Phase). count (holds_base x)) (only Confirmed c.standing.phase (no WrongPhase)) in omega arith

  pub drops_base : Free k events.DropBase me → Allows (Ruled k) slots id me shared_place (λ n. (n + (2 ^ 64 - 1)) % 2 ^ 64) (Took (control_after events.DropBase) shared_number me)
  drops_base free = on_shared k slots id me sits events.DropBase (λ j e. cc) (λ n. (n + (2 ^ 64 - 1)) % 2 ^ 64)
      (λ cells q. let small = q.small in (free, subtracting cells.shared 1 (base_in free cells q) (omega arith), refl, refl))

  pub marks_zero : Free k events.Mark me → Allows (Ruled k) slots id me shared_place (λ n. either (nat_eq n dead_mark) (dead_mark + zero_mark) n) (Took (control_after events.Mark) shared_number me)
  marks_zero free = on_shared k slots id me sits events.Mark (λ j e. cc) (λ n. either (nat_eq n dead_mark) (dead_mark + zero_mark) n)
      (λ cells q. let small = q.small in (free, shared.marking cells.shared (omega arith), refl, refl))

  pub confirms : (n : ℕ) → n ≡ c.front + 1 → Free k events.Confirm me → Allows (Ruled k) slots id me front_place (λ _. n) (λ _. Took (control_after events.Confirm) next_front_number me n)
  confirms n next free = stores_front k slots id me sits events.Confirm (λ j e. cc) n next (λ cells. (free, refl, refl))

  module _ (table : TableId) (found : ℕ) (new : Me (Unit {0}) SeatView) where
    pub base_dropped_as : Free k events.DropBase me → Took (control_after events.DropBase) shared_number me found new
        → Stepped k slots id me sits table events.DropBase new (left (nat_eq ((found + (2 ^ 64 - 1)) % 2 ^ 64) dead_mark))
    base_dropped_as free t = took k slots id me sits table events.DropBase shared_number found new _ t (λ cells q is. let small = q.small in let has = base_in free cells q in
        ap (λ (w : ℕ). left (nat_eq w dead_mark)) (ap (λ (w : ℕ). (w + (2 ^ 64 - 1)) % 2 ^ 64) is ∙ subtracting cells.shared 1 has (omega arith))
        ∙ ap left (shared.alone_is (minus 1 cells.shared) (omega arith)) ∙ shared.left_answer (is_dead_alone (minus 1 cells.shared)))

    pub zero_marked_as : Took (control_after events.Mark) shared_number me found new → Stepped k slots id me sits table events.Mark new (marked (put_of (nat_eq found dead_mark)))
    zero_marked_as t = took k slots id me sits table events.Mark shared_number found new _ t (λ cells q is. let small = q.small in
        ap (λ (b : Bool). marked (put_of b)) (ap (λ (n : ℕ). nat_eq n dead_mark) is ∙ shared.alone_is cells.shared (omega arith)) ∙ shared.mark_answer (is_dead_alone cells.shared))
