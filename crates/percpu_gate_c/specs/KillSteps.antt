-- The effect of the steps of a kill, made one by one, and when C may not make them.
use Rattle.std.specs.Prelude.{◌≡◌, ℕ, ◌+◌, ◌%◌, ℤ, false, nat_lt, nat_eq, if◌then◌else◌, Option, Some, None, Result, Ok, Err}
use Rattle.percpu_words.specs.SlotWord.{IsDelta}
use Rattle.percpu_core.specs.Phases.{next_slot}
use Rattle.percpu_core.specs.declared.phase.Phase.{Phase}
use Rattle.percpu_core.specs.declared.phase.Phase.TheVariants.{LiveSlots, LiveAtomic, Closing, Collected, Confirmed, Dead, Reviving, Fronted, Opening}
use Rattle.percpu_gate.specs.declared.control_fault.ControlFault.{ControlFault}
use Rattle.percpu_gate.specs.declared.tried.Put.{Put}
use Rattle.percpu_gate.specs.ControlCalls.{IsBetweenCalls, fault_of, kill_refusal, to_close, after_mark_dead, after_close, after_collect, after_confirm, after_drop_base}
use Rattle.percpu_gate.specs.Seats.{FindsDelta}
use Rattle.c_answers.specs.declared.misuse.Misuse.{Misuse}
use Rattle.c_answers.specs.declared.misuse.Misuse.TheVariants.{Step}
use Rattle.c_answers.specs.Numbers.{number_of}
use Rattle.c_answers.specs.Ran.{RanOn}
use Rattle.percpu_gate_c.specs.Opened.{ControlOpened}
use Rattle.percpu_gate_c.specs.Numbers.{gate_number}
use Rattle.percpu_gate_c.specs.ControlCalls.{knowing, moving, OrRefused}

-- the state of the control
abbrev pub phase_of : ControlOpened → Phase
phase_of c = c.control.view.standing.phase

-- a slot is closed while a kill has closed fewer than there are
abbrev pub close_misuse_in : Phase → ℕ → Option Misuse
close_misuse_in (Closing i) slots = if nat_lt i slots then None else Some Step
close_misuse_in phase slots = Some Step

abbrev pub close_misuse : ControlOpened → Option Misuse
close_misuse c = close_misuse_in (phase_of c) c.control.gate.slots

-- the slots are collected once a kill has closed all of them
abbrev pub collect_misuse_in : Phase → ℕ → Option Misuse
collect_misuse_in (Closing i) slots = if nat_eq i slots then None else Some Step
collect_misuse_in phase slots = Some Step

abbrev pub collect_misuse : ControlOpened → Option Misuse
collect_misuse c = collect_misuse_in (phase_of c) c.control.gate.slots

-- a kill is confirmed once every count is on the shared word
abbrev pub confirm_misuse_in : Phase → Option Misuse
confirm_misuse_in Collected = None
confirm_misuse_in phase = Some Step

abbrev pub confirm_misuse : ControlOpened → Option Misuse
confirm_misuse c = confirm_misuse_in (phase_of c)

-- the initial reference is dropped once the kill is confirmed
abbrev pub drop_misuse_in : Phase → Option Misuse
drop_misuse_in Confirmed = None
drop_misuse_in phase = Some Step

abbrev pub drop_misuse : ControlOpened → Option Misuse
drop_misuse c = drop_misuse_in (phase_of c)

-- the effect of `mark_dead`, and the number of slots that have to be closed now
pub record BegunKill (old new : ControlOpened) (r : Result ℕ ControlFault) : Type 0 where
  pub refused : fault_of r ≡ kill_refusal (phase_of old) old.control.view.standing.kills
  pub begun : OrRefused old new (λ slots. (slots ≡ to_close (phase_of old) old.control.gate.slots) × (new ≡ knowing old (after_mark_dead old.control.view))) r

-- the effect of `close_next`, which has found this delta on the slot
pub record ClosedSlot (old new : ControlOpened) (delta : ℤ) : Type 0 where
  pub view : new ≡ moving 1 (after_close delta old.control.view) old
  pub found : FindsDelta old.control.gate (next_slot old.control.view.standing.phase) old.control.view delta
  pub small : IsDelta delta

-- the effect of `collect`
pub record CollectedSlots (old new : ControlOpened) (r : Unit {0}) : Type 0 where
  pub view : new ≡ knowing old (after_collect old.control.view)
  pub phase : phase_of new ≡ Collected

-- the effect of `confirm`, and the odd front of the kill
pub record ConfirmedKill (old new : ControlOpened) (front : ℕ) : Type 0 where
  pub view : new ≡ knowing old (after_confirm old.control.view)
  pub next : front ≡ old.control.view.front + 1
  pub odd : front % 2 ≡ 1

-- the effect of `drop_base`, given whether its put was the last
pub record DroppedBase (old new : ControlOpened) (put : Put) : Type 0 where
  pub view : new ≡ knowing old (after_drop_base put old.control.view)

-- the phase that the control returns, and its number
pub record TellsPhase (old new : ControlOpened) (phase : Phase) : Type 0 where
  pub same : new ≡ old
  pub value : phase ≡ phase_of old
  -- it is a phase that a control can have between two calls, with no zero to mark
  pub between : IsBetweenCalls phase
  pub settled : old.control.view.standing.to_mark ≡ false

abbrev pub phase_number : Phase → ℕ
phase_number LiveSlots = 0
phase_number LiveAtomic = 1
phase_number (Closing i) = 2
phase_number Collected = 3
phase_number Confirmed = 4
phase_number Dead = 5
phase_number Reviving = 6
phase_number Fronted = 7
phase_number (Opening i) = 8

-- the value that `mark_dead` writes: the number of slots, or the old value if the call is refused
abbrev pub slots_written : Result (Result ℕ ControlFault) Misuse → ℕ → ℕ
slots_written (Ok (Ok slots)) there = slots
slots_written (Ok (Err why)) there = there
slots_written (Err why) there = there

-- the same for a handle, which may be closed, by the number that C gets
abbrev pub Begins : Option ControlOpened → Option ControlOpened → ℕ → ℕ → ℕ → Type 0
Begins old new there here result = (answer : Result (Result ℕ ControlFault) Misuse) × (result ≡ number_of (gate_number (λ _. 0)) answer) × (here ≡ slots_written answer there) × RanOn (λ _. None) BegunKill old new answer
