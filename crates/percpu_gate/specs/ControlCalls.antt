-- The refusals of the control's calls, and their effects.
use Rattle.std.specs.Prelude.{◌≡◌, ℕ, ◌+◌, ◌*◌, ◌<◌, ◌≤◌, ℤ, pos, ◌+ℤ◌, unsigned_abs, Bool, true, false, ◌||◌, nat_le, if◌then◌else◌, Option, Some, None, Result, Ok, Err, slice_set}
use Rattle.percpu_core.specs.declared.phase.Phase.{Phase}
use Rattle.percpu_core.specs.declared.phase.Phase.TheVariants.{LiveSlots, LiveAtomic, Closing, Collected, Confirmed, Dead, Reviving, Fronted, Opening}
use Rattle.percpu_core.specs.declared.control_standing.ControlStanding.{ControlStanding}
use Rattle.percpu_core.specs.declared.view.ControlView.{ControlView}
use Rattle.percpu_core.specs.Views.{count}
use Rattle.percpu_words.specs.SlotWord.{most_delta}
use Rattle.percpu_core.specs.Phases.{is_mid_switch, next_slot}
use Rattle.percpu_core.specs.LimitLaw.{fronts_due}
use Rattle.percpu_core.specs.declared.limits.TheConstants.{KILL_LIMIT, SLOT_LIMIT}
use Rattle.percpu_gate.specs.declared.control_fault.ControlFault.{ControlFault}
use Rattle.percpu_gate.specs.declared.control_fault.ControlFault.TheVariants.{AlreadyDead, NotDead, NotZero, MidSwitch, WornOut}
use Rattle.percpu_gate.specs.declared.exit.ExitWhy.{ExitWhy}
use Rattle.percpu_gate.specs.declared.exit.ExitWhy.TheVariants.{PassesOut}
use Rattle.percpu_gate.specs.declared.exit.ExitWhy.TheVariants.{MidSwitch as ExitMidSwitch}
use Rattle.percpu_gate.specs.declared.revived.Revived.{Revived}
use Rattle.percpu_gate.specs.declared.revived.Revived.TheVariants.{AtZero, Held}
use Rattle.percpu_gate.specs.declared.tried.Put.{Put}
use Rattle.percpu_gate.specs.declared.tried.Put.TheVariants.{Last, NotLast}
use Rattle.percpu_words.specs.declared.mode.Mode.{Mode}
use Rattle.percpu_words.specs.declared.mode.Mode.TheVariants.{Atomic, Slots}
use Rattle.percpu_core.specs.Phases.{live_in}
use Rattle.percpu_gate.specs.Modes.{switched_to}
use Rattle.percpu_gate.specs.Calls.{released}
use Rattle.percpu_gate.specs.Seats.{GateFacts, ControlFacts, FindsZero}

abbrev pub fault_number : ControlFault → ℕ
fault_number AlreadyDead = 1
fault_number NotDead = 2
fault_number NotZero = 3
fault_number MidSwitch = 4
fault_number WornOut = 5

-- the refusal of a result, if it is one
abbrev pub fault_of : {A : Type 0} → Result A ControlFault → Option ControlFault
fault_of (Ok x) = None
fault_of (Err why) = Some why

-- the state of the control, with no zero to mark and nothing to collect
abbrev pub standing : Phase → ℕ → ControlStanding
standing phase kills = record { phase = phase; kills = kills; to_mark = false; uncollected = pos 0 }

-- why a kill is refused in this phase after this many kills: one is under way, the gate is dead, or it is worn out
abbrev pub kill_refusal : Phase → ℕ → Option ControlFault
kill_refusal Dead kills = Some AlreadyDead
kill_refusal phase kills = if is_mid_switch phase then Some MidSwitch else (if nat_le KILL_LIMIT kills then Some WornOut else None)

abbrev pub is_last : Put → Bool
is_last Last = true
is_last NotLast = false

-- the phase after DEAD is set: slots that are open are closed first
abbrev pub phase_of_kill : Phase → Phase
phase_of_kill LiveSlots = Closing 0
phase_of_kill _ = Collected

-- how many slots a kill has to close, at a gate with this many
abbrev pub to_close : Phase → ℕ → ℕ
to_close LiveSlots slots = slots
to_close _ slots = 0

-- how many slots a kill has to close at the gate of this control, and a revival to open
abbrev pub to_close_of : ControlFacts → ℕ
to_close_of c = to_close c.view.standing.phase c.gate.slots

abbrev pub to_open : Mode → ℕ → ℕ
to_open Slots slots = slots
to_open Atomic slots = 0

abbrev pub to_open_of : ControlFacts → ℕ
to_open_of c = to_open c.wants c.gate.slots

-- the control with this view, after it has closed or opened this many more slots
abbrev pub after_moving : ℕ → ControlView → ControlFacts → ControlFacts
after_moving slots view c = record c { view = view; moves = c.moves + slots }

-- the same view in another phase
abbrev pub in_phase : Phase → ControlView → ControlView
in_phase phase c = record c { standing = record c.standing { phase = phase } }

-- the view after closing this many slots, if their deltas have this sum
abbrev pub after_closing : ℕ → ℤ → ControlView → ControlView
after_closing slots sum c = record c { standing = record c.standing { phase = Closing slots; uncollected = sum } }

-- the view after closing the next slot, with this delta
abbrev pub after_close : ℤ → ControlView → ControlView
after_close d c = record c { standing = record c.standing { phase = Closing (next_slot c.standing.phase + 1); uncollected = c.standing.uncollected +ℤ d } }

-- the view after collecting: a kill goes on, and a switch to the shared word is done
abbrev pub after_collect : ControlView → ControlView
after_collect c = record c { standing = record c.standing { phase = if c.killing then Collected else LiveAtomic; uncollected = pos 0 } }

-- the view after closing every slot and collecting them
abbrev pub after_gathering : ControlView → ControlView
after_gathering c = record c { standing = standing (if c.killing then Collected else LiveAtomic) c.standing.kills }

-- the view after each step of a kill
abbrev pub after_mark_dead : ControlView → ControlView
after_mark_dead c = record c { standing = standing (phase_of_kill c.standing.phase) (c.standing.kills + 1); killing = true }

abbrev pub after_confirm : ControlView → ControlView
after_confirm c = record c { standing = standing Confirmed c.standing.kills; front = c.front + 1 }

abbrev pub after_drop_base : Put → ControlView → ControlView
after_drop_base r c = record c { standing = standing Dead c.standing.kills; killing = false; releases = c.releases + released r; knows_zero = c.knows_zero || is_last r }

-- the view after a whole kill
abbrev pub after_kill : Put → ControlView → ControlView
after_kill r c = after_drop_base r (after_confirm (after_mark_dead c))

-- the states that the control can have between two of its calls
abbrev pub IsBetweenCalls : Phase → Type 0
IsBetweenCalls Reviving = ⊥
IsBetweenCalls Fronted = ⊥
IsBetweenCalls (Opening i) = ⊥
IsBetweenCalls _ = Unit {0}

-- what was closed and isn't collected is the sum of that many small deltas; there is none in any other phase
abbrev pub IsSumIn : Phase → ℤ → Type 0
IsSumIn (Closing i) sum = (i ≤ SLOT_LIMIT) × (unsigned_abs sum ≤ most_delta * i)
IsSumIn _ sum = sum ≡ pos 0

-- a kill is closing the slots of a gate with this many, and a slot is to be closed next, or all slots are closed
abbrev pub HasSlotToClose : Phase → ℕ → Type 0
HasSlotToClose (Closing i) slots = i < slots
HasSlotToClose _ slots = ⊥

abbrev pub HasClosedAll : Phase → ℕ → Type 0
HasClosedAll (Closing i) slots = i ≡ slots
HasClosedAll _ slots = ⊥

-- the front leaves room for those that are due
abbrev pub HasRoom : Phase → ℕ → ℕ → Type 0
HasRoom phase kills front = (kills ≤ KILL_LIMIT) × (front + fronts_due phase true ≤ 2 * (kills + 1))

-- why a call for a dead gate is refused
abbrev pub dead_refusal : Phase → Option ControlFault
dead_refusal Dead = None
dead_refusal phase = if is_mid_switch phase then Some MidSwitch else Some NotDead

-- why a call for a gate at zero is refused, by whether its load found ZERO
abbrev pub zero_refusal : Phase → Bool → Option ControlFault
zero_refusal Dead zero = if zero then None else Some NotZero
zero_refusal phase zero = dead_refusal phase

-- what the load of a call for a gate at zero found: ZERO, if the control knew it or had no pass out. A gate that isn't dead is refused before the load
pub record LooksForZero (g : GateFacts) (old : ControlView) (refusal : Option ControlFault) : Type 0 where
  pub zero : Bool
  pub found : old.standing.phase ≡ Dead → FindsZero g old zero
  pub known : old.knows_zero ≡ true → zero ≡ true
  pub none_out : old.passes ≡ 0 → old.standing.phase ≡ Dead → zero ≡ true
  pub refused : refusal ≡ zero_refusal old.standing.phase zero

abbrev pub is_at_zero : Revived → Bool
is_at_zero AtZero = true
is_at_zero Held = false

-- the phase of a live gate, by the mode that its control wants
abbrev pub live_phase : ControlFacts → Phase
live_phase c = live_in c.wants

-- why a switch is refused
abbrev pub switch_refusal : Phase → Option ControlFault
switch_refusal phase = if is_mid_switch phase then Some MidSwitch else None

-- how many slots a switch to this mode closes or opens: all, of a live gate in the other mode, and none of any other
abbrev pub to_switch : Mode → Phase → ℕ → ℕ
to_switch Atomic LiveSlots slots = slots
to_switch Slots LiveAtomic slots = slots
to_switch _ _ slots = 0

-- the control after a switch to this mode
abbrev pub after_switch : Mode → ControlFacts → ControlFacts
after_switch m c = record c {
  view = record c.view { standing = standing (switched_to m c.view.standing.phase) c.view.standing.kills };
  moves = c.moves + to_switch m c.view.standing.phase c.gate.slots;
  wants = m;
}

-- the view after a revival to this phase, of a gate at zero or not
abbrev pub after_revival : Phase → Bool → ControlView → ControlView
after_revival phase zero c = record c {
  standing = standing phase c.standing.kills;
  front = c.front + 1;
  revivals = c.revivals + 1;
  zeros_cleared = c.zeros_cleared + count zero;
  knows_zero = false;
}

-- the view after storing a word
abbrev pub after_store : ℕ → ℕ → ControlView → ControlView
after_store k v c = record c { words = slice_set c.words k v; knows_zero = true }

-- why a gate may not end: a kill is under way, or this many passes aren't retired
abbrev pub exit_refusal : Phase → ℕ → Option ExitWhy
exit_refusal phase passes = if is_mid_switch phase then Some ExitMidSwitch else (if nat_le 1 passes then Some (PassesOut passes) else None)

abbrev pub exit_number : ExitWhy → ℕ
exit_number ExitMidSwitch = 4
exit_number (PassesOut n) = 6
