-- What C may do wrong with the control, and the effect of each of its calls.
use Rattle.std.specs.Prelude.{◌≡◌, ℕ, ◌+◌, ◌<◌, Bool, true, nat_le, nat_lt, nat_eq, if◌then◌else◌, Option, Some, None, Result, Ok, Err}
use Rattle.percpu_gate.specs.declared.tried.Put.{Put}
use Rattle.percpu_gate.specs.declared.control_fault.ControlFault.{ControlFault}
use Rattle.percpu_core.specs.declared.view.ControlView.{ControlView}
use Rattle.percpu_core.specs.declared.start.Start.{Start}
use Rattle.percpu_core.specs.declared.phase.Phase.TheVariants as phases
use Rattle.percpu_core.specs.declared.limits.TheConstants.{SLOT_LIMIT, PASS_LIMIT}
use Rattle.percpu_gate.specs.declared.revived.Revived.{Revived}
use Rattle.percpu_words.specs.declared.mode.Mode.{Mode}
use Rattle.percpu_gate.specs.Seats.{ControlFacts, FindsZero, fresh_pass, fresh_control}
use Rattle.percpu_gate.specs.Rule.{after_retire}
use Rattle.percpu_gate.specs.ControlCalls.{fault_of, kill_refusal, dead_refusal, switch_refusal, after_kill, after_revival, after_switch, after_store, after_moving, to_close_of, to_open_of, live_phase, is_at_zero, LooksForZero}
use Rattle.std.specs.Prelude.{◌||◌, ◌&&◌, List}
use Rattle.std.specs.Global.{Box}
use Rattle.c_answers.specs.declared.drawn_number.DrawnNumber.{DrawnNumber}
use Rattle.c_answers.specs.declared.misuse.Misuse.{Misuse}
use Rattle.c_answers.specs.declared.misuse.Misuse.TheVariants.{Closed, Open, Word, StillHeld, Foreign, Size, NoneWaits, Memory}
use Rattle.percpu_gate_c.specs.declared.open_pass.TheConstants.{WORDS}
use Rattle.percpu_gate_c.specs.Opened.{PassOpened, ControlOpened}

-- the same control with this view
abbrev pub knowing : ControlOpened → ControlView → ControlOpened
knowing c view = record c { control = record c.control { view = view } }

-- the same control with this view, after it has closed or opened this many more slots
abbrev pub moving : ℕ → ControlView → ControlOpened → ControlOpened
moving slots view c = record c { control = after_moving slots view c.control }

-- a control that has this many passes out
abbrev pub with_passes : ℕ → ControlFacts → ControlFacts
with_passes n c = record c { view = record c.view { passes = n } }

-- the effect of a call that the gate may refuse: nothing changes, or this holds
abbrev pub OrRefused : {A : Type 0} → ControlOpened → ControlOpened → (A → Type 0) → Result A ControlFault → Type 0
OrRefused old new left (Ok a) = left a
OrRefused old new left (Err why) = new ≡ old

-- the effect of `kill`
pub record Killed (old new : ControlOpened) (r : Result Put ControlFault) : Type 0 where
  pub refused : fault_of r ≡ kill_refusal old.control.view.standing.phase old.control.view.standing.kills
  pub killed : OrRefused old new (λ put. new ≡ moving (to_close_of old.control) (after_kill put old.control.view) old) r

-- the effect of a look for zero
pub record SawZero (old new : ControlOpened) (found : Bool) : Type 0 where
  pub view : new ≡ knowing old (record old.control.view { knows_zero = old.control.view.knows_zero || found })
  pub finds : FindsZero old.control.gate old.control.view found
  -- a zero that is known stays known, only a dead gate has one, and a dead gate has one once every pass is retired
  pub known : old.control.view.knows_zero ≡ true → found ≡ true
  pub dead : found ≡ true → old.control.view.standing.phase ≡ phases.Dead
  pub none_out : old.control.view.passes ≡ 0 → old.control.view.standing.phase ≡ phases.Dead → found ≡ true

-- the effect of `reinit`
pub record Reinited (old new : ControlOpened) (r : Result (Unit {0}) ControlFault) : Type 0 where
  pub looks : LooksForZero old.control.gate old.control.view (fault_of r)
  pub revived : OrRefused old new (λ _. new ≡ moving (to_open_of old.control) (after_revival (live_phase old.control) true old.control.view) old) r

-- the effect of `resurrect`
pub record Resurrected (old new : ControlOpened) (r : Result Revived ControlFault) : Type 0 where
  pub refused : fault_of r ≡ dead_refusal old.control.view.standing.phase
  pub revived : OrRefused old new (λ how. (new ≡ moving (to_open_of old.control) (after_revival (live_phase old.control) (is_at_zero how) old.control.view) old) × FindsZero old.control.gate old.control.view (is_at_zero how)) r

-- the effect of a switch to this mode
pub record Switched (mode : Mode) (old new : ControlOpened) (r : Result (Unit {0}) ControlFault) : Type 0 where
  pub refused : fault_of r ≡ switch_refusal old.control.view.standing.phase
  pub switched : OrRefused old new (λ _. new ≡ record old { control = after_switch mode old.control }) r

-- there are eight guarded words
abbrev pub store_misuse : ℕ → ControlOpened → Option Misuse
store_misuse k c = if nat_le WORDS k then Some Word else None

-- the effect of `store_word`
pub record StoredWord (k v : ℕ) (old new : ControlOpened) (r : Result (Unit {0}) ControlFault) : Type 0 where
  pub looks : LooksForZero old.control.gate old.control.view (fault_of r)
  pub stored : OrRefused old new (λ _. new ≡ knowing old (after_store k v old.control.view)) r

-- a number that the control returns
pub record Told (number : ControlView → ℕ) (old new : ControlOpened) (told : ℕ) : Type 0 where
  pub same : new ≡ old
  pub value : told ≡ number old.control.view

-- the guarded words that the control returns
pub record ToldWords (old new : ControlOpened) (told : List ℕ) : Type 0 where
  pub same : new ≡ old
  pub value : told ≡ old.control.view.words

-- a new gate has 1 to 512 slots and 1 to 1,024 passes
abbrev pub size_misuse : ℕ → ℕ → Option Misuse
size_misuse slots passes = if nat_eq slots 0 then Some Size else (if nat_lt SLOT_LIMIT slots then Some Size else (if nat_eq passes 0 then Some Size else (if nat_lt PASS_LIMIT passes then Some Size else None)))

-- the control of a new gate, whose passes no handle has yet
pub record NewControl (number : DrawnNumber) (slots passes : ℕ) (start : Start) (words : List ℕ) (c : ControlOpened) : Type 0 where
  pub number_given : c.number ≡ number
  pub waiting : c.waiting ≡ passes
  pub control : c.control ≡ fresh_control c.control.gate passes words
  pub slots_given : c.control.gate.slots ≡ slots
  pub started : c.control.gate.start ≡ start
  pub guarded : c.control.gate.words ≡ WORDS

-- the result of making it
abbrev pub Makes : Option Misuse → (ControlOpened → Type 0) → Result ControlOpened Misuse → Type 0
Makes (Some why) fresh answer = answer ≡ Err why
Makes None fresh (Ok c) = fresh c
Makes None fresh (Err why) = why ≡ Memory

-- the effect on a handle of making a gate: the handle has to be closed, and stays closed if there is no memory
abbrev pub Made : Option Misuse → (ControlOpened → Type 0) → Option ControlOpened → Option ControlOpened → Result (Unit {0}) Misuse → Type 0
Made misuse fresh (Some c) new answer = (answer ≡ Err Open) × (new ≡ Some c)
Made (Some why) fresh None new answer = (answer ≡ Err why) × (new ≡ None)
Made None fresh None new (Ok r) = (c : ControlOpened) × (new ≡ Some c) × fresh c
Made None fresh None new (Err why) = (why ≡ Memory) × (new ≡ None)

-- the next pass that no handle has had, if there is one and memory for it. If there is none, that isn't reported as refused memory
abbrev pub Next : ControlOpened → ControlOpened → Result PassOpened Misuse → Type 0
Next old new (Ok p) = (p ≡ record { number = old.number; pass = fresh_pass old.control.gate }) × (old ≡ record new { waiting = new.waiting + 1 })
Next old new (Err NoneWaits) = (old.waiting ≡ 0) × (new ≡ old)
Next old new (Err why) = (why ≡ Memory) × (0 < old.waiting) × (new ≡ old)

-- the same for a box
abbrev pub value_of : Result (Box PassOpened) Misuse → Result PassOpened Misuse
value_of (Ok b) = Ok b.value
value_of (Err why) = Err why

-- a pass that is retired holds nothing, and is of the control's gate
abbrev pub retire_misuse : ControlOpened → PassOpened → Option Misuse
retire_misuse c p = if nat_eq c.number.counter p.number.counter && nat_eq c.number.drawn p.number.drawn then (if nat_eq p.pass.view.standing.held 0 then None else Some StillHeld) else Some Foreign

-- the effect of retiring the pass of a handle
abbrev pub Retires : ControlOpened → ControlOpened → Option PassOpened → Option PassOpened → Result (Unit {0}) Misuse → Type 0
Retires old new None after answer = (answer ≡ Err Closed) × (new ≡ old) × (after ≡ None)
Retires old new (Some p) after (Err why) = (retire_misuse old p ≡ Some why) × (new ≡ old) × (after ≡ Some p)
Retires old new (Some p) after (Ok r) = (retire_misuse old p ≡ None) × (new ≡ knowing old (after_retire p.pass.view old.control.view)) × (after ≡ None)
