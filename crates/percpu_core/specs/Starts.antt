-- How a gate starts.
use Rattle.std.specs.Prelude.{ℕ, ◌+◌, ◌*◌, ◌≤◌, pos, Bool, true, false, Some, List, replicate, length}
use Rattle.percpu_core.specs.declared.limits.TheConstants.{PASS_LIMIT, SLOT_LIMIT, WORD_LIMIT, KILL_LIMIT}
use Rattle.percpu_core.specs.declared.slot.Slot.{Slot}
use Rattle.percpu_core.specs.declared.slot.Slot.TheVariants.{Closed, Open}
use Rattle.percpu_core.specs.declared.phase.Phase.{Phase}
use Rattle.percpu_core.specs.declared.phase.Phase.TheVariants.{LiveSlots, LiveAtomic}
use Rattle.percpu_core.specs.declared.phase.Phase.TheVariants.{Dead as DeadPhase}
use Rattle.percpu_core.specs.declared.start.Start.{Start}
use Rattle.percpu_core.specs.declared.start.Start.TheVariants.{Slots, Atomic, Dead}
use Rattle.percpu_core.specs.declared.control_standing.ControlStanding.{ControlStanding}
use Rattle.percpu_core.specs.declared.pass_standing.Pending.TheVariants.{Nothing}
use Rattle.percpu_core.specs.declared.pass_standing.PassStanding.{PassStanding}
use Rattle.percpu_words.specs.declared.mode.Mode.{Mode}
use Rattle.percpu_words.specs.declared.mode.Mode.TheVariants as modes
use Rattle.percpu_words.specs.SharedWord.{SharedWord, bias}
use Rattle.percpu_core.specs.Cells.{Cells}
use Rattle.percpu_core.specs.Machine.{State}

-- what a gate is made with
pub record Opening : Type 0 where
  pub slots : ℕ
  pub passes : ℕ
  pub start : Start
  pub kills : ℕ
  pub words : List ℕ

pub record IsWithinLimits (o : Opening) : Type 0 where
  pub some_slot : 1 ≤ o.slots
  pub slots : o.slots ≤ SLOT_LIMIT
  pub some_pass : 1 ≤ o.passes
  pub passes : o.passes ≤ PASS_LIMIT
  pub kills : o.kills ≤ KILL_LIMIT
  pub words : length o.words ≤ WORD_LIMIT

abbrev pub starts_dead : Start → Bool
starts_dead Dead = true
starts_dead _ = false

-- live with the initial reference, and with the bias if slots are open; or dead at zero
abbrev pub first_shared : Start → SharedWord
first_shared Slots = record { zero = false; dead = false; value = bias + 1 }
first_shared Atomic = record { zero = false; dead = false; value = 1 }
first_shared Dead = record { zero = true; dead = true; value = 0 }

-- each slot is open and counts nothing, or is closed
abbrev pub first_slot : Start → Slot
first_slot Slots = Open (pos 0)
first_slot _ = Closed

abbrev pub first_phase : Start → Phase
first_phase Slots = LiveSlots
first_phase Atomic = LiveAtomic
first_phase Dead = DeadPhase

-- the mode that a gate starts in, or that a dead one is to come back in
abbrev pub first_mode : Start → Mode
first_mode Atomic = modes.Atomic
first_mode _ = modes.Slots

-- two fronts for each kill, and one more for a dead start
abbrev pub first_front : Start → ℕ → ℕ
first_front Dead kills = 2 * kills + 1
first_front _ kills = 2 * kills

abbrev pub idle : PassStanding
idle = record { held = 0; pending = Nothing }

abbrev pub first_cells : Opening → Cells
first_cells o = record { shared = first_shared o.start; front = first_front o.start o.kills; slots = replicate o.slots (first_slot o.start); words = o.words }

abbrev pub first_standing : Opening → ControlStanding
first_standing o = record { phase = first_phase o.start; kills = o.kills; to_mark = false; uncollected = pos 0 }

abbrev pub first_state : Opening → State
first_state o = record {
  cells = first_cells o;
  control = first_standing o;
  passes = replicate o.passes (Some idle);
  releases = 0;
}

abbrev pub opening : ℕ → ℕ → Start → ℕ → List ℕ → Opening
opening slots passes start kills words = record { slots = slots; passes = passes; start = start; kills = kills; words = words }
