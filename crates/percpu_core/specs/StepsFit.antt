-- Each enabled step of a seat fits: numbers have room for it, and its slot exists.
use Rattle.std.specs.Prelude.{ℕ, ◌+◌, ◌*◌, ◌<◌, ◌≤◌, List, Option, length, unsigned_abs}
use Rattle.percpu_words.specs.SharedWord.{dead_mark}
use Rattle.percpu_words.specs.SlotWord.{most_delta}
use Rattle.percpu_core.specs.declared.limits.TheConstants.{SLOT_LIMIT}
use Rattle.percpu_core.specs.declared.pass_event.PassEvent.{PassEvent}
use Rattle.percpu_core.specs.declared.control_event.ControlEvent.{ControlEvent}
use Rattle.percpu_core.specs.declared.pass_standing.PassStanding.{PassStanding}
use Rattle.percpu_core.specs.declared.view.PassView.{PassView}
use Rattle.percpu_core.specs.declared.view.ControlView.{ControlView}
use Rattle.percpu_core.specs.declared.view.View.{View}
use Rattle.percpu_core.specs.declared.view.View.TheVariants.{OfControl, OfPass}
use Rattle.percpu_core.specs.Cells.{Cells, sizes_of}
use Rattle.percpu_core.specs.PassSteps.{hinders_pass, added, taken_off}
use Rattle.percpu_core.specs.ControlSteps.{hinders_control, ValueFits, NextIsThere}
use Rattle.percpu_core.specs.Machine.{IsEnabled}
use Rattle.percpu_core.specs.LimitLaw.{AreSmall}
use Rattle.percpu_core.specs.ReleaseLaw.{Origin}
use Rattle.percpu_core.specs.Laws.{Lawful}
use Rattle.percpu_core.specs.SeatLaws.{Sees}

-- the shared value has what a pass's step subtracts and room for what it adds, and each slot's delta is within its limit
pub record PassFits (cells : Cells) (e : PassEvent) : Type 0 where
  pub takes : taken_off e ≤ cells.shared.value
  pub adds : cells.shared.value + added e < dead_mark
  pub slots : AreSmall cells.slots

-- the shared value has what the control's step subtracts and room for what it adds, the slot that it closes or opens exists, and each delta, closed or not, is within its limit
pub record ControlFits (cells : Cells) (c : ControlView) (e : ControlEvent) : Type 0 where
  pub value : ValueFits e c.standing.uncollected cells.shared.value
  pub next : NextIsThere e c.standing.phase (length cells.slots)
  pub slots : AreSmall cells.slots
  pub sum : unsigned_abs c.standing.uncollected ≤ SLOT_LIMIT * most_delta

-- whatever the memory and the views are, a step of a pass that is enabled by its own view fits
abbrev pub PassStepsFit : Type 0
PassStepsFit = (o : Origin) (cells : Cells) (views : List View) (i : ℕ) (p : PassView) (e : PassEvent) → Lawful o cells views → Sees views i (OfPass p)
    → IsEnabled (hinders_pass (sizes_of cells) p.standing e) → PassFits cells e

-- so does a step of the control
abbrev pub ControlStepsFit : Type 0
ControlStepsFit = (o : Origin) (cells : Cells) (views : List View) (i : ℕ) (c : ControlView) (joining : Option PassStanding) (e : ControlEvent) → Lawful o cells views → Sees views i (OfControl c)
    → IsEnabled (hinders_control (sizes_of cells) cells.shared.zero joining c.standing e) → ControlFits cells c e
