-- The phase law: the phase determines which slots are open and whether DEAD is set.
use Rattle.std.specs.Prelude.{◌≡◌, ℕ, ◌<◌, ◌≤◌, Some, slice_get, length}
use Rattle.percpu_core.specs.declared.slot.Slot.{Slot}
use Rattle.percpu_core.specs.declared.phase.Phase.TheVariants.{Opening}
use Rattle.percpu_core.specs.declared.view.ControlView.{ControlView}
use Rattle.percpu_core.specs.Cells.{Cells, is_open}
use Rattle.percpu_core.specs.Phases.{is_dead_in, is_killing_in, is_open_in, closed_so_far}

pub record PhaseLaw (cells : Cells) (control : ControlView) : Type 0 where
  -- each slot is open or closed as the phase says
  pub slots : (k : ℕ) (s : Slot) → slice_get cells.slots k ≡ Some s → is_open s ≡ is_open_in control.standing.phase k
  pub closed : closed_so_far control.standing.phase ≤ length cells.slots
  -- a gate that opens its slots has one to open
  pub opening : (k : ℕ) → control.standing.phase ≡ Opening k → k < length cells.slots
  -- DEAD is set as the phase says
  pub dead : cells.shared.dead ≡ is_dead_in control.standing.phase control.killing
  pub killing : control.killing ≡ is_killing_in control.standing.phase control.killing
