-- A gate between two steps: its memory, and what each seat knows.
use Rattle.std.specs.Prelude.{◌≡◌, ◌+◌, false, Option, Some, None, List, [], ◌∷◌, map, replicate, slice_index_or, slice_set}
use Rattle.percpu_core.specs.declared.event.Event.{Event}
use Rattle.percpu_core.specs.declared.event.Event.TheVariants.{Pass, Control}
use Rattle.percpu_core.specs.declared.pass_event.PassEvent.{PassEvent}
use Rattle.percpu_core.specs.declared.control_event.ControlEvent.TheVariants.{Join}
use Rattle.percpu_core.specs.declared.pass_standing.PassStanding.{PassStanding}
use Rattle.percpu_core.specs.declared.view.PassView.{PassView}
use Rattle.percpu_core.specs.declared.view.ControlView.{ControlView}
use Rattle.percpu_core.specs.declared.view.View.{View}
use Rattle.percpu_core.specs.declared.view.View.TheVariants.{OfControl, OfPass, Spent}
use Rattle.percpu_core.specs.Cells.{Cells}
use Rattle.percpu_core.specs.Views.{releases_of_passes}
use Rattle.percpu_core.specs.PassSteps.{cells_after_pass}
use Rattle.percpu_core.specs.ControlSteps.{cells_after_control}
use Rattle.percpu_core.specs.PassLearns.{pass_view_after}
use Rattle.percpu_core.specs.ControlLearns.{control_view_after, joined}
use Rattle.percpu_core.specs.ReleaseLaw.{Origin}
use Rattle.percpu_core.specs.Laws.{Laws}
use Rattle.percpu_core.specs.Machine.{State}
use Rattle.percpu_core.specs.Starts.{Opening, starts_dead, first_cells, first_front, first_standing, idle}

-- the memory, the control's view, and the other views: the passes' in their order
pub record Snapshot : Type 0 where
  pub cells : Cells
  pub control : ControlView
  pub others : List View

-- the view after a step of its seat, and after its seat has joined
abbrev pub view_after : PassEvent → Cells → View → View
view_after e cells (OfPass p) = OfPass (pass_view_after e cells p)
view_after e cells (OfControl c) = OfControl c
view_after e cells Spent = Spent

abbrev pub control_taking : View → ControlView → ControlView
control_taking (OfPass p) c = joined c p
control_taking (OfControl d) c = c
control_taking Spent c = c

-- the snapshot after an event
abbrev pub snapshot_after : Snapshot → Event → Snapshot
snapshot_after m (Pass k e) = record { cells = cells_after_pass e m.cells; control = m.control; others = slice_set m.others k (view_after e m.cells (slice_index_or m.others k Spent)) }
snapshot_after m (Control (Join k)) = record { cells = m.cells; control = control_taking (slice_index_or m.others k Spent) m.control; others = slice_set m.others k Spent }
snapshot_after m (Control e) = record { cells = cells_after_control e m.control.standing m.cells; control = control_view_after e m.cells m.control; others = m.others }

-- the snapshot after all of these events
abbrev pub snapshot_after_all : Snapshot → List Event → Snapshot
snapshot_after_all m [] = m
snapshot_after_all m (e ∷ es) = snapshot_after_all (snapshot_after m e) es

-- what a world keeps of a snapshot
abbrev pub standing_of : View → Option PassStanding
standing_of (OfPass p) = Some p.standing
standing_of (OfControl c) = None
standing_of Spent = None

abbrev pub kept : Snapshot → State
kept m = record { cells = m.cells; control = m.control.standing; passes = map standing_of m.others; releases = m.control.releases + releases_of_passes m.others }

-- what the seats know at the start
abbrev pub first_pass : PassView
first_pass = record { standing = idle; read = []; seen_front = 0; floor = 0; front_loads = 0; live_given = 0; looks = 0; found_dead_times = 0; found_zero_times = 0; releases = 0; found_dead = false; found_zero = false }

abbrev pub first_control : Opening → ControlView
first_control o = record {
  standing = first_standing o;
  killing = false;
  words = o.words;
  front = first_front o.start o.kills;
  revivals = 0;
  zeros_cleared = 0;
  releases = 0;
  knows_zero = starts_dead o.start;
  passes = o.passes;
  found_dead = false;
  found_zero = false;
}

abbrev pub first_snapshot : Opening → Snapshot
first_snapshot o = record { cells = first_cells o; control = first_control o; others = replicate o.passes (OfPass first_pass) }

abbrev pub origin_of : Opening → Origin
origin_of o = record { dead = starts_dead o.start; kills = o.kills }

-- the laws hold of a snapshot of which the world keeps this
abbrev pub IsLawful : State → Type 0
IsLawful s = (origin : Origin) × (m : Snapshot) × (kept m ≡ s) × Laws origin m.cells m.control m.others
