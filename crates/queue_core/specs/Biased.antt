-- The lanes of a queue: what is parked there, and how the freezer keeps them in step with its gate.
use Rattle.std.specs.Prelude.{◌≡◌, ℕ, ◌+◌, ◌*◌, ◌≤◌, ◌<◌, ◌==◌, [], Some, if◌then◌else◌}
use Rattle.percpu_core.specs.declared.limits.TheConstants.{KILL_LIMIT}
use Rattle.percpu_gate.specs.Seats.{GateFacts}
use Rattle.percpu_gate.specs.declared.tried.Put.TheVariants.{Last}
use Rattle.percpu_gate.specs.Rule.{Steps}
use Rattle.percpu_gate.specs.Steps.{PutSteps}
use Rattle.bias_lanes.specs.declared.views.FreezerView.{FreezerView}
use Rattle.bias_lanes.specs.declared.views.Part.TheVariants.{OfFreezer}
use Rattle.bias_lanes.specs.Seats as lanes
use Rattle.queue_core.specs.Queue.{QueueFacts}
use Rattle.queue_core.specs.declared.parked.ParkedPass.{ParkedPass}

-- what holds of a parked pass: it is of this gate, holds one reference at most, and its slot is one of the gate's
pub record Fits (gate : GateFacts) (parked : ParkedPass) : Type 0 where
  pub own : parked.pass.gate ≡ gate
  pub one : parked.pass.view.standing.held ≤ 1
  pub slot : parked.slot < gate.slots

-- the epoch is even while the queue is live, and odd from the first freeze to the last thaw
abbrev pub epoch_after : ℕ → ℕ → ℕ
epoch_after depth kills = if depth == 0 then kills * 2 + 2 else kills * 2 + 1

-- how the freezer of the lanes stands to its gate's control
pub record KeepsLanes (f : lanes.FreezerFacts ParkedPass GateFacts) (gate : GateFacts) (depth kills : ℕ) : Type 0 where
  pub own : f.lanes.key ≡ gate
  pub epoch : f.view.epoch ≡ epoch_after depth kills
  pub few : kills ≤ KILL_LIMIT
  pub back : f.out ≡ []

-- the freezer took a pass out of the cell of a lane, and its put on the slot with which it was parked was the last
pub record DropsLast (q : QueueFacts) : Type 0 where
  pub lane : ℕ
  pub there : lane < q.lanes.id.slots
  pub freezer : FreezerView
  pub parked : ParkedPass
  pub taken : lanes.TakesIfParked Fits (record { key = q.gate; part = OfFreezer freezer }) lane (Some parked)
  pub steps : Steps
  pub put : PutSteps parked.slot 1 Last parked.pass.steps steps
