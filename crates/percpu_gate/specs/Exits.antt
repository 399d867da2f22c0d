-- What the end of a gate refuses, and what it returns.
use Rattle.std.specs.Prelude.{◌≡◌, ℕ, ◌+◌, ◌≤◌, true, Option, Some, None, Result, Ok, Err}
use Rattle.percpu_core.specs.declared.phase.Phase.TheVariants.{Dead}
use Rattle.percpu_core.specs.declared.view.ControlView.{ControlView}
use Rattle.percpu_core.specs.declared.view.View.TheVariants.{OfControl}
use Rattle.percpu_core.specs.Phases.{is_phase}
use Rattle.percpu_core.specs.Starts.{starts_dead}
use Rattle.percpu_core.specs.Views.{count}
use Rattle.percpu_gate.specs.declared.exit.ExitWhy.{ExitWhy}
use Rattle.percpu_gate.specs.declared.exit.ExitFault.{ExitFault}
use Rattle.percpu_gate.specs.declared.exit.Final.{Final}
use Rattle.percpu_gate.specs.Seats.{GateFacts, Moment, zero_at}

-- the refusal of a result, if it is one
abbrev pub why_of : {A : Type 0} {W : ℕ} → Result A (ExitFault W) → Option ExitWhy
why_of (Ok x) = None
why_of (Err f) = Some f.why

-- these are the last facts of a gate whose control knew this
abbrev pub IsFinal : {W : ℕ} → ControlView → Final W → Type 0
IsFinal c left = (left.dead ≡ is_phase Dead c.standing.phase) × (left.kills ≡ c.standing.kills) × (left.releases ≡ c.releases) × (left.words ≡ c.words)

-- what the control knows of a gate that has ended
pub record Ended (g : GateFacts) (c : ControlView) : Type 0 where
  -- a moment at which all laws hold, with the gate's words and views when it ended. What the control knows ties it to this gate
  pub last : Moment g (OfControl c)
  -- at this moment, and at every other with the same view of the control, a dead gate had ZERO set: everything was put, and its release was won
  pub at_zero : (m : Moment g (OfControl c)) → zero_at m ≡ is_phase Dead c.standing.phase
  -- releases + (1 if it started dead) = zeros cleared + (1 if it is dead), and there are no more releases than kills
  pub releases : c.releases + count (starts_dead g.start) ≡ c.zeros_cleared + count (is_phase Dead c.standing.phase)
  pub at_most : c.releases ≤ c.standing.kills
  -- if a retired pass had found DEAD there was a kill, and if it had found ZERO a release, or the gate started dead
  pub found_dead : c.found_dead ≡ true → 1 ≤ c.standing.kills + count (starts_dead g.start)
  pub found_zero : c.found_zero ≡ true → 1 ≤ c.releases + count (starts_dead g.start)
