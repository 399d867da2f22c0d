-- The front law: how the front depends on the phase, and what a pass knows of it.
use Rattle.std.specs.Prelude.{◌≡◌, ◌%◌, ◌≤◌, List}
use Rattle.percpu_core.specs.declared.view.View.{View}
use Rattle.percpu_core.specs.declared.view.ControlView.{ControlView}
use Rattle.percpu_core.specs.Cells.{Cells}
use Rattle.percpu_core.specs.Phases.{has_odd_front}
use Rattle.percpu_core.specs.Views.{count, EachPass}

pub record FrontLaw (cells : Cells) (control : ControlView) (others : List View) : Type 0 where
  -- the front is odd exactly from a confirmation to the front of the next life
  pub parity : cells.front % 2 ≡ count (has_odd_front control.standing.phase)
  pub known : control.front ≡ cells.front
  -- no floor of a pass is above the front, and a floor is at least the greatest front that the pass has seen
  pub floors : EachPass (λ p. (p.floor ≤ cells.front) × (p.seen_front ≤ p.floor)) others
