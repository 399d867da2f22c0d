-- The release law: releases against zeros cleared, revivals against kills.
use Rattle.std.specs.Prelude.{◌≡◌, ℕ, ◌+◌, ◌≤◌, Bool, true, List}
use Rattle.percpu_core.specs.declared.view.View.{View}
use Rattle.percpu_core.specs.declared.view.ControlView.{ControlView}
use Rattle.percpu_core.specs.Cells.{Cells}
use Rattle.percpu_core.specs.Views.{count, releases_of_passes, passes_left, EachPass}

-- whether the gate started dead, and the kills that it started with
pub record Origin : Type 0 where
  pub dead : Bool
  pub kills : ℕ

pub record ReleaseLaw (origin : Origin) (cells : Cells) (control : ControlView) (others : List View) : Type 0 where
  -- releases of all seats + (1 if it started dead) = zeros cleared + (1 if ZERO is set)
  pub releases : control.releases + releases_of_passes others + count origin.dead ≡ control.zeros_cleared + count cells.shared.zero
  pub zeros : control.zeros_cleared ≤ control.revivals
  -- revivals + (1 if DEAD is set) = kills made + (1 if it started dead)
  pub kills : control.revivals + count cells.shared.dead + origin.kills ≡ control.standing.kills + count origin.dead
  -- the control's number of passes not yet joined is the number of views that aren't spent
  pub passes : control.passes ≡ passes_left others
  -- if DEAD was found set, there was a kill or the start was dead; if ZERO was found set, there was a zero
  pub found_dead : EachPass (λ p. p.found_dead ≡ true → 1 ≤ control.revivals + count cells.shared.dead) others
  pub found_zero : EachPass (λ p. p.found_zero ≡ true → 1 ≤ control.zeros_cleared + count cells.shared.zero) others
  pub control_found_dead : control.found_dead ≡ true → 1 ≤ control.revivals + count cells.shared.dead
  pub control_found_zero : control.found_zero ≡ true → 1 ≤ control.zeros_cleared + count cells.shared.zero
