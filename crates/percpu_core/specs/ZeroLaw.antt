-- The zero law: ZERO is set only while nothing is held.
use Rattle.std.specs.Prelude.{◌≡◌, true, List}
use Rattle.percpu_core.specs.declared.view.View.{View}
use Rattle.percpu_core.specs.declared.view.ControlView.{ControlView}
use Rattle.percpu_core.specs.Cells.{Cells}
use Rattle.percpu_core.specs.Phases.{may_be_zero, is_coming_back}
use Rattle.percpu_core.specs.Views.{held_by_all}

pub record ZeroLaw (cells : Cells) (control : ControlView) (others : List View) : Type 0 where
  -- ZERO is set only from the drop of the initial reference, or a dead start, until DEAD is cleared, and then nothing is held
  pub after_drop : cells.shared.zero ≡ true → may_be_zero control.standing.phase ≡ true
  pub nothing_held : cells.shared.zero ≡ true → held_by_all others ≡ 0
  -- if the control knows that ZERO is set, it is set
  pub known : control.knows_zero ≡ true → cells.shared.zero ≡ true
  -- once the initial reference is taken back the control knows whether ZERO is set
  pub settled : is_coming_back control.standing.phase ≡ true → control.knows_zero ≡ cells.shared.zero
