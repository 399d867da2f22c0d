-- The mark law: a zero that isn't marked yet has a seat that will mark it.
use Rattle.std.specs.Prelude.{◌≡◌, ◌+◌, ◌≤◌, true, List}
use Rattle.percpu_core.specs.declared.view.View.{View}
use Rattle.percpu_core.specs.declared.view.ControlView.{ControlView}
use Rattle.percpu_core.specs.Cells.{Cells, is_dead_alone}
use Rattle.percpu_core.specs.Views.{count, zeros_to_mark}

-- if the shared word is DEAD alone, some seat has a zero to mark
abbrev pub MarkLaw : Cells → ControlView → List View → Type 0
MarkLaw cells control others = is_dead_alone cells.shared ≡ true → 1 ≤ count control.standing.to_mark + zeros_to_mark others
