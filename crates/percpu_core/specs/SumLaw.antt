-- The sum law: every reference is counted once, wherever it was counted.
use Rattle.std.specs.Prelude.{◌≡◌, ◌+◌, ◌*◌, pos, ◌+ℤ◌, ◌-ℤ◌, List}
use Rattle.percpu_words.specs.SharedWord.{bias}
use Rattle.percpu_core.specs.declared.view.View.{View}
use Rattle.percpu_core.specs.declared.view.ControlView.{ControlView}
use Rattle.percpu_core.specs.Cells.{Cells, open_deltas}
use Rattle.percpu_core.specs.Phases.{holds_base, has_bias}
use Rattle.percpu_core.specs.Views.{count, held_by_all, additions_to_undo}

-- value + open deltas + sum not yet collected - bias in force = (1 if the initial reference is in) + held by all + additions to undo
abbrev pub SumLaw : Cells → ControlView → List View → Type 0
SumLaw cells control others =
    pos cells.shared.value +ℤ open_deltas cells.slots +ℤ control.standing.uncollected -ℤ pos (bias * count (has_bias control.standing.phase))
    ≡ pos (count (holds_base control.standing.phase) + held_by_all others + additions_to_undo others)
