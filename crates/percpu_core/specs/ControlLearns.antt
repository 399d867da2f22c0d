-- What the control knows after each of its steps.
use Rattle.std.specs.Prelude.{ℕ, ◌+◌, ◌-◌, Bool, true, false, ◌||◌, length}
use Rattle.percpu_core.specs.declared.control_event.ControlEvent.{ControlEvent}
use Rattle.percpu_core.specs.declared.control_event.ControlEvent.TheVariants.{MarkDead, DropBase, Mark, TakeBase, ClearDead, StoreWord, LookShared}
use Rattle.percpu_core.specs.declared.view.PassView.{PassView}
use Rattle.percpu_core.specs.declared.view.ControlView.{ControlView}
use Rattle.percpu_words.specs.SharedWord.{SharedWord}
use Rattle.percpu_core.specs.Cells.{Cells, is_dead_alone}
use Rattle.percpu_core.specs.Views.{count}
use Rattle.percpu_core.specs.ControlSteps.{control_reply, control_standing_after, words_after, front_after}
use Rattle.percpu_core.specs.Machine.{won}

-- a kill begins when DEAD is set, and ends when the initial reference is dropped
abbrev pub killing_after : ControlEvent → Bool → Bool
killing_after MarkDead killing = true
killing_after DropBase killing = false
killing_after _ killing = killing

abbrev pub revivals_after : ControlEvent → ℕ → ℕ
revivals_after ClearDead revivals = revivals + 1
revivals_after _ revivals = revivals

abbrev pub zeros_cleared_after : ControlEvent → SharedWord → ℕ → ℕ
zeros_cleared_after ClearDead s zeros = zeros + count s.zero
zeros_cleared_after _ s zeros = zeros

-- ZERO is known once it was found or set, or a guarded word was stored, until it is cleared
abbrev pub knows_zero_after : ControlEvent → SharedWord → Bool → Bool
knows_zero_after Mark s knows = knows || is_dead_alone s
knows_zero_after LookShared s knows = knows || s.zero
knows_zero_after TakeBase s knows = s.zero
knows_zero_after (StoreWord k v) s knows = true
knows_zero_after ClearDead s knows = false
knows_zero_after _ s knows = knows

-- the control's view after each step, except the step that takes in a pass
abbrev pub control_view_after : ControlEvent → Cells → ControlView → ControlView
control_view_after e cells c = record {
  standing = control_standing_after e (control_reply e c.standing cells) (length cells.slots) cells.shared.dead c.standing;
  killing = killing_after e c.killing;
  words = words_after e c.words;
  front = front_after e c.front;
  revivals = revivals_after e c.revivals;
  zeros_cleared = zeros_cleared_after e cells.shared c.zeros_cleared;
  releases = c.releases + won (control_reply e c.standing cells);
  knows_zero = knows_zero_after e cells.shared c.knows_zero;
  passes = c.passes;
  found_dead = c.found_dead;
  found_zero = c.found_zero;
}

-- the control takes in what a pass has won and found
abbrev pub joined : ControlView → PassView → ControlView
joined c p = record c {
  releases = c.releases + p.releases;
  passes = c.passes - 1;
  found_dead = c.found_dead || p.found_dead;
  found_zero = c.found_zero || p.found_zero;
}
