-- The limits of a gate, which keep its numbers small.
use Rattle.std.specs.Prelude.{◌≡◌, ℕ, ◌+◌, ◌*◌, ◌≤◌, Bool, pos, neg_ℤ, ◌≤ℤ◌, length, List, [], ◌∷◌}
use Rattle.percpu_words.specs.SlotWord.{most_delta, IsDelta}
use Rattle.percpu_core.specs.declared.limits.TheConstants.{HELD_LIMIT, PASS_LIMIT, SLOT_LIMIT, KILL_LIMIT}
use Rattle.percpu_core.specs.declared.slot.Slot.{Slot}
use Rattle.percpu_core.specs.declared.phase.Phase.{Phase}
use Rattle.percpu_core.specs.declared.phase.Phase.TheVariants.{Closing, Collected, Confirmed, Dead, Reviving}
use Rattle.percpu_core.specs.declared.view.View.{View}
use Rattle.percpu_core.specs.declared.view.ControlView.{ControlView}
use Rattle.percpu_core.specs.Cells.{Cells, delta}
use Rattle.percpu_core.specs.ReleaseLaw.{Origin}
use Rattle.percpu_core.specs.Phases.{closed_so_far}
use Rattle.percpu_core.specs.Views.{count, EachPass}

-- each delta is within its limit
abbrev pub AreSmall : List Slot → Type 0
AreSmall [] = Unit {0}
AreSmall (s ∷ ss) = IsDelta (delta s) × AreSmall ss

-- the number of fronts that are still to be stored for the latest kill; each kill has two
abbrev pub fronts_due : Phase → Bool → ℕ
fronts_due (Closing i) killing = 2 * count killing
fronts_due Collected killing = 2
fronts_due Confirmed killing = 1
fronts_due Dead killing = 1
fronts_due Reviving killing = 1
fronts_due _ killing = 0

pub record LimitLaw (origin : Origin) (cells : Cells) (control : ControlView) (others : List View) : Type 0 where
  -- this many passes haven't joined yet
  pub passes : control.passes ≤ PASS_LIMIT
  pub held : EachPass (λ p. p.standing.held ≤ HELD_LIMIT) others
  pub some_slot : 1 ≤ length cells.slots
  pub slots : length cells.slots ≤ SLOT_LIMIT
  pub deltas : AreSmall cells.slots
  -- what was closed and isn't collected yet is the sum of that many small deltas
  pub uncollected_most : control.standing.uncollected ≤ℤ pos (most_delta * closed_so_far control.standing.phase)
  pub uncollected_least : neg_ℤ (pos (most_delta * closed_so_far control.standing.phase)) ≤ℤ control.standing.uncollected
  pub kills : control.standing.kills ≤ KILL_LIMIT
  pub front : control.front + fronts_due control.standing.phase control.killing ≡ 2 * (control.standing.kills + count origin.dead)
