use Rattle.std.proofs.Common.{◌≡◌, ◌≤◌, ℕ, false}
use Rattle.uses.specs.Settings.{RoundSteps}
use Rattle.uses.proofs.settings.enter_under.Given as goal

abbrev pub invariant-loop : goal.invariant-loop
invariant-loop g l =
    (goal.iterator-loop g).can_next l.iterator' × (goal.iterator-loop g).is_finite l.iterator'
    × (l.tag.queue ≡ l.initial.tag.queue) × (l.tag.entered ≡ false) × (l.initial.tag.seat.live_given ≤ l.tag.seat.live_given)
    × ((rounds : ℕ) × RoundSteps l.slot rounds l.initial.tag.steps l.tag.steps)
