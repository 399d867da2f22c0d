-- The text so far, and what the other steps show, are all.
use Rattle.std.proofs.Common.{◌≡◌, drop}
use Rattle.gate_replay.specs.Shown.{then_shown, shown_from, shown_of}
use Rattle.gate_replay.proofs.replay.played.Given as goal

abbrev pub invariant-loop-line : goal.invariant-loop-line
invariant-loop-line l = then_shown l.text.items (shown_from l.world (drop l.line-index l.line-items)) ≡ shown_of l.schedule
