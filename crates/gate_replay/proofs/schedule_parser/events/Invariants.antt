-- The steps so far, and what is still to come, are all.
use Rattle.std.proofs.Common.{◌≡◌, length}
use Rattle.line_text.proofs.Fronts.{with_front}
use Rattle.gate_replay.specs.Schedules.{events_of}
use Rattle.gate_replay.proofs.schedule_parser.events.Given as goal

abbrev pub invariant-loop-line : goal.invariant-loop-line
invariant-loop-line l = with_front l.events.items (events_of l.text.said) ≡ events_of l.fn.text.said

abbrev pub decreases-loop-line : goal.decreases-loop-line
decreases-loop-line l = length l.text.said
