use Rattle.std.proofs.Common.{◌≡◌, ◌+◌, ◌*◌, ◌≤◌}
use Rattle.std.specs.Prelude.{unsigned_abs}
use Rattle.percpu_words.specs.SlotWord.{most_delta}
use Rattle.percpu_gate.proofs.SwitchCalls.{closed_to}
use Rattle.percpu_gate.proofs.control_seat.ControlSeat.close_all.Given as goal

-- this many slots are closed, with this sum
abbrev pub invariant-loop-slot : goal.invariant-loop-slot
invariant-loop-slot l = (l.self ≡ record l.fn.self { view = closed_to l.slot l.sum l.fn.self.view; moves = l.fn.self.moves + l.slot }) × (unsigned_abs l.sum ≤ most_delta * l.slot)
