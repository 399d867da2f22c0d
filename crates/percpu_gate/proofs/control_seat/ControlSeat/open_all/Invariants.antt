use Rattle.std.proofs.Common.{◌≡◌, ◌+◌}
use Rattle.percpu_gate.specs.ControlCalls.{in_phase}
use Rattle.percpu_gate.proofs.SwitchCalls.{opened_to}
use Rattle.percpu_gate.proofs.control_seat.ControlSeat.open_all.Given as goal

-- this many slots are open
abbrev pub invariant-loop-slot : goal.invariant-loop-slot
invariant-loop-slot l = l.self ≡ record l.fn.self { view = in_phase (opened_to l.fn.gate.key.slots l.slot) l.fn.self.view; moves = l.fn.self.moves + l.slot }
