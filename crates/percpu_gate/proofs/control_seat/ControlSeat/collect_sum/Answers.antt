use Rattle.percpu_gate.proofs.SwitchCalls.{collected}
use Rattle.percpu_gate.proofs.control_seat.ControlSeat.collect_sum.Goals as goal

pub returns : goal.returns
returns c = record { view = λ j. record { gate = c.collect.ensures.own j; view = collected c.args.gate.now.key.slots _ _ c.requires.unmarked c.requires.closed c.collect.ensures.step j; moves = c.collect.ensures.moves j } }
