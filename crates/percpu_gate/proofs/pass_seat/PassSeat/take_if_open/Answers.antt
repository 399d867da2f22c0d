use Rattle.percpu_gate.proofs.SlotCounts.{look_leaves, look_and_take}
use Rattle.percpu_gate.proofs.pass_seat.PassSeat.take_if_open.Goals as goal

pub returns-clause-takes : goal.returns-clause-takes
returns-clause-takes c = look_and_take c.args.slot _ c.args.n _ _ _ c.take_on_slot.result c.requires.slot c.requires.idle (look_leaves c.args.slot _ _ c.look_at_slot.result c.requires.idle c.look_at_slot.ensures.step) c.take_on_slot.ensures.step
