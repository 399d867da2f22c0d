use Rattle.percpu_gate.proofs.Tries.{added_live, slot_live, live_after_loss}
use Rattle.percpu_gate.proofs.pass_seat.PassSeat.count_live.Goals as goal

pub returns-then-take_if_open-clause-counts : goal.returns-then-take_if_open-clause-counts
returns-then-take_if_open-clause-counts c = slot_live c.args.slot _ _ (rw c.if-take_if_open.true at c.take_if_open.ensures.takes)

pub returns-clause-counts : goal.returns-clause-counts
returns-clause-counts c = live_after_loss _ c.args.slot _ _ _ c.add_live.result (rw c.if-take_if_open.false at c.take_if_open.ensures.takes) (added_live c.args.slot _ _ c.add_live.result c.add_live.ensures.step)
