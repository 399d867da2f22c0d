use Rattle.percpu_gate.proofs.Tries.{added_try, slot_try, try_after_loss}
use Rattle.percpu_gate.proofs.pass_seat.PassSeat.count_try.Goals as goal

pub returns-then-take_if_open-clause-counts : goal.returns-then-take_if_open-clause-counts
returns-then-take_if_open-clause-counts c = slot_try c.args.slot _ _ (rw c.if-take_if_open.true at c.take_if_open.ensures.takes)

pub returns-clause-counts : goal.returns-clause-counts
returns-clause-counts c = try_after_loss _ c.args.slot _ _ _ c.add_try.result (rw c.if-take_if_open.false at c.take_if_open.ensures.takes) (added_try _ _ c.add_try.result c.add_try.ensures.step)
