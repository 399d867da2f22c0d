use Rattle.percpu_gate.proofs.PassCalls.{few_subtracted}
use Rattle.percpu_gate.proofs.pass_seat.PassSeat.drop_held.Goals as goal

pub returns-clause-few : goal.returns-clause-few
returns-clause-few c = rw c.end_put.ensures.view (few_subtracted _ _ _ _ c.end_put.result c.subtract-to_mark.ensures.step)
