use Rattle.percpu_gate.proofs.PassCalls.{few_undone}
use Rattle.percpu_gate.proofs.pass_seat.PassSeat.put_back.Goals as goal

pub returns-clause-few : goal.returns-clause-few
returns-clause-few c = rw c.end_put.ensures.view (few_undone _ _ _ c.end_put.result c.undo-to_mark.ensures.step)
