use Rattle.percpu_gate.proofs.ControlGrounds.{few_after_drop, few_after_mark}
use Rattle.percpu_gate.proofs.control_seat.ControlSeat.drop_initial.Goals as goal

pub returns-then-drop_base-clause-few : goal.returns-then-drop_base-clause-few
returns-then-drop_base-clause-few c = few_after_mark _ _ _ c.mark.ensures.step

pub returns-else-drop_base-clause-few : goal.returns-else-drop_base-clause-few
returns-else-drop_base-clause-few c = few_after_drop _ _ _ c.drop_base.ensures.step
