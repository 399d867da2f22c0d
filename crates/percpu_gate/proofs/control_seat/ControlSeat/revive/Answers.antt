use Rattle.std.proofs.Common.{◌∙◌, ap}
use Rattle.percpu_core.specs.declared.control_standing.ControlStanding.{ControlStanding}
use Rattle.percpu_gate.proofs.ControlGrounds.{revived, takes_back}
use Rattle.percpu_gate.proofs.control_seat.ControlSeat.revive.Goals as goal

pub returns-clause-view : goal.returns-clause-view
returns-clause-view c = λ j. record {
  gate = (c.clear_dead.ensures.own ∙ c.next_front.ensures.own ∙ c.take_base-found.ensures.own) j;
  view = revived _ _ _ _ _ c.is_zero.result (ap (λ (s : ControlStanding). s.uncollected) c.requires.dead) c.is_zero.ensures c.take_base-found.ensures.step c.next_front.ensures.step c.clear_dead.ensures.step j;
  moves = (c.clear_dead.ensures.moves ∙ c.next_front.ensures.moves ∙ c.take_base-found.ensures.moves) j;
}

pub returns-clause-base : goal.returns-clause-base
returns-clause-base c = takes_back _ _ _ c.is_zero.result c.is_zero.ensures c.take_base-found.ensures.step
