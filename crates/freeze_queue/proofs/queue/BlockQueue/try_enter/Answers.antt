use Rattle.percpu_gate.specs.Calls.{has_dead}
use Rattle.freeze_queue.proofs.Looks.{no_look}
use Rattle.freeze_queue.proofs.queue.BlockQueue.try_enter.Goals as goal

-- what a try finds doesn't say whether its put was the last
pub returns-in-Refused-clause-finds : goal.returns-in-Refused-clause-finds
returns-in-Refused-clause-finds c = rw (← c.self.view_is) (let f = c.in-Refused.ensures.finds in record { moment = f.moment; refused = f.refused; given = f.given; even = f.even })

pub returns-in-Entered-clause-meets : goal.returns-in-Entered-clause-meets
returns-in-Entered-clause-meets c = rw (← c.self.view_is) c.in-Entered.ensures.meets

pub returns-in-Refused-clause-meets : goal.returns-in-Refused-clause-meets
returns-in-Refused-clause-meets c = rw (← c.self.view_is) c.in-Refused.ensures.meets

pub returns-in-Entered-clause-looks : goal.returns-in-Entered-clause-looks
returns-in-Entered-clause-looks c = no_look has_dead _ _ _ c.in-Entered.ensures.meets

pub returns-in-Refused-clause-looks : goal.returns-in-Refused-clause-looks
returns-in-Refused-clause-looks c = no_look has_dead _ _ _ c.in-Refused.ensures.meets
