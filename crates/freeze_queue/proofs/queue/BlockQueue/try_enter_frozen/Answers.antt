use Rattle.freeze_queue.proofs.queue.BlockQueue.try_enter_frozen.Goals as goal

pub returns-in-Refused-clause-finds : goal.returns-in-Refused-clause-finds
returns-in-Refused-clause-finds c = rw (← c.self.view_is) (let f = c.in-Refused.ensures.finds in record { moment = f.moment; zero = f.zero; dead = f.dead })

pub returns-in-Entered-clause-meets : goal.returns-in-Entered-clause-meets
returns-in-Entered-clause-meets c = rw (← c.self.view_is) c.in-Entered.ensures.meets

pub returns-in-Refused-clause-meets : goal.returns-in-Refused-clause-meets
returns-in-Refused-clause-meets c = rw (← c.self.view_is) c.in-Refused.ensures.meets
