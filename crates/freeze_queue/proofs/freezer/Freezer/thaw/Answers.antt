use Rattle.freeze_queue.proofs.freezer.Freezer.thaw.Goals as goal

pub returns-clause-thawed : goal.returns-clause-thawed
returns-clause-thawed c = rw (← c.self.view_is) (rw (← c.queue.view_is) c.in_ok-thawed.ensures.thawed)
