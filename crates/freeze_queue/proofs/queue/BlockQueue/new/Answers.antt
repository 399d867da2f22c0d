use Rattle.freeze_queue.proofs.queue.BlockQueue.new.Goals as goal

pub returns-clause-freezer : goal.returns-clause-freezer
returns-clause-freezer c = c.in_ok-core.ensures.freezer
