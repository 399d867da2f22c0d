use Rattle.blk_workers.proofs.running.run_on.Given as goal

-- the run's own queues of requests and of free tags
abbrev pub ghosts-run_in : goal.ghosts-run_in
ghosts-run_in g a = record { requests = a.queues.now.requests.id; free_tags = a.queues.now.free_tags.id }
