use Rattle.blk_workers.proofs.running.run_as.Given as goal

-- the run's own queue of completions
abbrev pub ghosts-run_on : goal.ghosts-run_on
ghosts-run_on g a = record { id = a.completions.id }
