use Rattle.blk_workers.proofs.running.run_checked.Given as goal

-- the run's own script, and the queue that it made
abbrev pub ghosts-run_as : goal.ghosts-run_as
ghosts-run_as g a = record { script = a.inputs.now.checked.now; queue = a.parts.0 }
