-- The numbers of a run's faults.
use Rattle.std.specs.Prelude.{ℕ}
use Rattle.blk_workers.specs.declared.fault.RunFault.{RunFault}
use Rattle.blk_workers.specs.declared.fault.RunFault.TheVariants.{Memory, Thread}

-- the fault's number
abbrev pub number_of : RunFault → ℕ
number_of Memory = 1
number_of Thread = 2
