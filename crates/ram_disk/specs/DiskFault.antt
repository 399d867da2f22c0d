-- The numbers of a disk's faults.
use Rattle.std.specs.Prelude.{ℕ}
use Rattle.ram_disk.specs.declared.fault.DiskFault.{DiskFault}
use Rattle.ram_disk.specs.declared.fault.DiskFault.TheVariants.{PastEnd, Memory}

-- the number of a fault
abbrev pub fault_number : DiskFault → ℕ
fault_number PastEnd = 1
fault_number Memory = 2
