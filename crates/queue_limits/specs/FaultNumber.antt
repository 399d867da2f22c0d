-- The number of each fault.
use Rattle.std.specs.Prelude.{ℕ}
use Rattle.queue_limits.specs.declared.fault.LimitFault.{LimitFault}
use Rattle.queue_limits.specs.declared.fault.LimitFault.TheVariants.{AboveHardware, ChunkTooLarge, HardwareRange, BadPhysical}

abbrev pub number_of : LimitFault → ℕ
number_of AboveHardware = 1
number_of ChunkTooLarge = 2
number_of HardwareRange = 3
number_of BadPhysical = 4
