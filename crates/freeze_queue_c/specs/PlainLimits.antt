-- Four numbers as limits, and why they may be invalid.
use Rattle.std.specs.Prelude.{ℕ, ◌==◌, ◌||◌, nat_lt, if◌then◌else◌, Option, Some, None}
use Rattle.queue_limits.specs.Bounds.{Bounds, is_physical_size}
use Rattle.queue_limits.specs.declared.fault.LimitFault.{LimitFault}
use Rattle.queue_limits.specs.declared.fault.LimitFault.TheVariants.{AboveHardware, ChunkTooLarge, HardwareRange, BadPhysical}
use Rattle.queue_limits.specs.declared.limits.TheConstants.{CHUNK_LIMIT, HARDWARE_LIMIT}
use Rattle.freeze_queue_c.specs.declared.plain_limits.PlainLimits.{PlainLimits}

-- the limits with these numbers
abbrev pub as_bounds : PlainLimits → Bounds
as_bounds p = record { hardware = p.hardware; max = p.max; chunk = p.chunk; physical = p.physical }

-- the physical block that they ask for: 0 asks for one sector
abbrev pub block_of : PlainLimits → ℕ
block_of p = if p.physical == 0 then 1 else p.physical

-- the limits that they ask for: a maximum of 0 asks for the hardware's maximum
abbrev pub bounds_of : PlainLimits → Bounds
bounds_of p = record { hardware = p.hardware; max = (if p.max == 0 then p.hardware else p.max); chunk = p.chunk; physical = block_of p }

-- the first reason why no queue may have them
abbrev pub limit_refusal : PlainLimits → Option LimitFault
limit_refusal p =
    if nat_lt p.hardware 1 || nat_lt HARDWARE_LIMIT p.hardware then Some HardwareRange
    else if nat_lt p.hardware p.max then Some AboveHardware
    else if nat_lt CHUNK_LIMIT p.chunk then Some ChunkTooLarge
    else if is_physical_size (block_of p) then None
    else Some BadPhysical
