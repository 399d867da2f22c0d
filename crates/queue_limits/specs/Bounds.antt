-- What limits are, as numbers of sectors.
use Rattle.std.specs.Prelude.{◌≡◌, ℕ, ◌≤◌, Bool, true, ◌&&◌, nat_le}
use Rattle.std.specs.Int.{is_power_of_two}
use Rattle.queue_limits.specs.declared.limits.TheConstants.{CHUNK_LIMIT, HARDWARE_LIMIT, PHYSICAL_LIMIT}

-- a request has at most `max` sectors, which is at most what the hardware takes, and crosses no multiple of `chunk`;
-- a physical block of the device has `physical` sectors
pub record Bounds : Type 0 where
  pub hardware : ℕ
  pub max : ℕ
  pub chunk : ℕ
  pub physical : ℕ

-- the sectors that a physical block may have: a power of two within the limit
abbrev pub is_physical_size : ℕ → Bool
is_physical_size sectors = nat_le sectors PHYSICAL_LIMIT && is_power_of_two sectors

-- the numbers that a queue may have as its limits
pub record AreAllowed (bounds : Bounds) : Type 0 where
  pub some_sector : 1 ≤ bounds.max
  pub within_hardware : bounds.max ≤ bounds.hardware
  pub hardware_range : bounds.hardware ≤ HARDWARE_LIMIT
  pub chunk_range : bounds.chunk ≤ CHUNK_LIMIT
  pub physical_size : is_physical_size bounds.physical ≡ true

-- what a device may take in one request
abbrev pub IsHardwareLimit : ℕ → Type 0
IsHardwareLimit sectors = (1 ≤ sectors) × (sectors ≤ HARDWARE_LIMIT)
