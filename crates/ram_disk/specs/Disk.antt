-- What a disk is, and what reading and writing mean. A disk is the list of its sectors, each a list of bytes.
use Rattle.std.specs.Prelude.{ℕ, ◌+◌, ◌≤◌, List, ◌++◌, length, take, drop, All}
use Rattle.ram_disk.specs.declared.disk.TheConstants.{MAX_SECTORS}
use Rattle.ram_disk.specs.Sector.{IsSector}

-- a disk has 1 to 4,096 sectors
abbrev pub IsDisk : List (List ℕ) → Type 0
IsDisk disk = (1 ≤ length disk) × (length disk ≤ MAX_SECTORS) × All IsSector disk

-- what a read of this many sectors, starting with a sector, gives
abbrev pub sectors_read : ℕ → ℕ → List (List ℕ) → List (List ℕ)
sectors_read start count disk = take count (drop start disk)

-- the disk after sectors are written to it, starting at a place
abbrev pub sectors_written : ℕ → List (List ℕ) → List (List ℕ) → List (List ℕ)
sectors_written start sectors disk = take start disk ++ sectors ++ drop (start + length sectors) disk
