-- What a write does to each sector, to another write, and to a read; and what both are by bytes.
use Rattle.std.specs.Prelude.{◌≡◌, ℕ, ◌+◌, ◌*◌, ◌<◌, ◌≤◌, List, [], ◌++◌, length, take, drop, All}
use Rattle.std.specs.List.{slice_index_or}
use Rattle.ram_disk.specs.declared.sector.TheConstants.{SECTOR_BYTES}
use Rattle.ram_disk.specs.Disk.{sectors_read, sectors_written}
use Rattle.ram_disk.specs.Sector.{IsSector, bytes_of}

-- the sector with this number
abbrev pub sector_at : List (List ℕ) → ℕ → List ℕ
sector_at disk number = slice_index_or disk number []

-- a sector is one of this many, starting with a sector
abbrev pub IsWithin : ℕ → ℕ → ℕ → Type 0
IsWithin start count sector = (start ≤ sector) × (sector < start + count)

-- no sector is in both of two ranges, each given by its start and its count
abbrev pub AreDisjoint : ℕ → ℕ → ℕ → ℕ → Type 0
AreDisjoint start count other others = (sector : ℕ) → IsWithin start count sector → IsWithin other others sector → ⊥

-- sectors that are written, starting at a place, fit on the disk
abbrev pub Fits : ℕ → List (List ℕ) → List (List ℕ) → Type 0
Fits start sectors disk = start + length sectors ≤ length disk

-- a sector that is written is the sector given for its place
abbrev pub WritesItsSectors : Type 0
WritesItsSectors = (disk sectors : List (List ℕ)) (start place : ℕ) → Fits start sectors disk → place < length sectors
    → sector_at (sectors_written start sectors disk) (start + place) ≡ sector_at sectors place

-- every other sector is unchanged
abbrev pub KeepsOtherSectors : Type 0
KeepsOtherSectors = (disk sectors : List (List ℕ)) (start sector : ℕ) → Fits start sectors disk → (IsWithin start (length sectors) sector → ⊥)
    → sector_at (sectors_written start sectors disk) sector ≡ sector_at disk sector

-- writes of disjoint ranges leave the same disk in either order
abbrev pub DisjointWritesCommute : Type 0
DisjointWritesCommute = (disk first second : List (List ℕ)) (start other : ℕ) → Fits start first disk → Fits other second disk → AreDisjoint start (length first) other (length second)
    → sectors_written other second (sectors_written start first disk) ≡ sectors_written start first (sectors_written other second disk)

-- a read finds the same before and after a write of other sectors
abbrev pub ReadsBesideWritesStay : Type 0
ReadsBesideWritesStay = (disk sectors : List (List ℕ)) (start count other : ℕ) → start + count ≤ length disk → Fits other sectors disk → AreDisjoint start count other (length sectors)
    → sectors_read start count (sectors_written other sectors disk) ≡ sectors_read start count disk

-- a read of sectors is a read of their bytes
abbrev pub ReadsTheirBytes : Type 0
ReadsTheirBytes = (disk : List (List ℕ)) (start count : ℕ) → All IsSector disk → start + count ≤ length disk
    → bytes_of (sectors_read start count disk) ≡ take (count * SECTOR_BYTES) (drop (start * SECTOR_BYTES) (bytes_of disk))

-- a write of sectors is a write of their bytes: those before and after stay
abbrev pub WritesTheirBytes : Type 0
WritesTheirBytes = (disk sectors : List (List ℕ)) (start : ℕ) → All IsSector disk → Fits start sectors disk
    → bytes_of (sectors_written start sectors disk)
    ≡ take (start * SECTOR_BYTES) (bytes_of disk) ++ bytes_of sectors ++ drop ((start + length sectors) * SECTOR_BYTES) (bytes_of disk)
