-- What a sector is, and the bytes of sectors laid end to end.
use Rattle.std.specs.Prelude.{◌≡◌, ℕ, ◌<◌, List, [], ◌∷◌, ◌++◌, length, replicate, All}
use Rattle.ram_disk.specs.declared.sector.TheConstants.{SECTOR_BYTES}

-- a sector holds 512 numbers, each of them a byte
abbrev pub IsSector : List ℕ → Type 0
IsSector bytes = (length bytes ≡ SECTOR_BYTES) × All (λ byte. byte < 256) bytes

-- the sector that has one byte at every place
unfoldable pub filled_with : ℕ → List ℕ
filled_with byte = replicate SECTOR_BYTES byte

-- the bytes of sectors, one sector after another
abbrev pub bytes_of : List (List ℕ) → List ℕ
bytes_of [] = []
bytes_of (sector ∷ sectors) = sector ++ bytes_of sectors
