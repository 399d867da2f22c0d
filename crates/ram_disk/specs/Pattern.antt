-- The bytes that a pattern gives when it is repeated without end.
use Rattle.std.specs.Prelude.{ℕ, ◌+◌, ◌*◌, ◌%◌, List, length, map, slice_index}
use Rattle.std.specs.List.{range_with_len}
use Rattle.ram_disk.specs.declared.sector.TheConstants.{SECTOR_BYTES}

-- the byte at a place of the repeated pattern
abbrev pub pattern_byte : List ℕ → ℕ → ℕ
pattern_byte pattern place = slice_index pattern (place % length pattern)

-- this many bytes of the repeated pattern, from the first on: those at the places 0, 1, 2 and so on
abbrev pub pattern_bytes : List ℕ → ℕ → List ℕ
pattern_bytes pattern count = map (pattern_byte pattern) (range_with_len 0 count)

-- the repeated pattern's bytes, cut into sectors: the sector with this number
unfoldable pub pattern_sector : List ℕ → ℕ → List ℕ
pattern_sector pattern number = map (λ place. pattern_byte pattern (number * SECTOR_BYTES + place)) (range_with_len 0 SECTOR_BYTES)

-- this many of these sectors, from the first on
abbrev pub pattern_sectors : List ℕ → ℕ → List (List ℕ)
pattern_sectors pattern count = map (pattern_sector pattern) (range_with_len 0 count)
