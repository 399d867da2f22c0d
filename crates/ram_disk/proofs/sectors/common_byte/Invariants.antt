use Rattle.std.proofs.Common.{◌≡◌, replicate, take}
use Rattle.ram_disk.specs.Sector.{filled_with}
use Rattle.ram_disk.proofs.sectors.common_byte.Given as goal

abbrev pub invariant-loop-sector : goal.invariant-loop-sector
invariant-loop-sector l = take l.sector-index l.sectors ≡ replicate l.sector-index (filled_with l.byte)
