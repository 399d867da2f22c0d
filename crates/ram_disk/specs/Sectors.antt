-- Sectors, one after another.
use Rattle.std.specs.Prelude.{ℕ, List, replicate}
use Rattle.ram_disk.specs.declared.sectors.Sectors.{Sectors}
use Rattle.ram_disk.specs.declared.sectors.Sectors.TheVariants.{Filled, Listed}
use Rattle.ram_disk.specs.Sector.{filled_with}

abbrev pub sectors_of : Sectors → List (List ℕ)
sectors_of (Filled byte count) = replicate count (filled_with byte)
sectors_of (Listed sectors) = sectors.items
