-- The bytes of a sector of each kind.
use Rattle.std.specs.Prelude.{ℕ, List}
use Rattle.ram_disk.specs.declared.sector.Kind.{Kind}
use Rattle.ram_disk.specs.declared.sector.Kind.TheVariants.{Filled, Copied}
use Rattle.ram_disk.specs.Sector.{filled_with}

abbrev pub bytes_of_kind : Kind → List ℕ
bytes_of_kind (Filled byte) = filled_with byte
bytes_of_kind (Copied block) = block.value.bytes
