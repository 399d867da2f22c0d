use Rattle.std.proofs.Common.{◌≡◌, ◌*◌, length, take}
use Rattle.ram_disk.specs.declared.sector.TheConstants.{SECTOR_BYTES}
use Rattle.ram_disk.specs.Sector.{bytes_of}
use Rattle.ram_disk.specs.Runs.{IsRuns}
use Rattle.ram_disk.proofs.run.runs.Given as goal

abbrev pub invariant-loop-sector : goal.invariant-loop-sector
invariant-loop-sector l = record {
  so_far : IsRuns l.runs.items (bytes_of (take l.sector-index l.sectors));
  size : length (bytes_of (take l.sector-index l.sectors)) ≡ l.sector-index * SECTOR_BYTES;
}
