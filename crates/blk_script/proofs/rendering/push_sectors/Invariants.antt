use Rattle.std.proofs.Common.{◌≡◌, ℕ, ◌*◌, List, ◌++◌, length, take}
use Rattle.ram_disk.specs.declared.sector.TheConstants.{SECTOR_BYTES}
use Rattle.ram_disk.specs.Sector.{bytes_of}
use Rattle.ram_disk.specs.Runs.{IsRuns}
use Rattle.blk_script.specs.Closed.{closed_text}
use Rattle.blk_script.proofs.rendering.push_sectors.Given as goal

abbrev pub invariant-loop-sector : goal.invariant-loop-sector
invariant-loop-sector l = record {
  so_far : (closed : List (ℕ × ℕ)) × IsRuns (closed ++ l.runs.items) (bytes_of (take l.sector-index l.sectors)) × (l.out.items ≡ l.fn.out.items ++ closed_text closed) × (length l.runs.items ≡ 0 → length closed ≡ 0);
  size : length (bytes_of (take l.sector-index l.sectors)) ≡ l.sector-index * SECTOR_BYTES;
}
