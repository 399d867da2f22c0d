use Rattle.std.proofs.Common.{◌≡◌, ◌+◌, length, take}
use Rattle.std.specs.List.{All}
use lib.Seq.{paste}
use Rattle.ram_disk.specs.Sector.{IsSector}
use Rattle.ram_disk.proofs.disk.replace.Given as goal

abbrev pub invariant-loop-sector : goal.invariant-loop-sector
invariant-loop-sector l = record {
  at : l.place ≡ l.fn.start + length l.yielded;
  written : l.kept.items ≡ paste l.initial.kept.items l.fn.start l.fn.sectors.items (length l.yielded);
  whole : All IsSector (take (length l.yielded) l.fn.sectors.items);
}
