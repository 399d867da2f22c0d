use Rattle.std.proofs.Common.{◌≡◌, vec_capacity}
use Rattle.ram_disk.specs.Pattern.{pattern_sectors}
use Rattle.ram_disk.proofs.pattern.tiled.Given as goal

abbrev pub invariant-loop-number : goal.invariant-loop-number
invariant-loop-number l = record {
  made : l.sectors.items ≡ pattern_sectors l.pattern l.number;
  room : vec_capacity l.sectors ≡ l.fn.count;
}
